-- Which parameters are kept: the first of each name, found by fingerprints. For `kept.rt` and well-formed records.
use Rattle.std.proofs.Common.{◌+◌, append_assoc, append-nil, arith, ◌≤◌, not, string_bytes, ◌⊎◌, false, cond, [], ◌∷◌}
use Rattle.std.proofs.Common.{◌++◌, get_or, drop, Option, None, Some, refl, ap₂, Global, slice_index, suc, ◌-◌, ⊎_elim}
use Rattle.std.proofs.Common.{get_or-take, set, length-take, length-append, take-append-drop, ◌≡◌, ℕ, List, String, ap}
use Rattle.std.proofs.Common.{length, map, min, sym, take, ◌∙◌, ◌<◌, ◌||◌, ◌&&◌, Bool, true, ◌≢◌, ◌==◌, ◌^◌, bit_and}
use Rattle.std.proofs.Common.{zero, ◌*◌, ◌%◌, bit_or, length-drop, length-take-le, take_all, w64, ◌/◌}
use Rattle.std.{proofs.Math.ListN.{drop_of_length-le}, proofs.lemmas.Bool.{cond-true, not-false, not-true, and_from}}
use Rattle.std.proofs.lemmas.Bool.{and_parts, cases_lt, cond_both, false_from_ne_true, agree_below_at, eqb-true}
use Rattle.std.{proofs.lemmas.Grind.{common_steps}, proofs.lemmas.List.{get_or-map, length-map, length-set, map-append}}
use Rattle.std.proofs.lemmas.List.{drop-append-le, take-append-le, take_more_set, get_or-drop, get_or-take}
use Rattle.std.proofs.lemmas.List.Folds.{list_all-append, list_all-map, list_all_at, list_any-append, list_any_at}
use Rattle.std.{proofs.lemmas.Map.Text.{btree_set_updates_text}, proofs.lemmas.Nat.Bits.{bit_at-lt, bit_at-suc}}
use Rattle.std.proofs.lemmas.Nat.Bits.{bit_at-trailing_zeros, bit_at_and, bit_at_lowest}
use Rattle.std.{proofs.lemmas.Simd.{bit_mask_l}, proofs.lemmas.Slice.Eq.{bytes_eq-Decides}}
use Rattle.std.proofs.lemmas.Str.{chars-IsAscii, chars-nil, IsUtf8-string_bytes}
use Rattle.std.{proofs.lemmas.Str.Ascii.{IsAscii-map, lowercase-lowercase, lowercase_ascii}, specs.BTreeSet.{BTreeSet}}
use Rattle.std.{specs.BTreeSet.{UpdatesBy, contains, contains_text}, specs.Char.{to_ascii_lowercase}}
use Rattle.std.{specs.Cmp.Lexicographic.{slice_cmp}, specs.Int.{bit_at}, specs.Int.Count.{count_trailing_zeros}}
use Rattle.std.{specs.List.{list_all}, specs.Ordering.{nat_cmp}, specs.Simd.Lanes.{mask_l}, specs.Str.{IsUtf8}}
use Rattle.std.{specs.Str.{bytes_eq, chars}, specs.String.{string_cmp}}
use Rattle.data_url.specs.{CodePoints.{is_quotable, is_token}, Mime.{Parses, Record, has_distinct_names}}
use Rattle.data_url.specs.Mime.{IsRecordOfParts, has_name, BeginsParameters, Item, Items, Pair, first_of_each_name}
use Rattle.data_url.specs.Mime.{is_lowercase_name, is_token_text, kept_pairs, valid_of, valid_pairs, HasNoRecord}
use Rattle.data_url.specs.{Mime.{IsHead, IsWellformed}, MimeType.{pair_of, code_points}, Steps.Kept.{first_of}}
use Rattle.data_url.specs.Steps.Kept.{fingerprint_of, pairs_of, AreFingerprints, HasLaterNames, IsIndexed, letter_at}
use Rattle.data_url.specs.Steps.Parsing.{HasLowercaseNames, added_pairs, item_in, pair_if, reading_in}
use Rattle.data_url.specs.{Steps.Parsing.{unless_named, HasNoHead}, declared.mime.kept.KeptParameters.{KeptParameters}}
use Rattle.data_url.specs.declared.mime.kept.TheConstants.{LOOKED_THROUGH, FINGERPRINTS_LEN, CASE}
use Rattle.data_url.proofs.mime.Items.{has_items, has_parameter, items_are, items_in, rest_shorter}
use Rattle.data_url.proofs.{mime.Parsing.{mark_is}, mime.TokenTexts.{bytes_of_ascii, token_text_ascii}}
use Rattle.data_url.proofs.{mime.TokenTexts.{token_text_chars}, texts.CodePoints.{no_chars}}

-- for texts that are not equal, the test of equality is false
pub test_from_different : (a c : List ℕ) → (a ≡ c → ⊥) → bytes_eq a c ≡ false
test_from_different a c n = grind (arith, false_from_ne_true, bytes_eq-Decides)

-- a code point in lower case is a token code point exactly if the code point is
token_lower : (c : ℕ) → is_token (to_ascii_lowercase c) ≡ is_token c
unfolding is_token
token_lower c = grind (arith, common_steps)

-- a text in lower case has only token code points exactly if the text has
all_token_lower : (t : List ℕ) → list_all is_token (map to_ascii_lowercase t) ≡ list_all is_token t
all_token_lower [] = refl
all_token_lower (c ∷ t) = ap₂ (λ x y. x && y) (token_lower c) (all_token_lower t)

-- a text in lower case is a token text exactly if the text is
pub token_text_lower : (t : List ℕ) → is_token_text (map to_ascii_lowercase t) ≡ is_token_text t
token_text_lower [] = refl
token_text_lower (c ∷ t) = all_token_lower (c ∷ t)

-- putting a text into lower case twice is the same as doing so once
pub lower_twice : (t : List ℕ) → map to_ascii_lowercase (map to_ascii_lowercase t) ≡ map to_ascii_lowercase t
lower_twice [] = refl
lower_twice (c ∷ t) = ap₂ (λ x y. x ∷ y) (lowercase-lowercase c) (lower_twice t)

-- a token text in lower case is a lower-case name
pub lowercase_name : (t : List ℕ) → is_token_text t ≡ true → is_lowercase_name (map to_ascii_lowercase t) ≡ true
lowercase_name t h = grind (arith, token_text_lower, bytes_eq-Decides, lower_twice)

-- the code points of a token text whose bytes are put into lower case are its code points in lower case
pub lower_chars : (bs : List ℕ) → IsUtf8 bs → is_token_text (chars bs) ≡ true
    → chars (map to_ascii_lowercase bs) ≡ map to_ascii_lowercase (chars bs)
lower_chars bs u h = search (arith, token_text_ascii, token_text_chars, chars-IsAscii, IsAscii-map, lowercase_ascii)

-- a lower-case name in lower case is the name itself
pub lower_is_itself : (t : List ℕ) → is_lowercase_name t ≡ true → map to_ascii_lowercase t ≡ t
lower_is_itself t h = grind (arith, bytes_eq-Decides)

-- a name in lower case is its bytes
pub lowercase_bytes : {A : Type 0} (name : String A) → is_lowercase_name (code_points name) ≡ true
    → string_bytes name ≡ code_points name
lowercase_bytes name h = grind (arith, IsUtf8-string_bytes, bytes_of_ascii, token_text_ascii)

-- a token text has at least one byte
pub some_byte : (n : List ℕ) → is_token_text (chars n) ≡ true → 0 < length n
some_byte [] h = grind (arith, chars-nil)
some_byte (b ∷ n) h = omega arith

-- the case bit of a byte can be set before or after it is put into lower case
case_lower : (b : ℕ) → b < 256 → bit_or (to_ascii_lowercase b) CASE ≡ bit_or b CASE
case_lower b l = eqb-true _ _
    (agree_below_at (λ b. bit_or (to_ascii_lowercase b) CASE == bit_or b CASE) (λ b. true) 256 b refl l)

-- so the letter at a place is the same in a text in lower case
letter_lower : (t : List ℕ) (k : ℕ) → slice_index t k < 256 → letter_at (map to_ascii_lowercase t) k ≡ letter_at t k
letter_lower [] k l = refl
letter_lower (c ∷ t) zero l = case_lower c l
letter_lower (c ∷ t) (suc k) l = letter_lower t k l

-- what is computed from the last three bytes of a name is the fingerprint of the name in lower case
pub fingerprint_is : (t : List ℕ) (last a b c : ℕ) → ((k : ℕ) → slice_index t k < 256) → last ≡ length t - 1
    → a ≡ letter_at t last → b ≡ letter_at t (last - 1) → c ≡ letter_at t (last - 2)
    → (a + 10 * b + 100 * c) % 256 ≡ fingerprint_of (map to_ascii_lowercase t)
unfolding fingerprint_of
fingerprint_is t last a b c fits l e f g = grind (arith, length-map, letter_lower)

-- a row has sixteen bytes
pub row_len : (bytes : List ℕ) (at : ℕ) → at + 16 ≤ length bytes → length (take 16 (drop at bytes)) ≡ 16
row_len bytes at l = length-take-le 16 (drop at bytes) (omega (arith, length-drop {A = ℕ}))

module _ (bytes : List ℕ) (at b : ℕ) {bits : ℕ} (l : at + 16 ≤ length bytes)
    (e : bits ≡ mask_l (map (λ c. c == b) (take 16 (drop at bytes)))) where
  -- where the bit of a row is not set, its byte is not b
  pub unmarked : (k : ℕ) → k < 16 → bit_at bits k ≡ 0 → slice_index bytes (at + k) ≢ b
  unmarked k m z =
      let p : ℕ → Bool = λ c. c == b in
      let row = take 16 (drop at bytes) in
      let bit : cond (p (slice_index bytes (at + k))) 1 0 ≡ 0 =
      ap (λ c. cond (p c) 1 0) (sym (get_or-drop at bytes k 0) ∙ sym (get_or-take 16 (drop at bytes) k 0 m))
      ∙ ap (λ v. cond v 1 0) (sym (get_or-map p row k 0 false (omega (arith, row_len bytes at l)))) ∙ sym (bit_mask_l
      (map p row) k)
      ∙ ap (λ n. bit_at n k) (sym e) ∙ z in
      λ same. absurd (grind (arith, same, bit))

-- if a bit is set in a number, but not in the number less one, no lower bit is set
lowest : (n k : ℕ) → bit_at n k ≡ 1 → bit_at (n - 1) k ≡ 0 → (i : ℕ) → i < k → bit_at n i ≡ 0
lowest n zero h z i l = absurd (omega arith)
lowest n (suc k) h z zero l = grind (arith, bit_at-suc n k, bit_at-suc (n - 1) k, bit_at_lowest n)
lowest n (suc k) h z (suc i) l = grind (arith, bit_at-suc, lowest (n / 2) k)

-- a bit that is set in n, and not in n & (n - 1), is the lowest one
pub cleared : {n k t : ℕ} → n ≢ 0 → n < 2 ^ 64 → t ≡ count_trailing_zeros 64 n → bit_at n k ≡ 1
    → bit_at (bit_and n (n - 1)) k ≡ 0 → k ≡ t
cleared {n} {k} {t} z l e h c = grind (arith, bit_at-trailing_zeros w64 n, bit_at_and n (n - 1) k, lowest n k h)

module _ (bytes : List ℕ) (pairs : List Pair) (p : Pair) (room : length bytes ≡ FINGERPRINTS_LEN)
    (h : AreFingerprints (take (length (first_of pairs)) bytes) (first_of pairs)) where
  -- if a pair that is pushed is one of the first ones, and its fingerprint is put into its place, it is the fingerprint
  -- of the pair
  pub alike_first : {b place : ℕ} → place ≡ length pairs → place < LOOKED_THROUGH → b ≡ fingerprint_of p.0
      → AreFingerprints (take (length (first_of (pairs ++ (p ∷ [])))) (set bytes place b))
      (first_of (pairs ++ (p ∷ [])))
  alike_first {b} {place} e l f =
      let before : first_of pairs ≡ pairs = take_all LOOKED_THROUGH pairs (omega arith) in
      let after : first_of (pairs ++ (p ∷ [])) ≡ pairs ++ (p ∷ []) =
      take_all LOOKED_THROUGH (pairs ++ (p ∷ [])) (simp length-append (omega arith)) in
      let long : length (pairs ++ (p ∷ [])) ≡ place + 1 = simp length-append (omega arith) in
      grind (arith, take_more_set, map-append)

  -- if it comes after the first ones, the fingerprints stay the same
  pub alike_later : LOOKED_THROUGH ≤ length pairs
      → AreFingerprints (take (length (first_of (pairs ++ (p ∷ [])))) bytes) (first_of (pairs ++ (p ∷ [])))
  alike_later l = rw (take-append-le LOOKED_THROUGH pairs (p ∷ []) l) h

-- if none of the pairs at any place has the name, none has it
pub all_unnamed : (n : List ℕ) (pairs : List Pair)
    → ((k : ℕ) → k < length pairs → bytes_eq (get_or pairs k ([], [])).0 n ≡ false) → has_name n pairs ≡ false
all_unnamed n [] h = refl
all_unnamed n (p ∷ pairs) h = grind (arith, h 0 (omega arith), all_unnamed n pairs (λ k l. h (suc k) (omega arith)))

-- none of the pairs of a row has the name whose bit is not set
pub record NoneUnset (n : List ℕ) (pairs : List Pair) (at left : ℕ) : Type 0 where
  pub unset : (k : ℕ) → at ≤ k → k < at + 16 → bit_at left (k - at) ≡ 0 → k < length pairs
      → bytes_eq (get_or pairs k ([], [])).0 n ≡ false

module _ {kept : KeptParameters} {len : ℕ} (x : IsIndexed kept)
    (e : len ≡ min LOOKED_THROUGH (length kept.pairs.items)) where
  -- there are so many first pairs
  pub first_len : length (first_of (pairs_of kept)) ≡ len
  first_len = simp (length-take, length-map) (omega arith)

  -- the fingerprint at a place is that of the name of the pair there
  fingerprint_at : (k : ℕ) → k < len
      → slice_index kept.fingerprints k ≡ fingerprint_of (get_or (first_of (pairs_of kept)) k ([], [])).0
  fingerprint_at k l =
      let first = first_of (pairs_of kept) in
      let within : k < length first = omega (arith, first_len) in
      grind (arith, get_or-take (length first) kept.fingerprints k 0 within, get_or-map)

  module _ {n : List ℕ} {b : ℕ} (u : IsUtf8 n) (h : is_token_text (chars n) ≡ true)
      (f : b ≡ fingerprint_of (map to_ascii_lowercase n)) where
    -- the name is its bytes
    same_name : chars n ≡ n
    same_name = sym (bytes_of_ascii n u (token_text_ascii (chars n) h))

    -- a pair does not have the name if its fingerprint is not that of the name
    pub none_unset : (at : ℕ) {bits : ℕ} → at + 16 ≤ length kept.fingerprints
        → bits ≡ mask_l (map (λ c. c == b) (take 16 (drop at kept.fingerprints)))
        → NoneUnset (map to_ascii_lowercase (chars n)) (first_of (pairs_of kept)) at bits
    none_unset at r m = record {
      unset = λ k a l z w. test_from_different _ _ (λ same. unmarked kept.fingerprints at b r m (k - at) (omega arith) z
          (ap (slice_index kept.fingerprints) (omega arith) ∙ fingerprint_at k (omega (arith, first_len))
          ∙ ap fingerprint_of (same ∙ ap (map to_ascii_lowercase) same_name) ∙ sym f));
    }

    module _ {place : ℕ} {item : String Global × String Global} {key : List ℕ} (l : place < len) (g : item
        ≡ get_or kept.pairs.items place item) (k : key ≡ string_bytes item.0) where
      -- the pair at a place
      item_at : get_or (first_of (pairs_of kept)) place ([], []) ≡ pair_of item
      item_at =
          get_or-take LOOKED_THROUGH (pairs_of kept) place ([], []) (omega arith)
          ∙ get_or-map (λ p. pair_of p) kept.pairs.items place item ([], []) (omega arith) ∙ ap (λ p. pair_of p) (sym g)

      -- its name is its bytes, which are in lower case
      key_is : (map to_ascii_lowercase key ≡ key) × (key ≡ code_points item.0)
      key_is =
          let h : is_lowercase_name (code_points item.0) ≡ true = grind (arith, list_all_at, list_all-map) in
          grind (arith, lower_is_itself, lowercase_bytes)

      -- the name of the first pair at a place is the key in lower case
      key_at : (get_or (first_of (pairs_of kept)) place ([], [])).0 ≡ map to_ascii_lowercase key
      key_at = ap (λ (p : Pair). p.0) item_at ∙ sym (key_is.0 ∙ key_is.1)

      -- if its key is the name in any ASCII case, one of the pairs has the name
      pub found_named : map to_ascii_lowercase key ≡ map to_ascii_lowercase n
          → has_name (map to_ascii_lowercase (chars n)) (first_of (pairs_of kept)) ≡ true
      found_named s = grind (arith, list_any_at, first_len, bytes_eq-Decides, key_at, same_name)

      -- otherwise, the bit of this place, which is the lowest, is cleared
      pub one_cleared : {at left t : ℕ} → NoneUnset (map to_ascii_lowercase (chars n)) (first_of (pairs_of kept)) at
          left
          → left ≢ 0 → left < 2 ^ 64 → t ≡ count_trailing_zeros 64 left → place ≡ at + t
          → (map to_ascii_lowercase key ≡ map to_ascii_lowercase n → ⊥)
          → NoneUnset (map to_ascii_lowercase (chars n)) (first_of (pairs_of kept)) at (bit_and left (left - 1))
      one_cleared {at} {left} g w v y i s = record {
        unset = λ k a m z r. ⊎_elim (λ (c : bit_at left (k - at) < 1). g.unset k a m (omega arith) r)
            (λ (c : 1 ≤ bit_at left (k - at)).
            let here : k ≡ place = omega (arith, cleared w v y (omega (arith, bit_at-lt left (k - at))) z) in
            test_from_different _ _ (λ same. s (sym key_at
            ∙ ap (λ i. (get_or (first_of (pairs_of kept)) i ([], [])).0) (sym here) ∙ same
            ∙ ap (map to_ascii_lowercase) same_name))) (cases_lt (bit_at left (k - at)) 1);
      }

-- one of the pairs has a name after p is pushed exactly if one had it before, or p has it
has_pushed : (n : List ℕ) (xs : List Pair) (p : Pair) → has_name n (xs ++ (p ∷ [])) ≡ (has_name n xs || bytes_eq p.0 n)
has_pushed n xs p = grind (arith, list_any-append {X = Pair})

-- the first pairs of each name depend on the names of the earlier pairs alone
first_same : (e e' ps : List Pair) → ((n : List ℕ) → has_name n e ≡ has_name n e')
    → first_of_each_name e ps ≡ first_of_each_name e' ps
first_same e e' [] h = refl
first_same e e' (q ∷ ps) h = grind (arith, has_pushed, first_same (e ++ (q ∷ [])) (e' ++ (q ∷ [])) ps)

-- after the pairs that an item adds come the first pairs of each name that are left
first_step : (pairs : List Pair) (item : Item) (ps : List Pair) → first_of_each_name pairs (valid_of item ++ ps)
    ≡ added_pairs pairs item ++ first_of_each_name (pairs ++ added_pairs pairs item) ps
first_step pairs (name, None) ps = rw (append-nil pairs) refl
first_step pairs (name, Some v) ps = grind (arith, first_same, has_pushed, bytes_eq-Decides, append-nil)

-- one of the pairs has a name exactly if one of the first pairs or one of the later pairs has it
first_or_later : (n : List ℕ) (pairs : List Pair)
    → has_name n pairs ≡ (has_name n (first_of pairs) || has_name n (drop LOOKED_THROUGH pairs))
first_or_later n pairs = ap (has_name n) (sym (take-append-drop LOOKED_THROUGH pairs))
    ∙ list_any-append (λ (p : Pair). bytes_eq p.0 n) (first_of pairs) (drop LOOKED_THROUGH pairs)

-- if no pair is added, the pairs stay the same
pub none_added : {A B : Type 0} (pairs : List (String A × String B)) (more : List Pair) → more ≡ []
    → map (λ p. pair_of p) pairs ≡ map (λ p. pair_of p) pairs ++ more
none_added pairs more e = grind (arith, append-nil)

-- no pair of a name is added if it is not a token text, or one of the first pairs has it
pub not_kept : (xs : List Pair) (name : List ℕ) (value : Option (List ℕ))
    → (is_token_text name ≡ false) ⊎ (has_name name (first_of xs) ≡ true) → unless_named xs (pair_if name value) ≡ []
not_kept xs name None h = refl
not_kept xs name (Some v) h = let all = first_or_later name xs in grind arith

-- the pair of a token text in lower case and a value
pub new_pair : (n name value : List ℕ) (o : Option (List ℕ)) (b : Bool) → b ≡ is_token_text n → b ≡ true
    → name ≡ map to_ascii_lowercase n → ◌≡◌ {A = Option (List ℕ)} (Some value) o
    → (name, value) ∷ [] ≡ pair_if (map to_ascii_lowercase n) o
new_pair n name value o b e h f v = grind (arith, token_text_lower)

-- the pairs and the first pairs of each name in the rest are those kept of the items of the whole text
pub record KeepsOn (whole rest : List ℕ) (pairs : List Pair) : Type 0 where
  pub begins : BeginsParameters rest
  pub kept : pairs ++ first_of_each_name pairs (valid_pairs (items_in (length rest) rest))
      ≡ kept_pairs (items_in (length whole) whole)

-- if the rest begins with a parameter, and the pairs get what its item adds, `KeepsOn` is true of what follows
pub keeps_more : {whole rest s rest' : List ℕ} {pairs pairs' pair : List Pair} → KeepsOn whole rest pairs
    → rest ≡ 59 ∷ s → pair ≡ valid_of (item_in s) → rest' ≡ (reading_in s).rest
    → pairs' ≡ pairs ++ unless_named pairs pair → KeepsOn whole rest' pairs'
keeps_more {whole} {rest} {s} {pairs = pairs} k e p r a =
    let next = (reading_in s).rest in
    let begins = (has_parameter s).begins in
    let more = items_are (length s) next (items_in (length next) next) (rest_shorter s) (has_items next begins) in
    let left = valid_pairs (items_in (length s) next) in
    let added = added_pairs pairs (item_in s) in
    let all = first_of_each_name (pairs ++ added) left in
    grind (arith, first_step pairs (item_in s) left, append_assoc pairs added all)

-- at the end, the pairs are those that are kept of the items of the whole text
pub keeps_end : {whole rest : List ℕ} {pairs : List Pair} → KeepsOn whole rest pairs → BeginsParameters whole
    → rest ≡ [] → (items : List Item) × Items whole items × (pairs ≡ kept_pairs items)
keeps_end {whole} {rest = []} {pairs = pairs} k w e = grind (arith, items_in, has_items, append-nil)
keeps_end {rest = c ∷ rest} k w e = absurd (cc)

-- if the pairs are more than eight, more than eight are kept of the items of the whole text
pub keeps_many : {whole rest : List ℕ} {pairs : List Pair} → KeepsOn whole rest pairs → BeginsParameters whole
    → 8 < length pairs → (items : List Item) × Items whole items × (8 < length (kept_pairs items))
keeps_many {whole} {rest} {pairs} k w l =
    let more = first_of_each_name pairs (valid_pairs (items_in (length rest) rest)) in
    (items_in (length whole) whole, has_items whole w, omega (arith, l, ap length k.kept, length-append pairs more))

-- if there are no more than `LOOKED_THROUGH` pairs, none of the later pairs has a name
pub few_names : (n : List ℕ) (pairs : List Pair) → length pairs ≤ LOOKED_THROUGH
    → has_name n (drop LOOKED_THROUGH pairs) ≡ false
few_names n pairs l = ap (has_name n) (drop_of_length-le pairs l)

-- if a new pair comes after the first pairs, and its name is put into the set, the set has the names of the later pairs
pub later_names : {A : Type 0} (later later' : BTreeSet (String A)) (pairs : List Pair) (p : Pair) (name : String A)
    → LOOKED_THROUGH ≤ length pairs → HasLaterNames later pairs → string_bytes name ≡ p.0
    → UpdatesBy string_cmp (λ k. slice_cmp nat_cmp (string_bytes name) (string_bytes k)) later later' true
    → HasLaterNames later' (pairs ++ (p ∷ []))
later_names later later' pairs p name l h e u n =
    let updated = btree_set_updates_text (string_bytes name) later later' true u n in
    let choice : cond (bytes_eq (string_bytes name) n) true (contains_text later n)
    ≡ (contains_text later n || bytes_eq (string_bytes name) n) = grind arith in
    cc (h n, has_pushed n (drop LOOKED_THROUGH pairs) p, drop-append-le LOOKED_THROUGH pairs (p ∷ []) l)

module _ {old : KeptParameters} (name value : String Global) (x : IsIndexed old)
    (lower : is_lowercase_name (code_points name) ≡ true) (new : has_name (code_points name) (first_of
    (pairs_of old)) ≡ false)
  where
    -- a pair that is pushed is added, if its name is new, the fingerprints are of the first pairs, and the set has the
    -- names of the later pairs
    pushes : (kept : KeptParameters) → has_name (code_points name) (pairs_of old) ≡ false
        → kept.pairs.items ≡ old.pairs.items ++ ((name, value) ∷ []) → length kept.fingerprints ≡ FINGERPRINTS_LEN
        → AreFingerprints (take (length (first_of (pairs_of old ++ (pair_of (name, value) ∷ [])))) kept.fingerprints)
        (first_of (pairs_of old ++ (pair_of (name, value) ∷ [])))
        → HasLaterNames kept.later_names (pairs_of old ++ (pair_of (name, value) ∷ []))
        → (pairs_of kept ≡ pairs_of old ++ unless_named (pairs_of old) (pair_of (name, value) ∷ [])) × IsIndexed kept
    pushes kept n e r a h = grind (arith, map-append, list_all-append)

    -- so it is if it is one of the first pairs
    pub pushed_first : (kept : KeptParameters) (place b : ℕ) → place ≡ length old.pairs.items → place < LOOKED_THROUGH
        → kept.pairs.items ≡ old.pairs.items ++ ((name, value) ∷ []) → b ≡ fingerprint_of (map to_ascii_lowercase
        (string_bytes name)) → kept.fingerprints ≡ set old.fingerprints place b → kept.later_names ≡ old.later_names
        → (pairs_of kept ≡ pairs_of old ++ unless_named (pairs_of old) (pair_of (name, value) ∷ [])) × IsIndexed kept
    pushed_first kept place b i l e g s f =
        let len = length-map old.pairs.items (λ q. pair_of q) in
        let its : b ≡ fingerprint_of (code_points name) = grind (arith, lowercase_bytes, lower_is_itself) in
        pushes kept (first_or_later (code_points name) (pairs_of old) ∙ ap₂ (λ a b. a || b) new
        (few_names (code_points name) (pairs_of old) (omega arith)))
        e (ap length s ∙ length-set old.fingerprints place b ∙ x.room)
        (rw s (alike_first old.fingerprints (pairs_of old) (pair_of (name, value)) x.room x.alike (omega arith) l its))
        (λ n. ap (λ s. contains_text s n) f ∙ x.later n ∙ few_names n (pairs_of old) (omega arith)
        ∙ sym (few_names n (pairs_of old ++ (pair_of (name, value) ∷ [])) (simp length-append (omega arith))))

    module _ (copy : String Global) {b : Bool} (same : string_bytes copy ≡ string_bytes name)
        (added : b ≡ not (contains string_cmp old.later_names copy)) where
      -- the set has the name exactly if one of the pairs has it
      set_knows : b ≡ not (has_name (code_points name) (pairs_of old))
      set_knows = grind (arith, lowercase_bytes name lower, first_or_later, x.later (string_bytes copy))

      -- if the set has the name, the pair is not added
      pub not_pushed : b ≡ false → pairs_of old ≡ pairs_of old ++ unless_named (pairs_of old) (pair_of
          (name, value) ∷ [])
      not_pushed f = none_added old.pairs.items _ (cond-true _ _ _ (not-false _ (sym set_knows ∙ f)))

      -- if its name is put into the set, the pair is added
      pub pushed_later : (kept : KeptParameters) → b ≡ true → LOOKED_THROUGH ≤ length old.pairs.items → kept.pairs.items
          ≡ old.pairs.items ++ ((name, value) ∷ []) → kept.fingerprints ≡ old.fingerprints → UpdatesBy string_cmp (λ k.
          slice_cmp nat_cmp (string_bytes copy) (string_bytes k)) old.later_names kept.later_names true → (pairs_of kept
          ≡ pairs_of old ++ unless_named (pairs_of old) (pair_of (name, value) ∷ [])) × IsIndexed kept
      pushed_later kept t l e s u =
          let len = length-map old.pairs.items (λ q. pair_of q) in
          pushes kept (not-true _ (sym set_knows ∙ t)) e (ap length s ∙ x.room) (rw s (alike_later old.fingerprints
          (pairs_of old) (pair_of (name, value)) x.room x.alike (omega arith)))
          (later_names old.later_names kept.later_names (pairs_of old)
          (pair_of (name, value)) copy (omega arith) x.later (same ∙ lowercase_bytes name lower) u)

-- what is true of each pair is true of the first pairs of each name
first_all : (p : Pair → Bool) (e ps : List Pair) → list_all p ps ≡ true → list_all p (first_of_each_name e ps) ≡ true
first_all p e [] h = refl
first_all p e (q ∷ ps) h = grind (arith, and_parts, cond_both, and_from, first_all p (e ++ (q ∷ [])) ps)

-- the values of the valid pairs have only quoted-string code points
all_quotable : (items : List Item) → list_all (λ (p : Pair). list_all is_quotable p.1) (valid_pairs items) ≡ true
all_quotable [] = refl
all_quotable (item ∷ items) = grind (arith, all_quotable items)

-- the names of the valid pairs of a text are lower-case
all_lower : (r : List ℕ) (items : List Item) → Items r items → HasLowercaseNames (valid_pairs items)
all_lower r [] h = refl
all_lower r (item ∷ items) h = grind (arith, lowercase_name, token_text_lower, items, all_lower h.1 items h.4)

-- if one of the earlier pairs has a name, none of the first pairs of each name that follow has it
none_again : (n : List ℕ) (e ps : List Pair) → has_name n e ≡ true → has_name n (first_of_each_name e ps) ≡ false
none_again n e [] h = refl
none_again n e (q ∷ ps) h =
    search (arith, none_again n (e ++ (q ∷ [])) ps (grind (arith, has_pushed)), bytes_eq-Decides)

-- no two of the first pairs of each name have equal names
first_distinct : (e ps : List Pair) → has_distinct_names (first_of_each_name e ps) ≡ true
first_distinct e [] = refl
first_distinct e (q ∷ ps) = grind (arith, none_again, has_pushed, bytes_eq-Decides, first_distinct (e ++ (q ∷ [])) ps)

-- a record of the parts of a head is well-formed
pub head_wellformed : {s a b c : List ℕ} {m : Record} → IsHead s a b c → IsRecordOfParts a b c m → IsWellformed m
head_wellformed h p = grind (arith, lowercase_name, first_all, all_lower, first_distinct, all_quotable)

-- a text that has a head parses to the record of the parts of that head
pub parses_parts : (s a b c : List ℕ) (m : Record) → IsHead s a b c → IsRecordOfParts a b c m → Parses s m
parses_parts s a b c m h p = grind arith

-- a text that has a head has a record
pub has_record : (s a b c : List ℕ) → IsHead s a b c → HasNoRecord s → ⊥
has_record s a b c h n =
    let items = items_in (length c) c in
    n (record { type_ = map to_ascii_lowercase a; subtype = map to_ascii_lowercase b; parameters = kept_pairs items })
    (parses_parts s a b c _ h (search (arith, has_items c h.begins)))

-- a text that has no head has no record
pub no_record : (s : List ℕ) → HasNoHead s → HasNoRecord s
no_record s n m h = n h.type_ h.subtype h.parameters h.head

-- the lemmas for `Mime::from_str`
pub ruleset records = (has_record, parses_parts)

-- the lemmas for `read_parameters`
pub ruleset parameters = (rest_shorter, mark_is, no_chars, keeps_end)
