-- Printed records: `Display` and `PartialEq` of `Mime`, and that parsing a printed record returns the record.
use Rattle.std.proofs.{lemmas.Grind.{common_steps}, Common.{Decides, IsTrue, String, string_bytes, map, encode_utf8}}
use Rattle.std.proofs.Common.{encode_utf8_all, refl, sym, subst, append_assoc, append-nil, drop-cons, drop_of_length-le}
use Rattle.std.proofs.Common.{arith, ◌==◌, ◌||◌, ◌&&◌, not, Some, ap, ◌↔◌, ◌≡◌, ℕ, ◌+◌, ◌<◌, ◌≤◌, Bool, true, false}
use Rattle.std.proofs.{Common.{List, [], ◌∷◌, ◌++◌, length, get_or, drop}, Output.{has_written_styled_append}}
use Rattle.std.proofs.{Output.{has_written_styled_nil, has_written_styled_of_eq}, lemmas.Bool.{and_from, and_parts}}
use Rattle.std.proofs.lemmas.Bool.{agree_below, agree_below_at, cond-true, cond_both, eqb-false, or_parts, false≢true}
use Rattle.std.proofs.lemmas.{Slice.Eq.{bytes_eq-Decides}, Simd.{map-map}, Str.{encodes-chars, IsUtf8-append}}
use Rattle.std.proofs.lemmas.Str.{IsUtf8-string_bytes, chars_past_char, encode_ascii, encodes-append}
use Rattle.std.specs.{List.{flat_map, AllZip, list_all, prefix_len}, Str.{IsUtf8, chars}, Fmt.{HasWrittenStyled}}
use Rattle.std.specs.{Fmt.{IsFlush}, Cmp.Lexicographic.{pointwise}, declared.fmt.Formatter.{Formatter}}
use Rattle.data_url.specs.CodePoints.{ends_name, is_http_whitespace, is_quotable, is_semicolon, is_token}
use Rattle.data_url.specs.Mime.{BeginsParameters, DoesNotBegin, Every, GivesValue, IsHead, IsParameter, IsWellformed}
use Rattle.data_url.specs.Mime.{Item, Items, Parses, Quoted, Record, first_of_each_name, Without, escaped_code_point}
use Rattle.data_url.specs.Mime.{is_token_text, printed, printed_pair, printed_value, Pair, has_distinct_names, has_name}
use Rattle.data_url.specs.Mime.{is_lowercase_name, is_quote, kept_pairs, unquoted, quoted, unless_empty, valid_pairs}
use Rattle.data_url.specs.{Mime.{after_backslash, nothing_quoted, as_itself}, Steps.Parsing.{DoesNotEnd}}
use Rattle.data_url.specs.{Steps.Parsing.{HasLowercaseNames, is_escaped}, MimeType.{code_points, pair_of, record_of}}
use Rattle.data_url.specs.MimeType.{SameTexts, same_pair, same_texts, texts_of_pair}
use Rattle.data_url.specs.Steps.Printing.{AddsToBuffer, IsHeld}
use Rattle.data_url.specs.{Steps.Printing.{held}, declared.mime.{Mime.{Mime}, print_buffer.PrintBuffer.{PrintBuffer}}}
use Rattle.data_url.proofs.mime.{FirstNames.{lower_is_itself, test_from_different}, Items.{not_begins_append}}
use Rattle.data_url.proofs.mime.{Items.{has_at_most_one_record}, Parsing.{ends_after, unescaped_steady, whole_passes}}
use Rattle.data_url.proofs.{mime.TokenTexts.{every_token, token_below}, texts.CodePoints.{no_chars, end_stays}}
use Rattle.data_url.proofs.texts.CodePoints.{not_ends_every, front_is}

-- moving the first code point of r, escaped, to the bytes so far preserves that these and the escaped r are the whole
pub escaped_more : (r r' done whole : List ℕ) (c : ℕ) → IsUtf8 r → r ≡ encode_utf8 c ++ r' → done
    ++ encode_utf8_all (flat_map escaped_code_point (chars r)) ≡ whole → (done
    ++ encode_utf8_all (escaped_code_point c)) ++ encode_utf8_all (flat_map escaped_code_point (chars r')) ≡ whole
escaped_more r r' done whole c u e h = grind (arith, append_assoc, chars_past_char)

-- if nothing is left to be escaped, the bytes so far are the whole
pub escaped_end : (r done whole : List ℕ) → length r ≡ 0
    → done ++ encode_utf8_all (flat_map escaped_code_point (chars r)) ≡ whole → done ≡ whole
escaped_end r done whole l h = grind (arith, append-nil, no_chars)

-- escaping a text without '"' and '\' does not change it
plain_chars : (cs : List ℕ) → Without is_escaped cs → flat_map escaped_code_point cs ≡ cs
plain_chars [] h = refl
plain_chars (c ∷ cs) h = grind (arith, plain_chars cs h.1)

-- a text that has as many bytes other than '"' and '\' at its front as bytes is the UTF-8 of its escaped code points
pub plain_copy : (v bytes : List ℕ) (n : ℕ) → IsUtf8 v → bytes ≡ v → n ≡ prefix_len (λ c. not (is_escaped c)) bytes
    → n ≡ length v → v ≡ encode_utf8_all (flat_map escaped_code_point (chars v))
plain_copy v bytes n u e f g =
    let passes = whole_passes _ unescaped_steady v bytes n u e f g in
    grind (arith, encodes-chars, encode_utf8_all, plain_chars)

-- a token text is printed as it is
pub token_value_text : (v : List ℕ) (b : Bool) → IsUtf8 v → b ≡ is_token_text (chars v) → b ≡ true
    → v ≡ encode_utf8_all (printed_value (chars v))
token_value_text v b u e h = grind (arith, encodes-chars)

-- a value that is not a token text is printed as its escaped code points in quotes
pub quoted_value_text : (v : List ℕ) (b : Bool) → b ≡ is_token_text (chars v) → b ≡ false → ((34 ∷ [])
    ++ encode_utf8_all (flat_map escaped_code_point (chars v))) ++ (34 ∷ []) ≡ encode_utf8_all (printed_value (chars v))
quoted_value_text v b e h = grind (arith, encode_ascii, encodes-append)

-- ';', the name, '=', and the printed value are the UTF-8 of the printed pair
pub parameter_text : (name value text : List ℕ) → IsUtf8 name → text ≡ encode_utf8_all (printed_value (chars value))
    → (((59 ∷ []) ++ name) ++ (61 ∷ [])) ++ text ≡ encode_utf8_all (printed_pair (chars name, chars value))
parameter_text name value text u e = grind (arith, encode_ascii, append_assoc, encodes-chars, encodes-append)

-- the bytes of a `String` are the UTF-8 of its code points
pub text_bytes : {A : Type 0} (s : String A) → string_bytes s ≡ encode_utf8_all (code_points s)
text_bytes s = sym (encodes-chars (string_bytes s) (IsUtf8-string_bytes s))

-- the UTF-8 of the printed pairs
abbrev pub pairs_text : {A B : Type 0} → List (String A × String B) → List ℕ
pairs_text pairs = encode_utf8_all (flat_map printed_pair (map (λ p. pair_of p) pairs))

-- if what a line holds and the text a are UTF-8, and m holds both in at most 128 bytes, they fit and are UTF-8
pub held_more : (l m : PrintBuffer) (a : List ℕ) → IsUtf8 (held l) → IsUtf8 a → held m ≡ held l ++ a → m.len ≤ 128
    → IsHeld m
held_more l m a u w e h = record { fits = h; text = subst IsUtf8 (sym e) (IsUtf8-append (held l) a u w) }

module _ {W : Type 0} {took : W → List ℕ → W → Type 0} {f : Formatter W} {l : PrintBuffer} where
  -- a text and then another are added as one text
  pub adds_more : {g h : Formatter W} {m n : PrintBuffer} {a b : List ℕ} → AddsToBuffer took f l a g m
      → AddsToBuffer took g m b h n
      → AddsToBuffer took f l (a ++ b) h n
  adds_more x y = record {
    written = x.written ++ y.written;
    wrote = λ p. has_written_styled_append _ _ _ _ _ _ (x.wrote p) (y.wrote (x.wrote p).flush);
    joined = grind (arith, append_assoc);
  }

  -- a text that is equal to one that is added is added
  pub adds_same : {g : Formatter W} {m : PrintBuffer} {a b : List ℕ} → a ≡ b → AddsToBuffer took f l a g m
      → AddsToBuffer took f l b g m
  adds_same {a = a} {b = b} e x = grind arith

  -- a text that is put into the buffer is added
  pub adds_held : {m : PrintBuffer} {a : List ℕ} → held m ≡ held l ++ a → AddsToBuffer took f l a f m
  adds_held e = record { written = []; wrote = has_written_styled_nil _ _; joined = grind arith }

  -- so it is if the buffer is written first
  pub adds_after : {g : Formatter W} (m : PrintBuffer) {n : PrintBuffer} {a : List ℕ}
      → (IsFlush f → HasWrittenStyled took f (held l) g) → m.len ≡ 0 → held n ≡ held m ++ a
      → AddsToBuffer took f l a g n
  adds_after m x z e = record { written = held l; wrote = x; joined = grind arith }

  -- a text that is written after the buffer is added
  pub adds_written : {g h : Formatter W} {m : PrintBuffer} {a : List ℕ}
      → (IsFlush f → HasWrittenStyled took f (held l) g)
      → (IsFlush g → HasWrittenStyled took g a h) → m.len ≡ 0 → AddsToBuffer took f l a h m
  adds_written {a = a} x y z = record {
    written = held l ++ a;
    wrote = λ p. has_written_styled_append _ _ _ _ _ _ (x p) (y (x p).flush);
    joined = grind (arith, append-nil);
  }

-- what is written, what the line holds, and what is left are together the whole text
pub record Prints {W : Type 0} (took : W → List ℕ → W → Type 0) (start : Formatter W) (left whole : List ℕ)
    (f : Formatter W) (line : PrintBuffer) : Type 0 where
  pub written : List ℕ
  pub wrote : IsFlush start → HasWrittenStyled took start written f
  pub joined : written ++ (held line ++ left) ≡ whole

module _ {W : Type 0} {took : W → List ℕ → W → Type 0} {f g : Formatter W} {l : PrintBuffer} where
  -- after the type, '/', and the subtype, the printed pairs are left
  pub prints_starts : (r : Mime) (a b : List ℕ) {m : PrintBuffer} → l.len ≡ 0 → a ≡ string_bytes r.type_
      → b ≡ string_bytes r.subtype → AddsToBuffer took f l ((a ++ (47 ∷ [])) ++ b) g m
      → Prints took f (pairs_text r.parameters.items) (encode_utf8_all (printed (record_of r))) g m
  unfolding printed
  prints_starts r a b z d e x = grind (arith, append_assoc, encode_ascii, text_bytes, encodes-append)

  module _ {A B : Type 0} {pairs items : List (String A × String B)} {start : Formatter W} (i : ℕ) {whole : List ℕ}
      (x : Prints took start (pairs_text (drop i pairs)) whole f l) (e : items ≡ pairs) where
    -- after pair i is added, of which a and b are the bytes, the pairs from i + 1 on are left
    pub prints_more : {item : String A × String B} {m : PrintBuffer} {a b : List ℕ}
        → AddsToBuffer took f l (encode_utf8_all
        (printed_pair (chars a, chars b))) g m → i < length items → item ≡ get_or items i item → a ≡ string_bytes item.0
        → b ≡ string_bytes item.1 → Prints took start (pairs_text (drop (i + 1) pairs)) whole g m
    prints_more y l k a b = record {
      written = x.written ++ y.written;
      wrote = λ p. has_written_styled_append _ _ _ _ _ _ (x.wrote p) (y.wrote (x.wrote p).flush);
      joined = grind (arith, append_assoc, drop-cons, encodes-append);
    }

    -- if no pairs are left, all is written once the buffer is
    pub prints_ends : length items ≤ i → (IsFlush f → HasWrittenStyled took f (held l) g) → IsFlush start
        → HasWrittenStyled took start whole g
    prints_ends l y p = has_written_styled_of_eq _ _ _ _ _ (grind (arith, append-nil, drop_of_length-le))
        (has_written_styled_append _ _ _ _ _ _ (x.wrote p) (y (x.wrote p).flush))

-- the lemmas for `print_buffer.rt`
pub ruleset lines = (adds_held, adds_after, adds_written, held_more)

-- the lemmas for `push_escaped`
pub ruleset escaping = (adds_same, adds_written, plain_copy)

-- the test of two lists, pair by pair, is true exactly if the lists have equal texts
pairs_decide : {A B : Type 0} (ps qs : List (String A × String B))
    → Decides (pointwise same_pair ps qs) (map texts_of_pair ps ≡ map texts_of_pair qs)
pairs_decide [] [] = (λ h. refl, λ h. refl)
pairs_decide [] (q ∷ qs) = grind arith
pairs_decide (p ∷ ps) [] = grind arith
pairs_decide (p ∷ ps) (q ∷ qs) = grind (arith, string_bytes, bytes_eq-Decides, and_parts, and_from, pairs_decide ps qs)

-- the test is true exactly if the texts are the same
pub same_decides : (m n : Mime) → IsTrue (same_texts m n) ↔ SameTexts m n
same_decides m n = grind (arith, pairs_decide, bytes_eq-Decides)

-- if the texts of all pairs are equal one by one, the lists of texts of pairs are equal
pub copied_pairs : {A B : Type 0} (ps qs : List (String A × String B)) → AllZip (λ p q. (string_bytes q.0
    ≡ string_bytes p.0) × (string_bytes q.1 ≡ string_bytes p.1)) ps qs → map texts_of_pair qs ≡ map texts_of_pair ps
copied_pairs [] [] h = refl
copied_pairs [] (q ∷ qs) h = absurd h
copied_pairs (p ∷ ps) [] h = absurd h
copied_pairs (p ∷ ps) (q ∷ qs) h = grind (arith, copied_pairs ps qs h.1)

-- if two MIME types have the same texts, their records of code points are equal
pub same_seen : (m n : Mime) → SameTexts m n → record_of m ≡ record_of n
same_seen m n h =
    let seen = λ (x : Mime). map-map {C = Pair} (λ p. (chars p.0, chars p.1)) texts_of_pair x.parameters.items in
    cc (seen m, seen n, h.type_, h.subtype, h.parameters)

-- the bytes of pairs are the UTF-8 of their code points
pairs_spelled : {A B : Type 0} (ps : List (String A × String B)) → map texts_of_pair ps
    ≡ map (λ (p : Pair). (encode_utf8_all p.0, encode_utf8_all p.1)) (map pair_of ps)
pairs_spelled [] = refl
pairs_spelled (p ∷ ps) = grind (arith, text_bytes, pairs_spelled ps)

-- if the records of code points of two MIME types are equal, the MIME types have the same texts
pub seen_same : (m n : Mime) → record_of m ≡ record_of n → SameTexts m n
seen_same m n h =
    grind (arith, text_bytes m.type_, text_bytes n.type_, text_bytes m.subtype, text_bytes n.subtype, pairs_spelled)

module _ (p : ℕ → Bool) (n : agree_below (λ c. not (is_token c && p c)) (λ c. true) 128 ≡ true) where
  -- if no token code point below 128 passes p, no token code point does
  not_in : (c : ℕ) → is_token c ≡ true → p c ≡ false
  not_in c h =
      let apart = agree_below_at (λ c. not (is_token c && p c)) (λ c. true) 128 c n (token_below c h) in
      grind arith

  -- nor does any code point of a text of token code points
  tokens_without : (t : List ℕ) → Every is_token t → Without p t
  tokens_without [] h = tt
  tokens_without (c ∷ t) h = (ap not (not_in c h.0), tokens_without t h.1)

  -- such a text does not begin with a code point that passes
  tokens_begin : (t : List ℕ) → Every is_token t → DoesNotBegin p t
  tokens_begin [] h = tt
  tokens_begin (c ∷ t) h = not_in c h.0

  -- and does not end with one
  tokens_end : (t : List ℕ) → Every is_token t → DoesNotEnd p t
  tokens_end = not_ends_every p is_token not_in

-- a text of a, c and b does not end with a code point that passes if c and b do not
ends_with : (p : ℕ → Bool) (a : List ℕ) (c : ℕ) (b : List ℕ) → DoesNotEnd p (c ∷ b) → DoesNotEnd p (a ++ c ∷ b)
ends_with p [] c b h = h
ends_with p (d ∷ []) c b h = h
ends_with p (d ∷ e ∷ a) c b h = ends_with p (e ∷ a) c b h

-- a text, escaped, is the text of a quoted string whose value is the text
quoted_escaped : (v : List ℕ) → Quoted (flat_map escaped_code_point v) v
quoted_escaped [] = nothing_quoted
quoted_escaped (c ∷ v) = cond_both ((c == 34) || (c == 92)) (92 ∷ c ∷ []) (c ∷ []) (λ t. Quoted (t
    ++ flat_map escaped_code_point v) (c ∷ v)) (λ e. after_backslash c (quoted_escaped v)) (λ e. let p = or_parts
    (c == 34) (c == 92) e in as_itself c (eqb-false c 34 p.0) (eqb-false c 92 p.1) (quoted_escaped v))

-- '=' and a token text give the token text as value
unquoted_value : (v rest : List ℕ) → is_token_text v ≡ true → GivesValue (61 ∷ v) rest (Some v)
unfolding is_token
unquoted_value [] rest h = absurd (false≢true h)
unquoted_value (c ∷ v) rest h =
    let t = every_token (c ∷ v) h in
    subst (λ s. GivesValue (61 ∷ c ∷ v) rest (unless_empty s))
    (end_stays is_http_whitespace (c ∷ v) (tokens_end is_http_whitespace refl (c ∷ v) t))
    (unquoted (c ∷ v) (tokens_without is_semicolon refl (c ∷ v) t) (tokens_begin is_quote refl (c ∷ v) t))

-- '=' and a printed value give the value
gives_value : (v rest : List ℕ) → GivesValue (61 ∷ printed_value v) rest (Some v)
gives_value v rest = cond_both (is_token_text v) v (34 ∷ (flat_map escaped_code_point v ++ (34 ∷ [])))
    (λ t. GivesValue (61 ∷ t) rest (Some v)) (λ e. unquoted_value v rest e)
    (λ e. quoted (flat_map escaped_code_point v) [] (quoted_escaped v) tt)

-- '=' and a printed value do not end with HTTP whitespace
value_not_end : (v : List ℕ) → DoesNotEnd is_http_whitespace (61 ∷ printed_value v)
unfolding is_token
value_not_end v = cond_both (is_token_text v) v (34 ∷ (flat_map escaped_code_point v ++ (34 ∷ []))) (λ t. DoesNotEnd
    is_http_whitespace (61 ∷ t)) (λ e. ends_after is_http_whitespace 61 v refl (tokens_end is_http_whitespace refl v
    (every_token v e))) (λ e. ends_with is_http_whitespace (61 ∷ 34 ∷ flat_map escaped_code_point v) 34 [] refl)

-- each code point of a lower-case name is a token code point
name_tokens : (t : List ℕ) → is_lowercase_name t ≡ true → Every is_token t
name_tokens t h = every_token t (and_parts (is_token_text t) _ h).0

-- a printed pair with a lower-case name is a parameter with the name and the value of the pair
is_parameter : (p : Pair) (rest : List ℕ) → is_lowercase_name p.0 ≡ true
    → IsParameter (printed_pair p) rest (p.0, Some p.1)
unfolding is_token
is_parameter p rest h = record {
  gap = [];
  name = p.0;
  tail = 61 ∷ printed_value p.1;
  joined = refl;
  in_gap = tt;
  begins = tokens_begin is_http_whitespace refl p.0 (name_tokens p.0 h);
  in_name = tokens_without ends_name refl p.0 (name_tokens p.0 h);
  name_is = sym (lower_is_itself p.0 h);
  value_is = gives_value p.1 rest;
}

-- the item of a pair
abbrev item_of : Pair → Item
item_of p = (p.0, Some p.1)

-- the text of printed pairs with lower-case names has the items of the pairs
printed_items : (pairs : List Pair) → HasLowercaseNames pairs → Items (flat_map printed_pair pairs) (map item_of pairs)
printed_items [] h = refl
printed_items (p ∷ pairs) h =
    let k = and_parts (is_lowercase_name p.0) _ h in
    let rest = flat_map printed_pair pairs in
    (printed_pair p, rest, refl, is_parameter p rest k.0, printed_items pairs k.1)

-- the text of printed pairs is empty or begins with ';'
pairs_begin : (pairs : List Pair) → BeginsParameters (flat_map printed_pair pairs)
pairs_begin [] = tt
pairs_begin (p ∷ pairs) = refl

-- printed pairs after a text that does not end with HTTP whitespace do not end with it either
pairs_not_end : (pairs : List Pair) (t : List ℕ) → DoesNotEnd is_http_whitespace t
    → DoesNotEnd is_http_whitespace (t ++ flat_map printed_pair pairs)
pairs_not_end [] t h = rw (append-nil t) h
pairs_not_end (p ∷ pairs) t h = rw (← append_assoc t (printed_pair p) (flat_map printed_pair pairs))
    (pairs_not_end pairs (t ++ printed_pair p) (ends_with is_http_whitespace t 59 (p.0 ++ (61 ∷ printed_value p.1))
    (ends_with is_http_whitespace (59 ∷ p.0) 61 (printed_value p.1) (value_not_end p.1))))

-- pairs with lower-case names and values of quoted-string code points are all valid
all_valid : (pairs : List Pair) → HasLowercaseNames pairs
    → list_all (λ (p : Pair). list_all is_quotable p.1) pairs ≡ true → valid_pairs (map item_of pairs) ≡ pairs
all_valid [] h k = refl
all_valid (p ∷ pairs) h k = grind (arith, and_parts, cond-true, and_from, all_valid pairs)

-- if no two names are equal, none of the earlier pairs has the name of a later one
distinct_new : (e : List Pair) (p : Pair) (ps : List Pair) → has_distinct_names (e ++ (p ∷ ps)) ≡ true
    → has_name p.0 e ≡ false
distinct_new [] p ps h = refl
distinct_new (q ∷ e) p ps h = grind (arith, common_steps, distinct_new e p ps, test_from_different)

-- pairs with distinct names are all the first of their name
first_itself : (e ps : List Pair) → has_distinct_names (e ++ ps) ≡ true → first_of_each_name e ps ≡ ps
first_itself e [] h = refl
first_itself e (p ∷ ps) h = grind (arith, distinct_new e p ps, append_assoc, first_itself (e ++ (p ∷ [])) ps)

-- all parameters of a well-formed record are kept
all_kept : (m : Record) → IsWellformed m → m.parameters ≡ kept_pairs (map item_of m.parameters)
all_kept m w = grind (arith, all_valid, first_itself)

-- a well-formed record, printed, does not begin with HTTP whitespace
printed_begins : (m : Record) → IsWellformed m → DoesNotBegin is_http_whitespace (printed m)
unfolding printed is_token
printed_begins m w = search (arith, not_begins_append, tokens_begin, name_tokens)

-- a well-formed record, printed, does not end with HTTP whitespace
printed_ends : (m : Record) → IsWellformed m → DoesNotEnd is_http_whitespace (printed m)
unfolding printed is_token
printed_ends m w = search (arith, append_assoc, pairs_not_end, ends_with, ends_after, tokens_end, name_tokens)

-- a well-formed record, printed, has its type, its subtype and its printed parameters as head
printed_head : (m : Record) → IsWellformed m → IsHead (printed m) m.type_ m.subtype (flat_map printed_pair m.parameters)
unfolding printed
printed_head m w = grind (arith, front_is, printed_begins, end_stays, printed_ends, and_parts, pairs_begin)

-- a well-formed record, printed, parses to the record
pub printed_parses : (m : Record) → IsWellformed m → Parses (printed m) m
printed_parses m w = search (arith, printed_head, printed_items, lower_is_itself, all_kept)

-- a well-formed record, printed, parses to no other record
pub printed_only : (m : Record) → IsWellformed m → (n : Record) → Parses (printed m) n → n ≡ m
printed_only m w n h = has_at_most_one_record (printed m) n m h (printed_parses m w)

-- if two well-formed records are printed the same, they are equal
pub printed_same : (m n : Record) → IsWellformed m → IsWellformed n → printed m ≡ printed n → m ≡ n
printed_same m n v w e = printed_only n w m (subst (λ s. Parses s m) e (printed_parses m v))
