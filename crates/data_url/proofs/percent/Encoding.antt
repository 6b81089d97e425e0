-- Percent-encoding with the entries of a table, and decoding of encoded texts. For `push_encoded`.
use Rattle.std.proofs.Common.{append_assoc, ◌≡◌, ℕ, ◌*◌, ◌+◌, ◌-◌, ◌<◌, ◌&&◌, ◌||◌, Bool, false, true, List, [], ◌∷◌}
use Rattle.std.proofs.Common.{length, take, drop, refl, ◌/◌, ◌%◌, ◌++◌, Option, None, Some, sym, ap, ◌∙◌, inl, inr}
use Rattle.std.proofs.Common.{length-append, take-add}
use Rattle.std.proofs.Common.{length-take-le, take-take, subst, append-nil, arith, suc, ◌≤◌, get_or, ◌==◌, slice_index}
use Rattle.std.{proofs.Common.{nat_lt, take_all}, proofs.Math.Seq.{take-append-add}, proofs.lemmas.Bool.{agree_below}}
use Rattle.std.proofs.lemmas.Bool.{agree_below_at, and_parts, eqb-true, and_left, cases_Bool, cond_both, both_ways}
use Rattle.std.{proofs.lemmas.Bool.{cases_lt, ne_eqb, ltb-true}, proofs.lemmas.Grind.{common_steps, flat_map-append}}
use Rattle.std.proofs.lemmas.List.{drop-append-le, nil_from_length, take_more, get_or-take, get_or_past, length-take}
use Rattle.std.proofs.lemmas.List.{take-append-drop}
use Rattle.std.{proofs.lemmas.Slice.{take-put_mid}, proofs.lemmas.Slice.Eq.{bytes_eq-Decides}}
use Rattle.std.{proofs.lemmas.Str.{IsAscii-append, IsUtf8-from_ascii}, proofs.lemmas.Str.Ascii.{IsAscii-nil}}
use Rattle.std.{specs.Char.{digit_value, is_ascii_hexdigit}, specs.List.{AllByRecursion, list_all}}
use Rattle.std.specs.Str.{bytes_eq, IsAscii, IsUtf8}
use Rattle.data_url.specs.{Percent.{percent_decoding}, Steps.Classes.{AreOf, may_be_outside}}
use Rattle.data_url.specs.Steps.Header.{header_parts}
use Rattle.data_url.specs.{Steps.Header.{header_text}, Steps.Sets.{IsEntry, byte_encoding, in_set}}
use Rattle.data_url.specs.Url.{in_path_end_set, percent_encoding, serialised, with_query, without_tabs_and_newlines}
use Rattle.data_url.specs.Url.{in_path_set, in_query_set, before, after, encoded_byte, encoded_path, hex_digit}
use Rattle.data_url.specs.declared.percent.EncodeSet.{EncodeSet}
use Rattle.data_url.proofs.{classes.Rows.{unmarked_passes}, texts.Bytes.{after_nil, after_other, after_same, lacks}}
use Rattle.data_url.proofs.texts.Bytes.{dropped_keeps, dropped_nil, dropped_passes, without_tabs_and_newlines-append}
use Rattle.data_url.proofs.texts.Bytes.{first_byte, before-append, before_at, before_nil, before_other, before_same}
use borrow.Rule.Slice.PartMut.{mid_of, put_mid, same_len_mid}

-- the entry of a byte in a table
abbrev pub entry_at : List ℕ → ℕ → List ℕ
entry_at entries b = take (4 * b + 4 - 4 * b) (drop (4 * b) entries)

-- the entry has four bytes: the encoding of its byte at the start, and the length of that encoding at the end
abbrev is_entry : (ℕ → Bool) → ℕ → List ℕ → Bool
is_entry p b entry = (length entry == 4) && ((slice_index entry 3 == length (byte_encoding p b)) && bytes_eq
    (take (slice_index entry 3) entry) (byte_encoding p b))

-- a list that passes `is_entry` is the entry of its byte
entry_of_test : (p : ℕ → Bool) (b : ℕ) (entry : List ℕ) → is_entry p b entry ≡ true → IsEntry p b entry
entry_of_test p b entry h = grind (arith, eqb-true)

-- if each entry of a table passes this test, each is the entry of its byte
pub entry_by : (p : ℕ → Bool) (t : List ℕ) → agree_below (λ b. is_entry p b (entry_at t b)) (λ _. true) 256 ≡ true
    → (b : ℕ) → b < 256 → IsEntry p b (entry_at t b)
entry_by p t h b l = entry_of_test p b (entry_at t b) (agree_below_at (λ b. is_entry p b (entry_at t b))
    (λ _. true) 256 b h l)

-- if each byte is marked or written as it is, a byte without a mark is written as it is
pub kept_where : (m p : ℕ → Bool) → agree_below (λ b. m b || bytes_eq (byte_encoding p b) (b ∷ [])) (λ _. true) 256
    ≡ true → (b : ℕ) → b < 256 → m b ≡ false → byte_encoding p b ≡ b ∷ []
kept_where m p h b l e = (bytes_eq-Decides (byte_encoding p b) (b ∷ [])).0
    (unmarked_passes m (λ b. bytes_eq (byte_encoding p b) (b ∷ [])) h b l e)

-- Texts with some of their bytes percent-encoded: they decode to the same bytes, and have the same first comma.

-- each number of the text is below 256
abbrev pub IsBytes : List ℕ → Type 0
IsBytes s = AllByRecursion (λ b. b < 256) s

-- x is s with some bytes of the query's set percent-encoded
pub data Recoded : List ℕ → List ℕ → Type 0 where
  none : Recoded [] []
  kept : {s x : List ℕ} (b : ℕ) → Recoded s x → Recoded (b ∷ s) (b ∷ x)
  written : {s x : List ℕ} (b : ℕ) → in_query_set b ≡ true → b < 256 → Recoded s x
      → Recoded (b ∷ s) (37 ∷ hex_digit (b / 16) ∷ hex_digit (b % 16) ∷ x)

-- a byte of the set is not a hexadecimal digit
set_no_hex : (b : ℕ) → b < 256 → in_query_set b ≡ true → is_ascii_hexdigit b ≡ false
set_no_hex b l h = grind (arith, common_steps, unmarked_passes)

-- the upper-case hexadecimal digit of a number below 16 is a hexadecimal digit with that value
hex_digit_is : (d : ℕ) → d < 16 → (digit_value (hex_digit d) ≡ d) × (is_ascii_hexdigit (hex_digit d) ≡ true)
hex_digit_is d l = grind (arith, agree_below_at)

-- the text begins with two hexadecimal digits
abbrev pub two_digits : List ℕ → Bool
two_digits [] = false
two_digits (b ∷ []) = false
two_digits (b ∷ c ∷ s) = is_ascii_hexdigit b && is_ascii_hexdigit c

-- a byte stays as it is when the text is decoded, unless it is a '%' before two hexadecimal digits
pub decoded_keeps : (a : ℕ) (s : List ℕ) → ((a == 37) && two_digits s) ≡ false
    → percent_decoding (a ∷ s) ≡ a ∷ percent_decoding s
unfolding percent_decoding
decoded_keeps a [] h = refl
decoded_keeps a (b ∷ []) h = refl
decoded_keeps a (b ∷ c ∷ s) h = grind arith

-- '%' and two hexadecimal digits are decoded to one byte, and then the text after them is decoded
pub decoded_escape : (b c : ℕ) (s : List ℕ) → is_ascii_hexdigit b ≡ true → is_ascii_hexdigit c ≡ true
    → percent_decoding (37 ∷ b ∷ c ∷ s) ≡ (16 * digit_value b + digit_value c) ∷ percent_decoding s
unfolding percent_decoding
decoded_escape b c s h k = grind arith

-- the two digits of a byte are decoded to the byte
decoded_written : (b : ℕ) (x : List ℕ) → b < 256 → percent_decoding (37 ∷ hex_digit (b / 16) ∷ hex_digit (b % 16) ∷ x)
    ≡ b ∷ percent_decoding x
decoded_written b x l = grind (arith, decoded_escape, hex_digit_is)

-- percent-encoding bytes of the query's set does not change whether a text begins with two hexadecimal digits
same_digits : {s x : List ℕ} → Recoded s x → two_digits x ≡ two_digits s
same_digits none = refl
same_digits (kept b none) = refl
same_digits (kept b (kept c r)) = refl
same_digits (kept b (written c h l r)) = grind (arith, set_no_hex)
same_digits (written b h l none) = refl
same_digits (written b h l (kept c r)) = grind (arith, and_left, set_no_hex)
same_digits (written b h l (written c k m r)) = grind (arith, set_no_hex)

-- a byte that is kept, and does not begin an escape
keeps : {s x : List ℕ} (b : ℕ) → Recoded s x → ((b == 37) && two_digits s) ≡ false
    → percent_decoding x ≡ percent_decoding s → percent_decoding (b ∷ x) ≡ percent_decoding (b ∷ s)
keeps {s} {x} b r h e = grind (arith, decoded_keeps, same_digits)

-- a '%' that is kept, before two digits
escapes : (b c d : ℕ) (s x : List ℕ) → ((b == 37) && (is_ascii_hexdigit c && is_ascii_hexdigit d)) ≡ true
    → percent_decoding x ≡ percent_decoding s → percent_decoding (b ∷ c ∷ d ∷ x) ≡ percent_decoding (b ∷ c ∷ d ∷ s)
escapes b c d s x h e = grind (arith, decoded_escape)

-- a text whose first byte is not a hexadecimal digit does not begin with two of them
first_no_digit : (c : ℕ) (s : List ℕ) → is_ascii_hexdigit c ≡ false → two_digits (c ∷ s) ≡ false
first_no_digit c [] h = refl
first_no_digit c (d ∷ s) h = grind arith

-- if x is s with some bytes of the query's set percent-encoded, both are decoded to the same bytes
pub recoded-decoded : {s x : List ℕ} → Recoded s x → percent_decoding x ≡ percent_decoding s
recoded-decoded none = refl
recoded-decoded (written {s} {x} b h l r) =
    grind (arith, recoded-decoded r, decoded_written, decoded_keeps, and_left, ne_eqb, both_ways)
recoded-decoded (kept b none) = refl
recoded-decoded (kept b (kept c none)) = refl
recoded-decoded (kept b (written {s} c h l r)) =
    grind (arith, keeps, written, first_no_digit, set_no_hex, recoded-decoded (written c h l r))
recoded-decoded (kept b (kept c (written d h l r))) =
    grind (arith, keeps, kept, written, set_no_hex, recoded-decoded (kept c (written d h l r)))
recoded-decoded (kept b (kept c (kept {s} {x} d r))) =
    grind (arith, cases_Bool, escapes, keeps, kept, recoded-decoded r, recoded-decoded (kept c (kept d r)))

-- the empty text is percent-encoded as the empty text
pub encoded_nil : (p : ℕ → Bool) → percent_encoding p [] ≡ []
unfolding percent_encoding
encoded_nil p = refl

-- a percent-encoded text is its first byte, encoded, and then the rest, percent-encoded
pub encoded_cons : (p : ℕ → Bool) (b : ℕ) (s : List ℕ)
    → percent_encoding p (b ∷ s) ≡ encoded_byte p b ++ percent_encoding p s
unfolding percent_encoding
encoded_cons p b s = refl

-- one byte before the rest, encoded or not
recoded_byte : (p : ℕ → Bool) → ((b : ℕ) → p b ≡ true → in_query_set b ≡ true) → (b : ℕ) (s x : List ℕ) → b < 256
    → Recoded s x → Recoded (b ∷ s) (encoded_byte p b ++ x)
recoded_byte p within b s x l r = grind (arith, cond_both, written, kept)

-- if the query's set has each byte of the set p, encoding with p encodes only bytes of the query's set
pub is_recoded : (p : ℕ → Bool) → ((b : ℕ) → p b ≡ true → in_query_set b ≡ true) → (s : List ℕ) → IsBytes s
    → Recoded s (percent_encoding p s)
is_recoded p within [] h = subst (λ x. Recoded [] x) (sym (encoded_nil p)) none
is_recoded p within (b ∷ s) h = grind (arith, encoded_cons, recoded_byte, is_recoded p within s h.1)

-- the set of a byte before the rest of its path
abbrev pub path_byte_set : List ℕ → ℕ → Bool
path_byte_set [] = in_path_end_set
path_byte_set (c ∷ s) = in_path_set

-- the empty path is encoded as the empty text
pub path_nil : encoded_path [] ≡ []
unfolding encoded_path
path_nil = refl

-- an encoded path is its first byte, encoded with the set for its place, and then the rest, encoded as a path
pub path_cons : (b : ℕ) (path : List ℕ) → encoded_path (b ∷ path) ≡ encoded_byte (path_byte_set path) b ++ encoded_path
    path
unfolding encoded_path
path_cons b [] = grind (arith, append-nil)
path_cons b (c ∷ s) = refl

-- the empty text is serialised as the empty text
pub serialised_nil : serialised [] ≡ []
unfolding serialised before after encoded_path
serialised_nil = refl

-- a text that begins with '?' is serialised as '?' and the rest, encoded with the query's set
pub serialised_query : (s : List ℕ) → serialised (63 ∷ s) ≡ 63 ∷ percent_encoding in_query_set s
unfolding serialised
serialised_query s = grind (arith, before_same, after_same, path_nil)

-- the first byte of a path is encoded with the set for its place, before the rest of the path and the query
with_query_cons : (b : ℕ) (path : List ℕ) (query : Option (List ℕ)) → with_query (encoded_path (b ∷ path)) query
    ≡ encoded_byte (path_byte_set path) b ++ with_query (encoded_path path) query
with_query_cons b path None = path_cons b path
with_query_cons b path (Some query) = grind (arith, path_cons)

-- a text that begins with another byte is serialised as that byte, encoded by its place, and the rest, serialised
pub serialised_path : (b : ℕ) (s : List ℕ) → (b == 63) ≡ false
    → serialised (b ∷ s) ≡ encoded_byte (path_byte_set (before 63 s)) b ++ serialised s
unfolding serialised
serialised_path b s h = grind (arith, before_other, after_other, with_query_cons)

-- the serialisation of a text of bytes is the text with some bytes of the query's set percent-encoded
pub serialised_recoded : (s : List ℕ) → IsBytes s → Recoded s (serialised s)
serialised_recoded [] h = subst (λ x. Recoded [] x) (sym serialised_nil) none
serialised_recoded (b ∷ s) h = elim (cases_Bool (b == 63)) [
  | inl e ↦ rw (eqb-true b 63 e, serialised_query s) (kept 63 (is_recoded in_query_set (λ b e. e) s h.1))
  | inr e ↦ grind (arith, serialised_path, recoded_byte, serialised_recoded s h.1)
]

-- the texts after the first comma of both: none, or one is the other with some bytes percent-encoded
abbrev pub RecodedTails : Option (List ℕ) → Option (List ℕ) → Type 0
RecodedTails None None = Unit {0}
RecodedTails None (Some y) = ⊥
RecodedTails (Some t) None = ⊥
RecodedTails (Some t) (Some y) = Recoded t y

-- if x is s with some bytes encoded, so are the texts after the first comma of both, or neither has a comma
pub recoded_tails : {s x : List ℕ} → Recoded s x → RecodedTails (after 44 s) (after 44 x)
recoded_tails none = grind (arith, after_nil)
recoded_tails (kept {s} {x} b r) = grind (arith, after_same, after_other, recoded_tails r)
recoded_tails (written {s} {x} b h l r) = grind (arith, after_other, ne_eqb, both_ways, recoded_tails r)

-- if a set does not have the comma, cutting at the first comma and encoding can be done in either order
before_encoded : (p : ℕ → Bool) → p 44 ≡ false → (s : List ℕ) → before 44 (percent_encoding p s) ≡ percent_encoding p
    (before 44 s)
before_encoded p h [] = grind (arith, encoded_nil, before_nil)
before_encoded p h (b ∷ s) = grind (arith, encoded_cons, before_same, encoded_nil, before_other, before_encoded p h s)

-- the header text of the empty text is empty
pub header_nil : header_text [] ≡ []
unfolding header_text before after percent_encoding
header_nil = refl

-- the header text of a text that begins with '?' is '?' and the rest, encoded with the query's set
pub header_query : (s : List ℕ) → header_text (63 ∷ s) ≡ 63 ∷ percent_encoding in_query_set s
unfolding header_text
header_query s = grind (arith, before_same, after_same, path_nil)

-- the set of a byte before the rest of a header, without or with a query
abbrev pub header_byte_set : List ℕ → Option (List ℕ) → ℕ → Bool
header_byte_set path None = in_path_set
header_byte_set path (Some query) = path_byte_set path

-- the first byte of a header's path is encoded with the set for its place, before the encoded rest of the header
header_cons : (b : ℕ) (path : List ℕ) (query : Option (List ℕ)) → header_parts (b ∷ path) query ≡ encoded_byte
    (header_byte_set path query) b ++ header_parts path query
header_cons b path None = encoded_cons in_path_set b path
header_cons b path (Some query) = with_query_cons b path (Some query)

-- that of a text that begins with another byte is that byte, encoded by its place, and the header text of the rest
pub header_path : (b : ℕ) (s : List ℕ) → (b == 63) ≡ false
    → header_text (b ∷ s) ≡ encoded_byte (header_byte_set (before 63 s) (after 63 s)) b ++ header_text s
unfolding header_text
header_path b s h = grind (arith, before_other, after_other, header_cons)

-- what follows the header leaves the sets of its bytes as they are
same_set : (h rest : List ℕ) (o : Option (List ℕ)) → after 63 h ≡ o
    → path_byte_set (before 63 (h ++ 44 ∷ rest)) ≡ header_byte_set (before 63 h) o
same_set [] rest None e = grind (arith, before_other)
same_set [] rest (Some query) e = grind (arith, after_nil)
same_set (c ∷ h) rest None e = grind (arith, lacks, before_other)
same_set (c ∷ h) rest (Some query) e = grind (arith, before_same, before_other)

-- the lemmas for the first byte of a header
ruleset headers = (before_at, before_encoded, serialised_query, header_query, serialised_path, same_set, header_path)

-- if h has no comma, the bytes before the first comma of the serialisation of h ++ 44 ∷ rest are the header text of h
pub before-serialised : (h rest : List ℕ) → after 44 h ≡ None → before 44 (serialised (h ++ 44 ∷ rest)) ≡ header_text h
before-serialised [] rest e = grind (arith, serialised_path, before_same, header_nil)
before-serialised (b ∷ h) rest e =
    grind (arith, before-serialised h rest, cases_Bool, eqb-true, first_byte, before-append, headers)

-- Percent-encoding a text without its tabs and newlines: byte by byte, and part by part.

-- the text without tabs and newlines, percent-encoded
abbrev pub encoded : (ℕ → Bool) → List ℕ → List ℕ
encoded p s = percent_encoding p (without_tabs_and_newlines s)

-- the encoding of the empty text is empty
pub encoded_empty : (p : ℕ → Bool) → encoded p [] ≡ []
encoded_empty p = ap (percent_encoding p) dropped_nil ∙ encoded_nil p

-- the encoding of a text is that of its first byte, then that of the rest
written_first : (p : ℕ → Bool) (b : ℕ) (s : List ℕ) → encoded p (b ∷ s) ≡ byte_encoding p b ++ encoded p s
written_first p b s = grind (arith, dropped_passes, dropped_keeps, encoded_cons)

-- the percent-encoding of s ++ t is that of s, then that of t
pub percent_encoding-append : (p : ℕ → Bool) (s t : List ℕ)
    → percent_encoding p (s ++ t) ≡ percent_encoding p s ++ percent_encoding p t
unfolding percent_encoding
percent_encoding-append p s t = flat_map-append (encoded_byte p) s t

-- the encoding of s ++ t is that of s, then that of t
pub encoded-append : (p : ℕ → Bool) (s t : List ℕ) → encoded p (s ++ t) ≡ encoded p s ++ encoded p t
encoded-append p s t = grind (arith, without_tabs_and_newlines-append, percent_encoding-append)

-- a byte is encoded as three at most
pub encoded_few : (p : ℕ → Bool) (s : List ℕ) → length (encoded p s) ≤ 3 * length s
encoded_few p [] = grind (arith, encoded_empty)
encoded_few p (b ∷ s) = grind (arith, written_first, cases_Bool, length-append, encoded_few p s)

-- if each byte is written as it is, the whole text is
pub kept_whole : (p : ℕ → Bool) (s : List ℕ)
    → ((k : ℕ) → k < length s → byte_encoding p (get_or s k 0) ≡ get_or s k 0 ∷ []) → s ≡ encoded p s
kept_whole p [] h = sym (encoded_empty p)
kept_whole p (b ∷ s) h =
    sym (cc (written_first p b s, h 0 (omega arith), kept_whole p s (λ k l. h (suc k) (omega arith))))

-- the first bytes of a text of bytes
pub first_bytes : (s : List ℕ) (n : ℕ) → ((i : ℕ) → get_or s i 0 < 256) → (i : ℕ) → get_or (take n s) i 0 < 256
first_bytes s n h i = let byte = h i in grind (arith, cases_lt i n, get_or-take, get_or_past, length-take)

-- bytes at the start of a text that come before the first marked one of a stretch are written as they are
pub kept_front : (p : ℕ → Bool) (class_table s x : List ℕ) (m n : ℕ)
    → ((b : ℕ) → b < 256 → may_be_outside class_table b ≡ false → byte_encoding p b ≡ b ∷ [])
    → ((i : ℕ) → get_or s i 0 < 256)
    → n ≤ length (take m s) → AreOf class_table (take m s) n → x ≡ take (length x) s → length x ≤ n
    → x ≡ encoded p x
kept_front p class_table s x m n as_is bytes l unmarked front few = kept_whole p x (λ k w.
    let read = get_or-take m s k 0 (omega (arith, w, few, l, length-take m s)) in
    let same = ap (λ t. get_or t k 0) front ∙ get_or-take (length x) s k 0 w in
    rw same (as_is (get_or s k 0) (bytes k) (rw read at (unmarked k (omega (arith, w, few))))))

-- the byte is written as it is in a path, and is none of '#', ',' and '?'
pub record StaysUnencoded (b : ℕ) : Type 0 where
  pub written_is : byte_encoding in_path_set b ≡ b ∷ []
  pub no_hash : (b == 35) ≡ false
  pub no_comma : (b == 44) ≡ false
  pub no_query : (b == 63) ≡ false

-- the bytes before byte i are written to the buffer after what is at its front
pub record PutTo (p : ℕ → Bool) (front s : List ℕ) (i : ℕ) (buffer : List ℕ) (at : ℕ) : Type 0 where
  pub few : at ≤ length front + 3 * i
  pub long : length buffer ≡ 512
  pub wrote : take at buffer ≡ front ++ encoded p (take i s)

-- if the entry of byte i is put after them, so are the bytes before byte i + 1
pub put_more : (p : ℕ → Bool) (front s : List ℕ) (i : ℕ) (buffer : List ℕ) (at : ℕ) (entry new : List ℕ)
    → PutTo p front s i buffer at
    → i < length s → at ≤ 512 → IsEntry p (get_or s i 0) entry → length new ≡ length (mid_of at (at + 4 - at) buffer)
    → new ≡ entry → PutTo p front s (i + 1) (put_mid at (at + 4 - at) buffer new) (at + slice_index entry 3)
put_more p before s i buffer at entry new m l within r n e =
    let width = slice_index entry 3 in
    let buffer' = put_mid at (at + 4 - at) buffer new in
    let short : width ≤ 3 = grind arith in
    let one : encoded p (get_or s i 0 ∷ []) ≡ byte_encoding p (get_or s i 0) =
    grind (arith, written_first, encoded_empty, append-nil) in
    let len = length-take-le at buffer (omega (arith, m.long)) in
    let more = take_more s i 0 l in
    let all = encoded-append p (take i s) (get_or s i 0 ∷ []) in
    let put = take-put_mid at (at + 4 - at) buffer new (at + 4) (omega (arith, ap length e, r.four))
    (omega (arith, m.long)) in
    let front = take-take (at + width) (at + 4) buffer' (omega arith) in
    let seam = take-append-add (take at buffer) entry width in
    let joined = append_assoc before (encoded p (take i s)) (byte_encoding p (get_or s i 0)) in
    record { few = omega (arith, m.few); long = same_len_mid at (at + 4 - at) buffer new n ∙ m.long; wrote = cc }

-- if the next m bytes are put after them, so are the bytes before byte i + m
pub put_next : (p : ℕ → Bool) (s next : List ℕ) (i m : ℕ) (buffer : List ℕ) (at : ℕ) (buffer' : List ℕ) (at' : ℕ)
    → PutTo p [] s i buffer at → next ≡ take m (drop i s) → i + m ≤ length s → length buffer' ≡ 512
    → at' ≤ at + 3 * length next → take at' buffer' ≡ take at buffer ++ encoded p next
    → PutTo p [] s (i + m) buffer' at'
put_next p s next i m buffer at buffer' at' put is within long few wrote = record {
  few = omega (arith, put.few, few, ap length is, length-take m (drop i s));
  long = long;
  wrote = cc (wrote, put.wrote, is, encoded-append p (take i s) (take m (drop i s)), take-add i m s);
}

-- if all bytes that are left are put after them, the buffer has what the text is encoded as
pub put_last : (p : ℕ → Bool) (s : List ℕ) (i : ℕ) (buffer : List ℕ) (at : ℕ) (x : List ℕ) → PutTo p [] s i buffer at
    → x ≡ take at buffer ++ encoded p (take (length s - i) (drop i s)) → x ≡ encoded p s
put_last p s i buffer at x put is =
    let rest = take (length s - i) (drop i s) in
    let whole : take i s ++ rest ≡ s = sym (take-add i (length s - i) s)
    ∙ take_all (i + (length s - i)) s (omega arith) in
    cc (is, put.wrote, encoded-append p (take i s) rest, whole)

-- a text whose bytes are all below 128 is ASCII
pub ascii_all : (s : List ℕ) → list_all (λ c. nat_lt c 128) s ≡ true → IsAscii s
ascii_all [] h = IsAscii-nil
ascii_all (c ∷ s) h = grind (arith, and_parts, ltb-true, ascii_all s)

-- with each of the sets, the encoding of a byte is ASCII
written_ascii : (set : EncodeSet) (b : ℕ) → b < 256 → IsAscii (byte_encoding (in_set set) b)
written_ascii set b l = grind arith

-- with each of the sets, the encoding of a text of bytes is ASCII
encoded_ascii : (set : EncodeSet) (s : List ℕ) → ((i : ℕ) → get_or s i 0 < 256) → IsAscii (encoded (in_set set) s)
encoded_ascii set [] h = subst IsAscii (sym (encoded_empty (in_set set))) IsAscii-nil
encoded_ascii set (b ∷ s) h = rw (written_first (in_set set) b s)
    (IsAscii-append _ _ (written_ascii set b (h 0)) (encoded_ascii set s (λ i. h (suc i))))

-- what a text of bytes is written as is UTF-8
pub encoded_text : (set : EncodeSet) (s text : List ℕ) → ((i : ℕ) → get_or s i 0 < 256) → text ≡ encoded (in_set set) s
    → IsUtf8 text
encoded_text set s text h e = subst IsUtf8 (sym e) (IsUtf8-from_ascii (encoded (in_set set) s) (encoded_ascii set s h))

-- the lemmas for `push_encoded` and what it calls
pub ruleset parts = (append_assoc, append-nil, encoded-append, encoded_empty, nil_from_length, take_all)

-- the rest of a part comes before what follows it
pub encoded_on : (p : ℕ → Bool) (rest part x after : List ℕ) (n : ℕ) → part ≡ take n rest
    → x ++ encoded p after ≡ encoded p part → after ≡ drop (length part - length after) part
    → encoded p rest ≡ x ++ encoded p (drop (length part - length after) rest)
encoded_on p rest part x after n is e suffix =
    let whole : part ++ drop n rest ≡ rest = ap (λ t. t ++ drop n rest) is ∙ take-append-drop n rest in
    let after_is : drop (length part - length after) rest ≡ after ++ drop n rest =
    ap (drop (length part - length after)) (sym whole)
    ∙ drop-append-le (length part - length after) part (drop n rest) (omega arith)
    ∙ ap (λ t. t ++ drop n rest) (sym suffix) in
    cc (
      whole,
      after_is,
      e,
      encoded-append p part (drop n rest),
      encoded-append p after (drop n rest),
      append_assoc x (encoded p after) (encoded p (drop n rest)),
    )
