-- What a walk reads between two places of its text, and the bound on how many bytes it reads. For `at_mark`.
use Rattle.std.proofs.Common.{List, ap, append_assoc, arith, cond, drop, false, get_or, length, length-append, refl}
use Rattle.std.proofs.Common.{slice_range, suc, take, true, zero, [], ℕ, ◌*◌, ◌++◌, ◌+◌, ◌-◌, ◌<◌, ◌==◌, ◌∙◌, ◌∷◌, ◌≡◌}
use Rattle.std.proofs.{Common.{◌≤◌}, lemmas.Bool.{cases_Bool}, lemmas.List.{drop-drop, drop_more, length-drop}}
use Rattle.std.proofs.lemmas.List.Sums.{count_by-le-length, length-filter, prefix_len-drop_no, prefix_len-le-length}
use Rattle.data_url.proofs.escapes.EscapeDigits.{begins_other, cleaned_hash, cleaned_keeps, cleaned_nil, cleaned_passes}
use Rattle.data_url.proofs.{percent.Encoding.{decoded_escape}, texts.Bytes.{after_other}}
use Rattle.data_url.specs.{Fetch.{plain_body}, Percent.{begins_with_escape, percent_decoding}, Pieces.{is_slice_end}}
use Rattle.data_url.specs.Steps.{Digits.{EscapeAt, NoEscape, cleaned}, Looks.{before_percent, paid}}
use Rattle.data_url.specs.Steps.{Tail.{BeginsFragment}, Walk.{IsAtMark, IsClear, Reads, Spells}, Window.{is_marked}}
use Rattle.data_url.specs.Url.{before, front, is_tab_or_newline, without_tabs_and_newlines}
use Rattle.data_url.specs.declared.escapes.marks.AtMark.TheVariants.{Passed, Stays}

-- a body is the percent-decoded cleaned tail
pub plain_is : (s : List ℕ) → plain_body s ≡ percent_decoding (cleaned s)
unfolding plain_body
plain_is s = refl

-- the empty text is percent-decoded to the empty text
pub percent_nil : percent_decoding [] ≡ []
unfolding percent_decoding
percent_nil = refl

-- where a body ends, nothing of it is left
pub ends_empty : (s : List ℕ) → BeginsFragment s → plain_body s ≡ []
ends_empty [] h = grind (arith, plain_is, cleaned_nil, percent_nil)
ends_empty (b ∷ s) h = grind (arith, plain_is, cleaned_hash, percent_nil)

-- a byte that does not begin an escape is decoded to itself
pub decoded_byte : (b : ℕ) (s : List ℕ) → begins_with_escape (b ∷ s) ≡ false
    → percent_decoding (b ∷ s) ≡ b ∷ percent_decoding s
unfolding percent_decoding
decoded_byte b [] h = refl
decoded_byte b (c ∷ []) h = refl
decoded_byte b (c ∷ d ∷ s) h = grind arith

-- a percent-decoded text is not longer than the text
percent_shorter : (s : List ℕ) → length (percent_decoding s) ≤ length s
unfolding percent_decoding
percent_shorter [] = omega arith
percent_shorter (a ∷ []) = omega arith
percent_shorter (a ∷ b ∷ []) = omega arith
percent_shorter (a ∷ b ∷ c ∷ s) =
    let one = percent_shorter s in
    let more = percent_shorter (b ∷ c ∷ s) in
    grind (arith, cases_Bool (begins_with_escape (a ∷ b ∷ c ∷ s)))

-- a text is its bytes before the first '#', and then some other text
before_first : (s : List ℕ) → (rest : List ℕ) × (s ≡ before 35 s ++ rest)
unfolding before
before_first [] = ([], refl)
before_first (b ∷ s) = elim (b == 35) as (λ v. (rest : List ℕ) × (b ∷ s ≡ cond v [] (b ∷ before 35 s) ++ rest)) [
  | true ↦ (b ∷ s, refl)
  | false ↦ let k = before_first s in (k.0, ap (λ t. b ∷ t) k.1)
]

-- the body of a tail is not longer than the tail
pub body_shorter : (tail : List ℕ) → length (plain_body tail) ≤ length tail
unfolding plain_body front without_tabs_and_newlines
body_shorter tail =
    let f = before_first (without_tabs_and_newlines tail) in
    let long = ap length f.1 ∙ length-append (before 35 (without_tabs_and_newlines tail)) f.0 in
    grind (arith, percent_shorter, length-filter, count_by-le-length)

-- before an escape a slice may end
pub escape_ends : {text : List ℕ} {place value end : ℕ} → place < length text → EscapeAt text place value end
    → is_slice_end (drop place text) ≡ true
unfolding front
escape_ends {text} {place} {value} {end} l e =
    let f = before_first (without_tabs_and_newlines (drop place text)) in
    let k = ap begins_with_escape (f.1 ∙ ap (λ t. t ++ f.0) e.raw_is) in
    rw (drop_more text place 0 l) (grind (arith, e.high_hex, e.low_hex, drop_more text place 0 l))

-- from an index to itself nothing is read
pub spells_none : (text : List ℕ) (place : ℕ) → place ≤ length text → Spells text place place [] []
spells_none text place l = grind arith

-- what is read in two ranges, one after the other, is joined in the range of both
pub reads_then : {text a b : List ℕ} {from middle to : ℕ} → Reads text from middle a → Reads text middle to b
    → Reads text from to (a ++ b)
reads_then {text} {a} {b} {from} {middle} {to} p q = grind (arith, length-append, append_assoc)

-- so is what is spelled in them
pub spells_then : {text r s a b : List ℕ} {from middle to : ℕ} → Spells text from middle r a → Spells text middle to s b
    → Spells text from to (r ++ s) (a ++ b)
spells_then {text} {r} {s} {a} {b} {from} {middle} {to} p q = grind (arith, reads_then, append_assoc)

-- a tab or newline is read as no byte
pub spells_passed : (text : List ℕ) (place : ℕ) → place < length text → is_tab_or_newline (get_or text place 0) ≡ true
    → Spells text place (place + 1) [] []
spells_passed text place l h = grind (arith, drop_more text place 0, plain_is, cleaned_passes, after_other)

-- a byte that is neither a tab or newline, nor '#', and does not begin an escape is read as it is
pub spells_byte : (text : List ℕ) (place : ℕ) → place < length text → is_tab_or_newline (get_or text place 0) ≡ false
    → (get_or text place 0 == 35) ≡ false → begins_with_escape (cleaned (drop place text)) ≡ false
    → Spells text place (place + 1) (get_or text place 0 ∷ []) (get_or text place 0 ∷ [])
spells_byte text place l t h e =
    grind (arith, drop_more text place 0, plain_is, cleaned_keeps, after_other, decoded_byte)

-- a '%' that does not begin an escape is read as it is
spells_percent : {text : List ℕ} {place looks looks' : ℕ} → place < length text → get_or text place 0 ≡ 37
    → NoEscape text place looks looks' → Spells text place (place + 1) (37 ∷ []) (37 ∷ [])
spells_percent {text} {place} l h n = rw h at (spells_byte text place l (grind arith) (grind arith) n.none_is)

-- an escape is read as the byte of its value
pub spells_escape : {text : List ℕ} {place value end : ℕ} (e : EscapeAt text place value end)
    → Spells text place end (37 ∷ e.high ∷ e.low ∷ []) (value ∷ [])
spells_escape {text} {place} {value} {end} e = grind (arith, plain_is, decoded_escape)

-- a byte without a mark is none of the marked bytes
pub unmarked : (b : ℕ) → is_marked b ≡ false → (is_tab_or_newline b ≡ false) × ((b == 35) ≡ false) × ((b == 37) ≡ false)
unmarked b h = grind arith

-- n bytes without marks are read as they are
clear_for : (text : List ℕ) (from n : ℕ) → from + n ≤ length text → IsClear text from (from + n)
    → Spells text from (from + n) (take n (drop from text)) (take n (drop from text))
clear_for text from zero l h = grind arith
clear_for text from (suc n) l h =
    let no = unmarked (get_or text from 0) (h from (omega arith) (omega arith)) in
    let e = drop_more text from 0 (omega arith) in
    let first = spells_byte text from (omega arith) no.0 no.1 (grind (arith, cleaned_keeps, begins_other)) in
    let more = clear_for text (from + 1) n (omega arith) (λ i a b. h i (omega arith) (omega arith)) in
    grind (arith, spells_then first more)

-- a range without marks is read as it is
pub spells_clear : (text : List ℕ) (from to : ℕ) → from ≤ to → to ≤ length text → IsClear text from to
    → Spells text from to (slice_range text from to) (slice_range text from to)
spells_clear text from to l w h = grind (arith, clear_for text from (to - from))

-- k bytes have at most one more byte before the next '%' for each of them
percent_drop : (k : ℕ) (s : List ℕ) → before_percent s ≤ k + before_percent (drop k s)
percent_drop zero s = omega arith
percent_drop (suc k) [] = omega arith
percent_drop (suc k) (b ∷ s) = grind (arith, percent_drop k s)

-- the bound grows by at least one for each byte
pub paid_on : (text : List ℕ) (from to : ℕ) → from ≤ to → paid text from + (to - from) ≤ paid text to
paid_on text from to l = grind (arith, percent_drop (to - from) (drop from text), drop-drop)

-- the bound is at most twice the length of the text
pub paid_le : (text : List ℕ) (place : ℕ) → place ≤ length text
    → paid text place + (length text - place) ≤ 2 * length text
paid_le text place p = grind (arith, prefix_len-le-length, length-drop)

-- at a '%' the bound is twice its index
pub paid_percent : (text : List ℕ) (place : ℕ) → place < length text → get_or text place 0 ≡ 37
    → paid text place ≡ 2 * place
paid_percent text place l h = grind (arith, prefix_len-drop_no)

-- a '%' without an escape stays, and pays for the bytes that were read after it
pub at_percent : {text : List ℕ} {place looks looks' : ℕ} → place < length text → get_or text place 0 ≡ 37
    → NoEscape text place (looks + 1) looks' → IsAtMark text place looks looks' Stays
at_percent {text} {place} {looks} {looks'} l h n = search (arith, paid_percent, spells_percent)

-- a tab or newline is passed, and pays for one look
pub at_tab : (text : List ℕ) (place looks : ℕ) → place < length text
    → is_tab_or_newline (get_or text place 0) ≡ true → IsAtMark text place looks (looks + 1) Passed
at_tab text place looks l h =
    let p = paid_on text place (place + 1) (omega arith) in
    (grind (arith, drop_more), spells_passed text place l h, grind arith)
