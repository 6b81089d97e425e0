-- Hexadecimal digits in a text, after tabs and newlines. For `digit`, `escape` and `escape_here`.
use Rattle.std.proofs.Common.{Bool, List, ap, arith, bit_or, cond, drop, eqb, eqb-true, false, get_or, length, ltb, not}
use Rattle.std.proofs.Common.{refl, suc, true, zero, [], ℕ, ◌&&◌, ◌*◌, ◌++◌, ◌+◌, ◌-◌, ◌<◌, ◌==◌, ◌∙◌, ◌∷◌, ◌≡◌, ◌≤◌}
use Rattle.std.proofs.lemmas.{Bool.{agree_below_at, and_left, cases_Bool, eqb-true}, List.{drop_more, get_or-drop}}
use Rattle.std.proofs.lemmas.{List.{length-drop}, List.Sums.{prefix_len-drop_yes}, Nat.{and_le_r, le_or_l, le_or_r}}
use Rattle.std.{proofs.lemmas.Nat.{or_lt}, specs.Char.{digit_value, is_ascii_hexdigit}}
use Rattle.data_url.proofs.texts.Bytes.{after_other, before_nil, before_other, before_same, dropped_keeps, dropped_nil}
use Rattle.data_url.{proofs.texts.Bytes.{dropped_passes}, specs.Percent.{begins_with_escape}}
use Rattle.data_url.specs.Steps.Digits.{DigitFound, EscapeAt, IsCode, NoDigit, NoEscape, Skipped, cleaned}
use Rattle.data_url.specs.{Steps.Looks.{before_percent}, Url.{after, front, is_tab_or_newline}}
use Rattle.data_url.specs.declared.escapes.digits.TheConstants.{DIGITS}

-- a test by whether a byte is a tab or newline, or a digit of some value, tells what its code says
by_test : (tab hex : Bool) (value code : ℕ)
    → cond tab (eqb code 16) (cond hex (eqb value code && ltb code 16) (ltb 16 code)) ≡ true
    → (code ≡ 16 → tab ≡ true) × (code < 16 → (hex ≡ true) × (value ≡ code))
    × (16 < code → (tab ≡ false) × (hex ≡ false))
by_test true hex value code h = grind arith
by_test false true value code h = grind arith
by_test false false value code h = grind arith

-- each entry of the table is the code of its byte
pub is_code : (b : ℕ) → b < 256 → IsCode b (get_or DIGITS b 0)
is_code b l =
    let t = by_test (is_tab_or_newline b) (is_ascii_hexdigit b) (digit_value b) (get_or DIGITS b 0) (agree_below_at
    (λ b. cond (is_tab_or_newline b) (eqb (get_or DIGITS b 0) 16) (cond (is_ascii_hexdigit b)
    (eqb (digit_value b) (get_or DIGITS b 0) && ltb (get_or DIGITS b 0) 16) (ltb 16 (get_or DIGITS b 0))))
    (λ b. true) 256 b refl l) in
    record { tab = t.0; digit = t.1; other = t.2 }

-- a hexadecimal digit is neither a tab or newline, nor '#' or '%'
pub hex_other : (b : ℕ) → is_ascii_hexdigit b ≡ true → (is_tab_or_newline b ≡ false) × ((b == 35) ≡ false)
    × (not (b == 37) ≡ true)
hex_other b h = grind arith

-- the empty text
pub cleaned_nil : cleaned [] ≡ []
unfolding front
cleaned_nil = ap (front) dropped_nil ∙ before_nil 35

-- a tab or newline is dropped
pub cleaned_passes : (b : ℕ) (s : List ℕ) → is_tab_or_newline b ≡ true → cleaned (b ∷ s) ≡ cleaned s
cleaned_passes b s h = ap front (dropped_passes b s h)

-- a '#' ends the text
pub cleaned_hash : (s : List ℕ) → cleaned (35 ∷ s) ≡ []
unfolding front
cleaned_hash s = grind (arith, dropped_keeps, before_same)

-- any other byte is kept
pub cleaned_keeps : (b : ℕ) (s : List ℕ) → is_tab_or_newline b ≡ false → (b == 35) ≡ false
    → cleaned (b ∷ s) ≡ b ∷ cleaned s
unfolding front
cleaned_keeps b s t h = grind (arith, dropped_keeps, before_other)

-- from one index on there is `raw`, and then the same as from another one on, but for tabs and newlines
record Same (text : List ℕ) (from to : ℕ) (raw : List ℕ) : Type 0 where
  pub raw_is : cleaned (drop from text) ≡ raw ++ cleaned (drop to text)
  pub after_is : after 35 (drop from text) ≡ after 35 (drop to text)
  pub no_percent : before_percent (drop from text) ≡ (to - from) + before_percent (drop to text)

-- n bytes that are skipped
same_for : (text : List ℕ) (from n : ℕ) → Skipped text from (from + n) → Same text from (from + n) []
same_for text from zero h = grind arith
same_for text from (suc n) h =
    let tab = h.passed from (omega arith) (omega arith) in
    let within = h.within in
    let on = λ (k : ℕ) (a : from + 1 ≤ k) (b : k < from + 1 + n). h.passed k (omega arith) (omega arith) in
    let more = same_for text (from + 1) n (record { forward = omega arith; within = omega arith; passed = on }) in
    grind (arith, drop_more text from 0, cleaned_passes, after_other, prefix_len-drop_yes)

-- tabs and newlines that are skipped
same : {text : List ℕ} {from to : ℕ} → Skipped text from to → Same text from to []
same {text} {from} {to} h =
    let e : from + (to - from) ≡ to = omega arith in rw e at (same_for text from (to - from) (rw e h))

-- a digit that is found is what the text begins with, after tabs and newlines
has_digit : {text : List ℕ} {place looks value end looks' : ℕ} → DigitFound text place looks value end looks'
    → Same text place end (get_or text (end - 1) 0 ∷ [])
has_digit {text} {place} {looks} {value} {end} {looks'} d =
    let s = same d.skipped in
    grind (arith, drop_more text (end - 1) 0, hex_other, cleaned_keeps, after_other, prefix_len-drop_yes)

-- the text begins with a hexadecimal digit
abbrev pub begins_with_digit : List ℕ → Bool
begins_with_digit [] = false
begins_with_digit (b ∷ s) = is_ascii_hexdigit b

-- a text that does not begin with a digit, nor with a tab or newline, does not begin with a digit when it is cleaned
pub other_first : (s : List ℕ) → (0 < length s → (is_tab_or_newline (get_or s 0 0) ≡ false)
    × (is_ascii_hexdigit (get_or s 0 0) ≡ false)) → begins_with_digit (cleaned s) ≡ false
other_first [] h = ap begins_with_digit cleaned_nil
other_first (b ∷ s) h = grind (arith, cases_Bool, eqb-true, cleaned_hash, cleaned_keeps)

-- if no digit is found, the cleaned text does not begin with one
no_digit : {text : List ℕ} {place looks looks' : ℕ} → NoDigit text place looks looks'
    → begins_with_digit (cleaned (drop place text)) ≡ false
no_digit {text} {place} {looks} {looks'} n =
    grind (arith, same n.skipped, other_first (drop n.end text), get_or-drop, length-drop)

-- a byte and at most one more before no digit are no escape
pub no_escape : (a : ℕ) (raw s : List ℕ) → length raw < 2 → begins_with_digit s ≡ false
    → begins_with_escape (a ∷ (raw ++ s)) ≡ false
no_escape a [] [] l h = refl
no_escape a [] (b ∷ []) l h = refl
no_escape a [] (b ∷ c ∷ s) l h = grind (arith, cases_Bool (eqb a 37))
no_escape a (b ∷ []) [] l h = refl
no_escape a (b ∷ []) (c ∷ s) l h = grind (arith, cases_Bool (eqb a 37), cases_Bool (is_ascii_hexdigit b))
no_escape a (b ∷ c ∷ raw) s l h = absurd (omega arith)

-- a '%', and then the text after it
percent_first : (text : List ℕ) (place : ℕ) → place < length text → get_or text place 0 ≡ 37
    → (cleaned (drop place text) ≡ 37 ∷ cleaned (drop (place + 1) text))
    × (after 35 (drop place text) ≡ after 35 (drop (place + 1) text))
percent_first text place l h = grind (arith, drop_more text place 0, cleaned_keeps, after_other)

-- if there is no first digit, there is no escape
pub escape_no_high : {text : List ℕ} {place looks looks' : ℕ} → place < length text → get_or text place 0 ≡ 37
    → NoDigit text (place + 1) looks looks' → NoEscape text place looks looks'
escape_no_high {text} {place} {looks} {looks'} l h n =
    grind (arith, percent_first, same n.skipped, no_escape 37 [] (cleaned (drop (place + 1) text)), no_digit n)

-- if there is no digit after the first one, there is no escape
pub escape_no_low : {text text' : List ℕ} {place value after looks looks' looks'' : ℕ} → text' ≡ text
    → place < length text → get_or text place 0 ≡ 37 → DigitFound text (place + 1) looks value after looks'
    → NoDigit text' after looks' looks'' → NoEscape text place looks looks''
escape_no_low {text} {text'} {place} {value} {after} {looks} {looks'} {looks''} e l h d m =
    let n = rw e at m in
    let none = no_escape 37 (get_or text (after - 1) 0 ∷ []) (cleaned (drop after text)) (omega arith) (no_digit n) in
    grind (arith, percent_first, has_digit d, same n.skipped)

-- a digit and a digit after it are an escape
pub escape_both : {text text' : List ℕ} {place high low middle end looks looks' last last' : ℕ} → text' ≡ text
    → place < length text → get_or text place 0 ≡ 37 → DigitFound text (place + 1) looks high middle looks'
    → DigitFound text' middle last low end last' → EscapeAt text place (high * 16 + low) end
escape_both {text} {text'} {place} {high} {low} {middle} {end} {looks} {looks'} {last} {last'} same_is l h d g =
    let f = rw same_is at g in
    let p = has_digit d in
    let q = has_digit f in
    let percent = percent_first text place l h in
    record {
      high = get_or text (middle - 1) 0;
      low = get_or text (end - 1) 0;
      high_hex = d.hex;
      low_hex = f.hex;
      value_is = omega (arith, d.value_is, f.value_is);
      three = omega (arith, d.some, f.some);
      within = f.within;
      raw_is = cc (percent.0, p.raw_is, q.raw_is);
      after_is = percent.1 ∙ p.after_is ∙ q.after_is;
      ends = f.hex;
    }

-- a byte whose code is below 16 is a digit
digit_at : (text : List ℕ) (place value end : ℕ) → end ≡ place + 1 → end ≤ length text
    → IsCode (get_or text place 0) value → value < 16 → DigitFound text place 0 value end 1
digit_at text place value end n w h l = grind arith

-- two bytes after a '%' whose codes are below 16 are an escape
pub escape_at : (text : List ℕ) (place a b high low : ℕ) → place + 3 ≤ length text → get_or text place 0 ≡ 37
    → a ≡ get_or text (place + 1) 0 → b ≡ get_or text (place + 2) 0 → IsCode a high → IsCode b low → high < 16
    → low < 16 → EscapeAt text place (high * 16 + low) (place + 3)
escape_at text place a b high low w h e f p q l m =
    let first = digit_at text (place + 1) high (place + 2) (omega arith) (omega arith) (rw e at p) l in
    let second = digit_at text (place + 2) low (place + 3) (omega arith) (omega arith) (rw f at q) m in
    escape_both {text = text} refl (omega arith) h first second

-- a byte that is not '%' begins no escape
pub begins_other : (b : ℕ) (s : List ℕ) → (b == 37) ≡ false → begins_with_escape (b ∷ s) ≡ false
begins_other b [] h = refl
begins_other b (c ∷ []) h = refl
begins_other b (c ∷ d ∷ s) h = grind (arith, and_left)

-- no escape begins before bytes of whose codes one is 16 or more
not_digits : (c a b high low : ℕ) (s : List ℕ) → IsCode a high → IsCode b low → 16 ≤ bit_or high low
    → begins_with_escape (c ∷ a ∷ b ∷ s) ≡ false
not_digits c a b high low s p q h = grind (arith, hex_other, or_lt 4 high low, cases_Bool (eqb c 37))

pub no_digits : (text : List ℕ) (place a b high low : ℕ) → place + 3 ≤ length text → a ≡ get_or text (place + 1) 0
    → b ≡ get_or text (place + 2) 0 → IsCode a high → IsCode b low → 16 ≤ bit_or high low
    → begins_with_escape (drop place text) ≡ false
no_digits text place a b high low w e f p q h =
    let first = drop_more text place 0 (omega arith) in
    let second = drop_more text (place + 1) 0 (omega arith) in
    let third = drop_more text (place + 2) 0 (omega arith) in
    let two : place + 1 + 1 ≡ place + 2 = omega arith in
    let three : place + 2 + 1 ≡ place + 3 = omega arith in
    cc (not_digits (get_or text place 0) a b high low (drop (place + 3) text) p q h)

-- the lemmas for `digit`, `escape` and `escape_here`
pub ruleset digits = (escape_no_high, escape_at, le_or_l, le_or_r, no_digits)
