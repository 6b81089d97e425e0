-- Hexadecimal digits and escapes in a text, and how many bytes are read to find them.
use Rattle.std.specs.Char.{digit_value, is_ascii_hexdigit}
use Rattle.std.specs.Prelude.{◌*◌, ◌+◌, ◌-◌, ◌<◌, ◌∷◌, ◌≡◌, ◌≤◌, List, None, Option, Some, drop, false, length}
use Rattle.std.specs.Prelude.{slice_index, true, ℕ}
use Rattle.data_url.specs.Percent.{begins_with_escape}
use Rattle.data_url.specs.Steps.Looks.{before_percent}
use Rattle.data_url.specs.Url.{after, front, is_tab_or_newline, number_sign, percent_sign, without_tabs_and_newlines}

-- the bytes before the first '#', without tabs and newlines
abbrev pub cleaned : List ℕ → List ℕ
cleaned s = front (without_tabs_and_newlines s)

-- what the table has for a byte: the value of a hexadecimal digit, 16 for a tab or newline, and more for any other byte
pub record IsCode (b code : ℕ) : Type 0 where
  pub tab : code ≡ 16 → is_tab_or_newline b ≡ true
  pub digit : code < 16 → (is_ascii_hexdigit b ≡ true) × (digit_value b ≡ code)
  pub other : 16 < code → (is_tab_or_newline b ≡ false) × (is_ascii_hexdigit b ≡ false)

-- between two indices there are only tabs and newlines
pub record Skipped (text : List ℕ) (from to : ℕ) : Type 0 where
  pub forward : from ≤ to
  pub within : to ≤ length text
  pub passed : (k : ℕ) → from ≤ k → k < to → is_tab_or_newline (slice_index text k) ≡ true

-- from an index on there is, after tabs and newlines, a digit with this value and this end; each byte up to the end
-- was read once
pub record DigitFound (text : List ℕ) (place looks value end looks' : ℕ) : Type 0 where
  pub some : place < end
  pub within : end ≤ length text
  pub skipped : Skipped text place (end - 1)
  pub hex : is_ascii_hexdigit (slice_index text (end - 1)) ≡ true
  pub value_is : digit_value (slice_index text (end - 1)) ≡ value
  pub small : value < 16
  pub looks_are : looks' ≡ looks + (end - place)

-- from an index on there is, after tabs and newlines, no digit; each byte up to the one that is none was read once
pub record NoDigit (text : List ℕ) (place looks looks' : ℕ) : Type 0 where
  pub end : ℕ
  pub skipped : Skipped text place end
  pub none_is : end < length text → (is_tab_or_newline (slice_index text end) ≡ false)
      × (is_ascii_hexdigit (slice_index text end) ≡ false)
  pub looks_grow : looks ≤ looks'
  pub looks_are : looks' ≤ looks + 1 + (end - place)

-- the value and the end of the digit from an index on, or none
abbrev pub IsDigitFrom : List ℕ → ℕ → ℕ → ℕ → Option (ℕ × ℕ) → Type 0
IsDigitFrom text place looks looks' None = NoDigit text place looks looks'
IsDigitFrom text place looks looks' (Some found) = DigitFound text place looks found.0 found.1 looks'

-- at an index there is an escape with this value and this end
pub record EscapeAt (text : List ℕ) (place value end : ℕ) : Type 0 where
  pub high : ℕ
  pub low : ℕ
  pub high_hex : is_ascii_hexdigit high ≡ true
  pub low_hex : is_ascii_hexdigit low ≡ true
  pub value_is : 16 * digit_value high + digit_value low ≡ value
  pub three : place + 3 ≤ end
  pub within : end ≤ length text
  pub raw_is : cleaned (drop place text) ≡ percent_sign ∷ high ∷ low ∷ cleaned (drop end text)
  pub after_is : after number_sign (drop place text) ≡ after number_sign (drop end text)
  pub ends : is_ascii_hexdigit (slice_index text (end - 1)) ≡ true

-- at the index there is a '%' that does not begin an escape; at most the bytes up to and including the next '%' were
-- read to see that
pub record NoEscape (text : List ℕ) (place looks looks' : ℕ) : Type 0 where
  pub none_is : begins_with_escape (cleaned (drop place text)) ≡ false
  pub looks_grow : looks ≤ looks'
  pub looks_are : looks' ≤ looks + 1 + before_percent (drop (place + 1) text)
