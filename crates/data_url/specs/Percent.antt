-- Percent-decoding (URL Standard, section 1.3).
use Rattle.std.specs.Char.{digit_value, is_ascii_hexdigit}
use Rattle.std.specs.Prelude.{if◌then◌else◌, ◌&&◌, ◌*◌, ◌+◌, ◌==◌, ◌∷◌, Bool, List, false, ℕ}
use Rattle.data_url.specs.Url.{percent_sign}

-- the text begins with an escape: '%' and two hexadecimal digits
abbrev pub begins_with_escape : List ℕ → Bool
begins_with_escape (a ∷ b ∷ c ∷ s) =
    (a == percent_sign) && (is_ascii_hexdigit b && is_ascii_hexdigit c)
begins_with_escape s = false

-- the text, read once from left to right: each '%' with two hexadecimal digits becomes one byte, and
-- all other bytes stay as they are
unfoldable pub percent_decoding : List ℕ → List ℕ
percent_decoding (a ∷ b ∷ c ∷ rest) =
    if begins_with_escape (a ∷ b ∷ c ∷ rest)
    then (16 * digit_value b + digit_value c) ∷ percent_decoding rest
    else a ∷ percent_decoding (b ∷ c ∷ rest)
percent_decoding s = s
