-- The escapes of a block of text, and what its lanes compute.
use Rattle.std.specs.{Char.{digit_value}, List.{prefix_len}}
use Rattle.std.specs.Prelude.{[], if◌then◌else◌, ◌&&◌, ◌*◌, ◌++◌, ◌+◌, ◌==◌, ◌||◌, ◌∷◌, ◌≡◌, ◌≤◌, Bool, List, map, min}
use Rattle.std.specs.Prelude.{not, take, true, ℕ}
use Rattle.std.specs.Simd.Lanes.{mask_l}
use Rattle.data_url.specs.Percent.{begins_with_escape}
use Rattle.data_url.specs.Steps.Groups.{clear}
use Rattle.data_url.specs.Url.{is_tab_or_newline, number_sign, percent_sign}

-- for each byte of a text, whether an escape begins there
abbrev pub escape_starts : List ℕ → List Bool
escape_starts [] = []
escape_starts (b ∷ s) = begins_with_escape (b ∷ s) ∷ escape_starts s

-- the value of the escape that a text begins with, or else its first byte
abbrev pub first_value : List ℕ → ℕ
first_value [] = 0
first_value (a ∷ []) = a
first_value (a ∷ b ∷ []) = a
first_value (a ∷ b ∷ c ∷ s) =
    if begins_with_escape (a ∷ b ∷ c ∷ s) then 16 * digit_value b + digit_value c else a

-- for each byte of a text, the value of the escape that begins there, or else the byte
abbrev pub place_values : List ℕ → List ℕ
place_values [] = []
place_values (b ∷ s) = first_value (b ∷ s) ∷ place_values s

-- a tab or newline is among the first two bytes, or there are fewer bytes
abbrev pub is_unsure : List ℕ → Bool
is_unsure [] = true
is_unsure (a ∷ []) = true
is_unsure (a ∷ b ∷ s) = is_tab_or_newline a || is_tab_or_newline b

-- for each byte of a text, whether it is a '#', or a '%' whose two next bytes do not show if an escape begins there
abbrev pub stops : List ℕ → List Bool
stops [] = []
stops (b ∷ s) = ((b == number_sign) || ((b == percent_sign) && is_unsure s)) ∷ stops s

-- the values at the first places of a block, without those of the digits of escapes, and without tabs and newlines
abbrev pub packed_values : List ℕ → ℕ → List ℕ
packed_values bytes used =
    clear (take used (place_values bytes))
    (6 * mask_l (escape_starts bytes) + mask_l (map is_tab_or_newline bytes))

-- of the first `size` bytes of a block, those before the first stop are packed into a buffer after `len` bytes; it has
-- `end` bytes then
pub record IsPacked (bytes : List ℕ) (size : ℕ) (buffer buffer' : List ℕ) (len used end : ℕ) : Type 0 where
  pub some : 12 ≤ used
  pub used_is : used ≡ min size (prefix_len not (stops bytes))
  pub short : end ≤ len + 64
  pub buffer_is : take end buffer' ≡ take len buffer ++ packed_values bytes used
