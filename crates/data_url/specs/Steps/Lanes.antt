-- What the vector code computes from one byte, and from a row or a block of them.
use Rattle.std.specs.Prelude.{[], if◌then◌else◌, ◌%◌, ◌*◌, ◌+◌, ◌/◌, ◌==◌, ◌∷◌, ◌≡◌, ◌≤◌, IsTrue, List}
use Rattle.std.specs.{List.{list_all}, Prelude.{◌++◌, drop, map, slice_index, take, ℕ}}
use Rattle.data_url.specs.Base64.{group_number, groups, is_symbol, symbol_value}
use Rattle.data_url.specs.declared.forgiving_base64.alphabet.TheConstants.{OFFSETS}

-- the index of the offset of a byte: its high half or, for '/', one less
abbrev pub offset_row : ℕ → ℕ
offset_row b = (b / 16 + (if b == 47 then 255 else 0)) % 256

-- the value of a symbol; for any other byte, some byte
abbrev pub lane_value : ℕ → ℕ
lane_value b = (b + slice_index OFFSETS (offset_row b)) % 256

-- the 24-bit number of each complete group of four values
abbrev pub numbers : List ℕ → List ℕ
numbers (p ∷ q ∷ r ∷ s ∷ rest) = group_number p q r s ∷ numbers rest
numbers vs = []

-- the three lowest bytes of each number, the most significant one first
abbrev pub number_bytes : List ℕ → List ℕ
number_bytes [] = []
number_bytes (n ∷ ns) = n / 65536 % 256 ∷ n / 256 % 256 ∷ n % 256 ∷ number_bytes ns

-- the first twelve bytes of each row of a block
abbrev pub twelves : List ℕ → List ℕ
twelves bytes = take 12 bytes ++ take 12 (drop 16 bytes) ++ take 12 (drop 32 bytes) ++ take 12 (drop 48 bytes)

-- the groups of symbols that a row begins with are decoded at the front of the bytes
abbrev pub DecodesFront : List ℕ → List ℕ → Type 0
DecodesFront row bytes = (m : ℕ) → m ≤ 4 → IsTrue (list_all is_symbol (take (4 * m) row))
    → take (3 * m) bytes ≡ groups (map symbol_value (take (4 * m) row))
