-- The percent-encode sets that names in the code mean (URL Standard, section 1.3), and the rows of
-- their tables.
use Rattle.std.specs.Prelude.{[], if◌then◌else◌, ◌≡◌, Bool, List, length, slice_index, take, ℕ}
use Rattle.data_url.specs.Url.{encoded_byte, in_fragment_set, in_path_set, in_query_set, is_tab_or_newline}
use Rattle.data_url.specs.declared.percent.EncodeSet.TheVariants.{Fragment, Path, Query}
use Rattle.data_url.specs.declared.percent.EncodeSet.{EncodeSet}

abbrev pub in_set : EncodeSet → ℕ → Bool
in_set Path = in_path_set
in_set Query = in_query_set
in_set Fragment = in_fragment_set

-- the encoding of a byte: nothing for a tab or newline
abbrev pub byte_encoding : (ℕ → Bool) → ℕ → List ℕ
byte_encoding p b = if is_tab_or_newline b then [] else encoded_byte p b

-- a row of four bytes: the encoding of its byte at the start, and the length of that encoding at the
-- end
pub record IsEntry (p : ℕ → Bool) (b : ℕ) (row : List ℕ) : Type 0 where
  pub four : length row ≡ 4
  pub len_is : slice_index row 3 ≡ length (byte_encoding p b)
  pub begins : take (slice_index row 3) row ≡ byte_encoding p b
