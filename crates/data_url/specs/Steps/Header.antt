-- What the private functions that read a header do.
use Rattle.std.specs.Prelude.{[], ◌++◌, ◌∷◌, ◌⊎◌, ◌<◌, ◌==◌, ◌≡◌, ◌≤◌, Bool, List, None, Option, Some, String, length}
use Rattle.std.specs.Prelude.{not, slice_index, string_bytes, ℕ}
use Rattle.data_url.specs.Fetch.{has_base64_suffix, mime_text}
use Rattle.data_url.specs.Mime.{IsRecordOf, IsWellformed, Record}
use Rattle.data_url.specs.Steps.Parsing.{IsTrimmed}
use Rattle.data_url.specs.Url.{before, after, without_tabs_and_newlines, encoded_path, in_path_set, in_query_set}
use Rattle.data_url.specs.Url.{percent_encoding}

-- the byte is not '?', which ends a path
abbrev pub is_no_question_mark : ℕ → Bool
is_no_question_mark b = not (b == 63)

-- a text is its path, which has no '?', and its query, which is empty or begins with the '?'
pub record IsPathAndQuery (text path query : List ℕ) : Type 0 where
  pub joined : text ≡ path ++ query
  pub path_ends : after 63 path ≡ None
  pub query_begins : (query ≡ []) ⊎ ((rest : List ℕ) × (query ≡ 63 ∷ rest))

-- the serialised parts of a header without tabs and newlines. Only if there is a query is the end of
-- the path known, so only then is a space there encoded.
abbrev pub header_parts : List ℕ → Option (List ℕ) → List ℕ
header_parts path None = percent_encoding in_path_set path
header_parts path (Some query) = encoded_path path ++ 63 ∷ percent_encoding in_query_set query

unfoldable pub header_text : List ℕ → List ℕ
header_text s = header_parts (before 63 s) (after 63 s)

-- the serialised header, from its path without the last space, that space as it is written, and the
-- query
abbrev pub encoded_parts : List ℕ → List ℕ → List ℕ → List ℕ
encoded_parts path space query = percent_encoding in_path_set (without_tabs_and_newlines path)
    ++ (space ++ percent_encoding in_query_set (without_tabs_and_newlines query))

-- front is path without its last space; only tabs and newlines can follow that space
abbrev pub WithoutSpace : List ℕ → List ℕ → Type 0
WithoutSpace path front =
    without_tabs_and_newlines path ≡ without_tabs_and_newlines front ++ 32 ∷ []

-- without tabs and newlines the path does not end with a space
abbrev pub HasNoLastSpace : List ℕ → Type 0
HasNoLastSpace path =
    encoded_path (without_tabs_and_newlines path)
    ≡ percent_encoding in_path_set (without_tabs_and_newlines path)

-- each byte is a printable ASCII character (a space is one)
abbrev pub IsPrintable : List ℕ → Type 0
IsPrintable s = (i : ℕ) → i < length s → (32 ≤ slice_index s i) × (slice_index s i < 127)

-- the text is printable, and neither begins nor ends with a space
pub record IsMedia (s : List ℕ) : Type 0 where
  pub printable : IsPrintable s
  pub trimmed : IsTrimmed s

-- m is the record of the text, or the default record, and is well-formed
pub record IsRecordFor (text : List ℕ) (m : Record) : Type 0 where
  pub is_record : IsRecordOf text m
  pub wellformed : IsWellformed m

-- m is the record of the serialised header, and base64 says whether the body is base64
pub record IsHeaderOf (header : List ℕ) (m : Record) (base64 : Bool) : Type 0 where
  pub record_is : IsRecordFor (mime_text header) m
  pub base64_is : base64 ≡ has_base64_suffix header

-- the serialised text of a header, or none if the header is equal to its serialised text
abbrev pub IsSerialised : {A : Type 0} → List ℕ → Option (String A) → Type 0
IsSerialised header None = header_text (without_tabs_and_newlines header) ≡ header
IsSerialised header (Some text) = string_bytes text ≡ header_text (without_tabs_and_newlines header)
