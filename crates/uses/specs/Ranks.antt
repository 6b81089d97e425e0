-- Which accepted MIME type matches a MIME type best.
use Rattle.std.specs.Prelude.{[], if◌then◌else◌, ◌&&◌, ◌<◌, ◌∷◌, ◌≡◌, ◌≤◌, Bool, List, None, Option, Some, codes, false}
use Rattle.std.specs.Prelude.{length, slice_index, string_bytes, true, ℕ}
use Rattle.std.specs.Str.{bytes_eq}
use Rattle.data_url.specs.MimeType.{same_texts}
use Rattle.data_url.specs.declared.mime.Mime.{Mime}

abbrev pub is_nil : {A : Type 0} → List A → Bool
is_nil [] = true
is_nil (x ∷ xs) = false

-- the accepted type has no parameters, and has this type and subtype
abbrev pub has_essence : List ℕ → List ℕ → Mime → Bool
has_essence type_ subtype accepted =
    is_nil accepted.parameters.items
    && (bytes_eq (string_bytes accepted.type_) type_
    && bytes_eq (string_bytes accepted.subtype) subtype)

-- how well an accepted type matches a MIME type: equal with its parameters (4), equal without
-- parameters (3), type/* (2), */* (1), or not at all (0)
abbrev pub rank_for : Mime → Mime → ℕ
rank_for mime accepted =
    if same_texts accepted mime then 4
    else if has_essence (string_bytes mime.type_) (string_bytes mime.subtype) accepted then 3
    else if has_essence (string_bytes mime.type_) (codes "*") accepted then 2
    else if has_essence (codes "*") (codes "*") accepted then 1
    else 0

-- the index of the first highest rank, which is not 0
pub record IsBestAt (ranks : List ℕ) (place : ℕ) : Type 0 where
  pub within : place < length ranks
  pub fits : 0 < slice_index ranks place
  pub highest : (i : ℕ) → i < length ranks → slice_index ranks i ≤ slice_index ranks place
  pub first : (i : ℕ) → i < place → slice_index ranks i < slice_index ranks place

-- that index, or none if all ranks are 0
abbrev pub IsBest : List ℕ → Option ℕ → Type 0
IsBest ranks None = (i : ℕ) → i < length ranks → slice_index ranks i ≡ 0
IsBest ranks (Some place) = IsBestAt ranks place
