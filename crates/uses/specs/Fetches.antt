-- The response to a request for a data: URL (Fetch Standard, section 6, and scheme fetch of
-- "data").
use Rattle.std.specs.Prelude.{◌≡◌, Err, List, Ok, Option, Result, encode_utf8_all, length, string_bytes, ℕ}
use Rattle.data_url.specs.DataUrl.{IsAcceptable}
use Rattle.data_url.specs.Fetch.{Accepted, Bad, Good, NoComma as no_comma, NoScheme, Staged, staged}
use Rattle.data_url.specs.Mime.{IsRecordOf, Record, printed}
use Rattle.uses.specs.declared.fetch.FetchError.TheVariants.{Network, OutOfMemory}
use Rattle.uses.specs.declared.fetch.FetchError.{FetchError}
use Rattle.uses.specs.declared.fetch.Reason.TheVariants.{InvalidBase64, NoComma, NotADataUrl}
use Rattle.uses.specs.declared.fetch.Reason.{Reason}
use Rattle.uses.specs.declared.fetch.Response.{Response}

-- why the processor fails: no scheme, no comma, or base64 that is not valid
abbrev pub IsReasonOf : Staged → Reason → Type 0
IsReasonOf s NotADataUrl = s ≡ NoScheme
IsReasonOf s NoComma = s ≡ no_comma
IsReasonOf s (InvalidBase64 kind) =
    (type_text bytes : List ℕ) × (fragment : Option (List ℕ))
    × (s ≡ Accepted type_text (Bad bytes kind) fragment)

-- the response to a text: its status, the record of its type as it is printed, and its whole body
pub record IsResponseTo (t : List ℕ) (r : Response) : Type 0 where
  pub type_text : List ℕ
  pub mime : Record
  pub fragment : Option (List ℕ)
  pub staged_is : staged t ≡ Accepted type_text (Good r.body.items) fragment
  pub record_is : IsRecordOf type_text mime
  pub status : r.status ≡ 200
  pub content_type : string_bytes r.content_type ≡ encode_utf8_all (printed mime)

-- the result of fetching a URL
abbrev pub Fetches : List ℕ → Result Response FetchError → Type 0
Fetches t (Ok r) = IsResponseTo t r
Fetches t (Err (Network reason)) = IsReasonOf (staged t) reason
Fetches t (Err OutOfMemory) = IsAcceptable (staged t)

-- the length of the body of the response for a URL, in bytes
abbrev pub HasLength : List ℕ → Result ℕ FetchError → Type 0
HasLength t (Ok len) =
    (type_text bytes : List ℕ) × (fragment : Option (List ℕ))
    × (staged t ≡ Accepted type_text (Good bytes) fragment) × (len ≡ length bytes)
HasLength t (Err (Network reason)) = IsReasonOf (staged t) reason
HasLength t (Err OutOfMemory) = IsAcceptable (staged t)
