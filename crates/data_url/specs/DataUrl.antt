-- What contracts see of a `DataUrl` and a `FragmentIdentifier`, what `process` returns for a text, and
-- what decoding a body does (Fetch Standard, section 6).
use Rattle.std.specs.Option.{option_map}
use Rattle.std.specs.Prelude.{◌≡◌, ◌≤◌, Bool, Err, List, MatchOption, Ok, Option, Result, Some, length, ℕ}
use Rattle.data_url.specs.Errors.{IsRefused}
use Rattle.data_url.specs.Fetch.{Accepted, Bad, Good, NoComma, NoScheme, Outcome, Staged, has_base64_suffix, header_of}
use Rattle.data_url.specs.Fetch.{mime_text, outcome, outcome_bytes, plain_body, staged, tail_of}
use Rattle.data_url.specs.Mime.{IsRecordOf, IsWellformed, Record}
use Rattle.data_url.specs.MimeType.{record_of}
use Rattle.data_url.specs.Run.{Call, IsRun, joined_pieces, refusal}
use Rattle.data_url.specs.Url.{after, fragment, in_fragment_set, number_sign, percent_encoding}
use Rattle.data_url.specs.Url.{without_tabs_and_newlines}
use Rattle.data_url.specs.declared.DataUrl.{DataUrl}
use Rattle.data_url.specs.declared.DataUrlError.TheVariants.{NoComma as no_comma, NotADataUrl as no_scheme}
use Rattle.data_url.specs.declared.DataUrlError.TheVariants.{OutOfMemory as no_memory}
use Rattle.data_url.specs.declared.DataUrlError.{DataUrlError}
use Rattle.data_url.specs.declared.fragment.FragmentIdentifier.{FragmentIdentifier}
use Rattle.data_url.specs.declared.forgiving_base64.DecodeError.TheVariants.{InvalidBase64}
use Rattle.data_url.specs.declared.forgiving_base64.DecodeError.{DecodeError}
use Rattle.data_url.specs.declared.mime.Mime.{Mime}

-- the MIME type record
abbrev pub mime_of : DataUrl → Mime
mime_of u = u.mime_type

-- whether the body is base64
abbrev pub is_base64 : DataUrl → Bool
is_base64 u = u.base64

-- the bytes of the input after the first comma, unchanged
abbrev pub url_tail : DataUrl → List ℕ
url_tail u = u.tail.now

-- the body; or, if its base64 is not valid, the bytes before the fault and the kind of the fault
abbrev pub url_body : DataUrl → Outcome
url_body u = outcome (is_base64 u) (plain_body (url_tail u))

-- the text of a fragment: the bytes of the input after '#', unchanged
abbrev pub fragment_text : FragmentIdentifier → List ℕ
fragment_text f = f.text.now

-- the fragment of a tail: the bytes after its first '#', or none if it has no '#'
abbrev pub IsFragmentOf : List ℕ → Option FragmentIdentifier → Type 0
IsFragmentOf tail found = option_map fragment_text found ≡ after number_sign tail

-- the text t is accepted: the record is that of its header, and the flag says whether its body is base64. The body and
-- the fragment that the Standard defines can be read from the tail.
pub record IsUrlWithParts (t : List ℕ) (mime : Record) (base64 : Bool) (tail : List ℕ) : Type 0 where
  pub header : List ℕ
  pub header_is : header_of t ≡ Some header
  pub record_is : IsRecordOf (mime_text header) mime
  pub wellformed : IsWellformed mime
  pub base64_is : base64 ≡ has_base64_suffix header
  pub tail_is : tail_of t ≡ Some tail
  pub staged_is : staged t ≡ Accepted (mime_text header) (outcome base64 (plain_body tail))
      (option_map (percent_encoding in_fragment_set)
      (fragment (without_tabs_and_newlines tail)))

-- u is the URL of the text t
abbrev pub IsUrlOf : List ℕ → DataUrl → Type 0
IsUrlOf t u = IsUrlWithParts t (record_of (mime_of u)) (is_base64 u) (url_tail u)

-- the text has the scheme and a comma
abbrev pub IsAcceptable : Staged → Type 0
IsAcceptable (Accepted text body fragment) = Unit {0}
IsAcceptable s = ⊥

-- the result for a text: an error exactly if the Standard finds no scheme or no comma, or if
-- allocation fails; `OutOfMemory` is returned only for a text that has both
abbrev pub IsProcessed : List ℕ → Result DataUrl DataUrlError → Type 0
IsProcessed t (Ok u) = IsUrlOf t u
IsProcessed t (Err no_scheme) = staged t ≡ NoScheme
IsProcessed t (Err no_comma) = staged t ≡ NoComma
IsProcessed t (Err no_memory) = IsAcceptable (staged t)

-- the result if no call of the closure failed: for a good body, an `Ok` of which `good` is true; for
-- a bad body, the kind of the fault
abbrev pub Answers : {E A : Type 0} → Outcome → (A → Type 0) → Result A (DecodeError E) → Type 0
Answers (Good bytes) good (Ok x) = good x
Answers (Good bytes) good (Err e) = ⊥
Answers (Bad bytes kind) good r = r ≡ Err (InvalidBase64 kind)

-- the closure was called with all bytes of the outcome
pub record HandsOut {E A : Type 0} (body : Outcome) (good : A → Type 0) (bytes : List ℕ)
    (r : Result A (DecodeError E)) : Type 0 where
  pub bytes_are : bytes ≡ outcome_bytes body
  pub answer : Answers body good r

-- the closure f was called at most `most` times, and is g after that; the result is r
pub record Decodes {F E A : Type 0} (step : F → List ℕ → Result (Unit {0}) E → F → Type 0) (f : F)
    (most : ℕ) (body : Outcome) (good : A → Type 0) (r : Result A (DecodeError E)) (g : F)
    : Type 0 where
  pub run : List (Call F E)
  pub ran : IsRun step f run g
  pub calls : length run ≤ most
  pub gave : MatchOption (refusal run) (HandsOut body good (joined_pieces run) r)
      (λ e. IsRefused (outcome_bytes body) (joined_pieces run) e r)
