-- What loading a resource does.
use Rattle.std.specs.Io.KnownBytes.{Appends, Keeps}
use Rattle.std.specs.Prelude.{◌<◌, ◌≡◌, ◌≤◌, Err, List, Ok, Option, Result, length, ℕ}
use Rattle.data_url.specs.DataUrl.{IsAcceptable}
use Rattle.data_url.specs.Fetch.{Accepted, Bad, Good, NoComma as no_comma, NoScheme, Outcome, outcome_bytes, staged}
use Rattle.data_url.specs.Mime.{IsRecordOf}
use Rattle.data_url.specs.MimeType.{record_of}
use Rattle.data_url.specs.Run.{IsPrefix}
use Rattle.data_url.specs.declared.mime.Mime.{Mime}
use Rattle.uses.specs.declared.loader.LoadError.TheVariants.{InvalidBase64, NoComma, NotADataUrl, OutOfMemory}
use Rattle.uses.specs.declared.loader.LoadError.TheVariants.{OverLimit, SinkFailed}
use Rattle.uses.specs.declared.loader.LoadError.{LoadError}

-- what a sink holds, if that is known
abbrev pub Held : Type 0
Held = Option (List ℕ)

-- a prefix of a text, of at most `limit` bytes, is appended to what a sink holds
pub record TakesWithin (text : List ℕ) (limit : ℕ) (old new : Held) : Type 0 where
  pub bytes : List ℕ
  pub taken : Appends old new bytes
  pub begins : IsPrefix bytes text
  pub within : length bytes ≤ limit

-- what was written of a body under a limit, for each result; errors of reading a URL are not possible
abbrev pub StreamsBody : Outcome → ℕ → Held → Held → Result (Unit {0}) LoadError → Type 0
StreamsBody body limit old new (Ok x) =
    (bytes : List ℕ) × (body ≡ Good bytes) × (length bytes ≤ limit) × Appends old new bytes
StreamsBody body limit old new (Err (InvalidBase64 kind)) =
    (bytes : List ℕ) × (body ≡ Bad bytes kind) × (length bytes ≤ limit) × Appends old new bytes
StreamsBody body limit old new (Err OverLimit) =
    (limit < length (outcome_bytes body)) × TakesWithin (outcome_bytes body) limit old new
StreamsBody body limit old new (Err SinkFailed) = TakesWithin (outcome_bytes body) limit old new
StreamsBody body limit old new (Err NotADataUrl) = ⊥
StreamsBody body limit old new (Err NoComma) = ⊥
StreamsBody body limit old new (Err OutOfMemory) = ⊥

-- the text is a data: URL, with this text of its MIME type and this body
pub record IsResource (t type_text : List ℕ) (body : Outcome) : Type 0 where
  pub fragment : Option (List ℕ)
  pub staged_is : staged t ≡ Accepted type_text body fragment

-- the text is a data: URL, and its body was written under a limit
pub record LoadsBody (t : List ℕ) (limit : ℕ) (old new : Held) (r : Result (Unit {0}) LoadError)
    : Type 0 where
  pub type_text : List ℕ
  pub body : Outcome
  pub resource : IsResource t type_text body
  pub streamed : StreamsBody body limit old new r

-- the same without an error, and the record of its MIME type is returned
pub record LoadsWhole (t : List ℕ) (limit : ℕ) (old new : Held) (mime : Mime) : Type 0 where
  pub type_text : List ℕ
  pub body : Outcome
  pub resource : IsResource t type_text body
  pub record_is : IsRecordOf type_text (record_of mime)
  pub streamed : StreamsBody body limit old new (Ok tt)

-- what loading a URL does to the sink, for each result
abbrev pub Loads : List ℕ → ℕ → Held → Held → Result Mime LoadError → Type 0
Loads t limit old new (Ok mime) = LoadsWhole t limit old new mime
Loads t limit old new (Err NotADataUrl) = (staged t ≡ NoScheme) × Keeps old new
Loads t limit old new (Err NoComma) = (staged t ≡ no_comma) × Keeps old new
Loads t limit old new (Err OutOfMemory) = IsAcceptable (staged t) × Keeps old new
Loads t limit old new (Err (InvalidBase64 kind)) =
    LoadsBody t limit old new (Err (InvalidBase64 kind))
Loads t limit old new (Err OverLimit) = LoadsBody t limit old new (Err OverLimit)
Loads t limit old new (Err SinkFailed) = LoadsBody t limit old new (Err SinkFailed)
