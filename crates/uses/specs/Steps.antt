-- What private functions do: definitions that no contract of a public function uses.
use Rattle.std.specs.Borrow.{Bor}
use Rattle.std.specs.Io.KnownBytes.{Appends}
use Rattle.std.specs.Prelude.{◌+◌, ◌-◌, ◌<◌, ◌≡◌, ◌≤◌, Err, List, MatchOption, Ok, Option, Result, length, ℕ}
use Rattle.data_url.specs.DataUrl.{IsAcceptable, IsUrlOf}
use Rattle.data_url.specs.Fetch.{staged}
use Rattle.data_url.specs.Run.{IsPrefix}
use Rattle.data_url.specs.declared.DataUrl.{DataUrl}
use Rattle.uses.specs.Fetches.{IsReasonOf}
use Rattle.uses.specs.Loads.{Held}
use Rattle.uses.specs.Pages.{HasNoReference, IsReference}
use Rattle.uses.specs.declared.fetch.FetchError.TheVariants.{Network, OutOfMemory}
use Rattle.uses.specs.declared.fetch.FetchError.{FetchError}
use Rattle.uses.specs.declared.loader.Refusal.TheVariants as refused
use Rattle.uses.specs.declared.loader.Refusal.{Refusal}
use Rattle.uses.specs.declared.reader.Rest.TheVariants.{Ended, Faulty, More}
use Rattle.uses.specs.declared.reader.Rest.{Rest}

-- a prefix of a text is appended to what a sink holds
pub record TakesPrefix (text : List ℕ) (old new : Held) : Type 0 where
  pub bytes : List ℕ
  pub taken : Appends old new bytes
  pub begins : IsPrefix bytes text

-- a whole piece was written; or a write failed, after a prefix of it
abbrev pub Writes : List ℕ → Held → Held → Result (Unit {0}) Refusal → Type 0
Writes piece old new (Ok x) = Appends old new piece
Writes piece old new (Err refused.SinkFailed) = TakesPrefix piece old new
Writes piece old new (Err refused.OverLimit) = ⊥

-- a piece was written, and its length is subtracted from the room; or it did not fit, and nothing was
-- written; or a write failed, after a prefix of it
abbrev pub WritesWithin : List ℕ → ℕ → ℕ → Held → Held → Result (Unit {0}) Refusal → Type 0
WritesWithin piece room left old new (Ok x) = (room ≡ left + length piece) × Appends old new piece
WritesWithin piece room left old new (Err refused.OverLimit) = (room < length piece) × (new ≡ old)
WritesWithin piece room left old new (Err refused.SinkFailed) =
    (length piece ≤ room) × TakesPrefix piece old new

-- the URL of a text, or why the text is not a data: URL
abbrev pub Opens : List ℕ → Result DataUrl FetchError → Type 0
Opens t (Ok url) = IsUrlOf t url
Opens t (Err (Network reason)) = IsReasonOf (staged t) reason
Opens t (Err OutOfMemory) = IsAcceptable (staged t)

-- the first reference of a page, with the text before and after it, if there is one
abbrev pub FindsReference : List ℕ → Option (Bor (List ℕ) × Bor (List ℕ) × Bor (List ℕ)) → Type 0
FindsReference page found =
    MatchOption found (HasNoReference page) (λ cut. IsReference page cut.0.now cut.1.now cut.2.now)

-- how many bytes of the tail are left, and one if there may be more of the body
abbrev pub bytes_left : Rest → ℕ
bytes_left (More body) = length body.tail.now - body.place + 1
bytes_left Ended = 0
bytes_left (Faulty kind) = 0
