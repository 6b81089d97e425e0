-- How a result is passed to C: a status, a length, and bytes in the caller's output.
use Rattle.std.specs.Global.{Global}
use Rattle.std.specs.Prelude.{◌+◌, ◌++◌, ◌<◌, ◌≡◌, ◌≤◌, Err, List, Ok, Result, Vec, drop, length, ℕ}
use Rattle.data_url.specs.Base64.{Kind}
use Rattle.data_url.specs.declared.forgiving_base64.InvalidBase64Details.TheVariants.{AlphabetSymbolAfterPadding}
use Rattle.data_url.specs.declared.forgiving_base64.InvalidBase64Details.TheVariants.{LoneAlphabetSymbol, Padding}
use Rattle.data_url.specs.declared.forgiving_base64.InvalidBase64Details.TheVariants.{UnexpectedSymbol}
use Rattle.data_url_c.specs.declared.answer.DataUrlAnswer.{DataUrlAnswer}
use Rattle.data_url_c.specs.declared.answer.Refusal.TheVariants.{InvalidBase64, NoComma, NoFragment, NotADataUrl}
use Rattle.data_url_c.specs.declared.answer.Refusal.TheVariants.{NotAMimeType, NotUtf8, OutOfMemory}
use Rattle.data_url_c.specs.declared.answer.Refusal.{Refusal}

-- a result: bytes, or why there are none
abbrev pub Given : Type 0
Given = Result (Vec ℕ Global) Refusal

-- the status of base64 that is not valid: from the kind of its fault and, for an unexpected symbol,
-- the byte
abbrev pub status_of_kind : Kind → ℕ
status_of_kind Padding = 8
status_of_kind LoneAlphabetSymbol = 9
status_of_kind AlphabetSymbolAfterPadding = 10
status_of_kind (UnexpectedSymbol byte) = 256 + byte

-- the result for bytes with this status. The length is that of the bytes. If the output has room for
-- them, they are written to its start, the rest of it does not change, and the status is this one.
-- Otherwise the status is 5, and the output does not change.
pub record Shows (status : ℕ) (bytes old new : List ℕ) (r : DataUrlAnswer) : Type 0 where
  pub len : r.len ≡ length bytes
  pub fits : length bytes ≤ length old
      → (r.status ≡ status) × (new ≡ bytes ++ drop (length bytes) old)
  pub is_too_small : length old < length bytes → (r.status ≡ 5) × (new ≡ old)

-- the result for an error without bytes: this status, length 0, and the output does not change
abbrev pub Tells : ℕ → List ℕ → List ℕ → DataUrlAnswer → Type 0
Tells status old new r = (r.status ≡ status) × (r.len ≡ 0) × (new ≡ old)

-- the result in C, with the output before the call (old) and after it (new)
abbrev pub Crosses : Given → List ℕ → List ℕ → DataUrlAnswer → Type 0
Crosses (Ok bytes) old new r = Shows 0 bytes.items old new r
Crosses (Err NotADataUrl) old new r = Tells 1 old new r
Crosses (Err NoComma) old new r = Tells 2 old new r
Crosses (Err OutOfMemory) old new r = Tells 3 old new r
Crosses (Err NotUtf8) old new r = Tells 4 old new r
Crosses (Err NotAMimeType) old new r = Tells 6 old new r
Crosses (Err NoFragment) old new r = Tells 7 old new r
Crosses (Err (InvalidBase64 kind before)) old new r =
    Shows (status_of_kind kind) before.items old new r

-- the result in C of a call for whose result `Gives` is true
pub record Answers (Gives : Given → Type 0) (old new : List ℕ) (r : DataUrlAnswer) : Type 0 where
  pub given : Given
  pub is_given : Gives given
  pub crosses : Crosses given old new r
