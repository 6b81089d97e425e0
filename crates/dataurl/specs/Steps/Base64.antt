-- What decoding base64 from a reader does.
use Rattle.std.specs.Io.KnownBytes.{Consumes, IsAtEnd}
use Rattle.std.specs.Prelude.{◌≡◌, Err, List, None, Ok, Option, Result, ℕ}
use Rattle.data_url.specs.Base64.{first_fault}
use Rattle.data_url.specs.Decoder.{Feeds, State, start}
use Rattle.data_url.proofs.api.{DecodesText}
use Rattle.data_url.specs.declared.forgiving_base64.DecodeError.{DecodeError}
use Rattle.dataurl.specs.Runs.{IsSoundBeforeLastPiece}
use Rattle.dataurl.specs.declared.fault.WriteFailed.{WriteFailed}
use Rattle.dataurl.specs.declared.stream.Ended.TheVariants.{Decoded, ReadFailed}
use Rattle.dataurl.specs.declared.stream.Ended.{Ended}

-- a new decoder with the closure f was fed the text, and its closure is g after that
pub record FeedsText {F : Type 0} (step : F → List ℕ → Result (Unit {0}) WriteFailed → F → Type 0)
    (f : F) (text : List ℕ) (r : Result (Unit {0}) (DecodeError WriteFailed)) (g : F) : Type 0 where
  pub state : State F
  pub fed : Feeds step (start f) text r state
  pub closure_is : state.closure ≡ g

-- the bytes read were decoded: all of them, to the end of the input; or up to a fault or an error of
-- the closure in the last piece; or up to a failed read
pub data IsDecoded {F : Type 0} (step : F → List ℕ → Result (Unit {0}) WriteFailed → F → Type 0)
    (f : F) (x : List ℕ) (left : Option (List ℕ)) : Ended → F → Type 0 where
  finished : {r : Result (Unit {0}) (DecodeError WriteFailed)} {g : F} → IsAtEnd left
      → first_fault x ≡ None → DecodesText step f x r g → IsDecoded step f x left (Decoded r) g
  stopped : {error : DecodeError WriteFailed} {g : F} → IsSoundBeforeLastPiece x
      → FeedsText step f x (Err error) g → IsDecoded step f x left (Decoded (Err error)) g
  not_read : {g : F} → FeedsText step f x (Ok tt) g → IsDecoded step f x left ReadFailed g

-- bytes were read, and a new decoder with the closure f decoded them
pub record DecodesReader {F : Type 0} (step : F → List ℕ → Result (Unit {0}) WriteFailed → F → Type 0)
    (f : F) (unread left : Option (List ℕ)) (ended : Ended) (g : F) : Type 0 where
  pub input : List ℕ
  pub consumed : Consumes unread left input
  pub is_decoded : IsDecoded step f input left ended g
