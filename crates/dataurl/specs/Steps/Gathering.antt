-- Buffered output: short pieces are gathered in a buffer and written together.
use Rattle.std.specs.Io.KnownBytes.{Appends}
use Rattle.std.specs.Prelude.{[], ◌++◌, ◌≡◌, Err, List, MatchResult, Ok, Option, Result, take, ℕ}
use Rattle.data_url.specs.declared.forgiving_base64.DecodeError.TheVariants.{InvalidBase64, WriteError}
use Rattle.data_url.specs.declared.forgiving_base64.DecodeError.{DecodeError}
use Rattle.dataurl.specs.Output.{End}
use Rattle.dataurl.specs.Runs.{IsProperPrefix}
use Rattle.dataurl.specs.declared.fault.Fault.TheVariants.{Base64, Write}
use Rattle.dataurl.specs.declared.fault.WriteFailed.{WriteFailed}
use Rattle.dataurl.specs.declared.gather.Gathered.{Gathered}

-- the bytes in the buffer, which are not written yet
abbrev pub waiting_bytes : Gathered → List ℕ
waiting_bytes g = take g.len g.bytes

-- a piece was added: the bytes written and those in the buffer after it are the buffer before it and
-- the piece. Or a write failed, and the bytes written are a proper prefix of these.
pub record Gathers (piece before after : List ℕ) (old new : Option (List ℕ))
    (r : Result (Unit {0}) WriteFailed) : Type 0 where
  pub written : List ℕ
  pub appended : Appends old new written
  pub took : MatchResult r (λ x. before ++ piece ≡ written ++ after)
      (λ failed. IsProperPrefix written (before ++ piece))

-- all of an output was written; or a write failed, after a proper prefix of it
pub data IsStreamed (IsOutput : List ℕ → End → Type 0) : List ℕ → End → Type 0 where
  all_streamed : {written : List ℕ} {end : End} → IsOutput written end
      → IsStreamed IsOutput written end
  cut_short : {written whole : List ℕ} {end : End} → IsOutput whole end
      → IsProperPrefix written whole
      → IsStreamed IsOutput written (Err Write)

-- what a writer holds after it was given an output
pub record Streams (IsOutput : List ℕ → End → Type 0) (old new : Option (List ℕ)) (r : End)
    : Type 0 where
  pub written : List ℕ
  pub appended : Appends old new written
  pub is_streamed : IsStreamed IsOutput written r

-- the bytes in the buffer were written, and the end is this one; or a write failed
pub data IsFlushed (bytes : List ℕ) (end : End) : List ℕ → End → Type 0 where
  flushed : IsFlushed bytes end bytes end
  not_flushed : {written : List ℕ} → IsProperPrefix written bytes
      → IsFlushed bytes end written (Err Write)

pub record Flushes (bytes : List ℕ) (end : End) (old new : Option (List ℕ)) (r : End) : Type 0 where
  pub written : List ℕ
  pub appended : Appends old new written
  pub is_flushed : IsFlushed bytes end written r

-- after decoding: if a write failed, nothing more is written; otherwise the bytes in the buffer are
abbrev pub IsSettled : Result (Unit {0}) (DecodeError WriteFailed) → List ℕ → List ℕ → End → Type 0
IsSettled (Ok x) bytes written end = IsFlushed bytes (Ok tt) written end
IsSettled (Err (InvalidBase64 kind)) bytes written end =
    IsFlushed bytes (Err (Base64 kind)) written end
IsSettled (Err (WriteError failed)) bytes written end = (written ≡ []) × (end ≡ Err Write)

pub record Settles (answer : Result (Unit {0}) (DecodeError WriteFailed)) (bytes : List ℕ)
    (old new : Option (List ℕ)) (r : End) : Type 0 where
  pub written : List ℕ
  pub appended : Appends old new written
  pub is_settled : IsSettled answer bytes written r
