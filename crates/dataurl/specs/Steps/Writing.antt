-- What writing does to the bytes that a writer holds.
use Rattle.std.specs.Io.KnownBytes.{Appends}
use Rattle.std.specs.Prelude.{Err, List, Ok, Option, Result, ℕ}
use Rattle.dataurl.specs.Runs.{IsProperPrefix}
use Rattle.dataurl.specs.declared.fault.WriteFailed.{WriteFailed}

-- all of the bytes were written; or a write failed, after a proper prefix of them
pub data IsWritten (bytes : List ℕ) : List ℕ → Result (Unit {0}) WriteFailed → Type 0 where
  all : IsWritten bytes bytes (Ok tt)
  beginning : {written : List ℕ} {failed : WriteFailed} → IsProperPrefix written bytes
      → IsWritten bytes written (Err failed)

-- the bytes written are appended to those that the writer holds, which may be unknown
pub record Writes (bytes : List ℕ) (old new : Option (List ℕ)) (r : Result (Unit {0}) WriteFailed)
    : Type 0 where
  pub written : List ℕ
  pub appended : Appends old new written
  pub is_written : IsWritten bytes written r
