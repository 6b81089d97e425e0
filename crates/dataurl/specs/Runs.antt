-- What running a command does to a reader and a writer.
use Rattle.std.specs.Io.KnownBytes.{Appends, Consumes, IsAtEnd}
use Rattle.std.specs.Prelude.{[], ◌++◌, ◌<◌, ◌≡◌, ◌≤◌, Err, List, None, Option, is_some, length, true, ℕ}
use Rattle.data_url.specs.Base64.{complete_bytes, first_fault, kind_of}
use Rattle.dataurl.specs.Command.{TakesText}
use Rattle.dataurl.specs.Output.{End, IsOutput}
use Rattle.dataurl.specs.declared.command.Command.TheVariants.{Base64 as base64}
use Rattle.dataurl.specs.declared.command.Command.{Command}
use Rattle.dataurl.specs.declared.fault.Fault.TheVariants.{Base64, Memory, Read, Write}

-- the second list begins with the first, and is longer
abbrev pub IsProperPrefix : List ℕ → List ℕ → Type 0
IsProperPrefix xs ys = (more : List ℕ) × (ys ≡ xs ++ more) × (0 < length more)

-- before its last piece, of at most 4,096 bytes, the base64 has no fault
pub record IsSoundBeforeLastPiece (x : List ℕ) : Type 0 where
  pub earlier : List ℕ
  pub last : List ℕ
  pub joined : x ≡ earlier ++ last
  pub is_sound : first_fault earlier ≡ None
  pub is_piece : length last ≤ 4096

-- the bytes written and the end of a command, from the bytes read (x) and those not yet read (left)
pub data IsResult (x : List ℕ) (left : Option (List ℕ)) : Command → List ℕ → End → Type 0 where
  -- the whole input was read, and the whole output of the command was written
  complete : {c : Command} {written : List ℕ} {end : End} → IsAtEnd left → IsOutput x c written end
      → IsResult x left c written end
  -- base64 has a fault: nothing is read after the piece with the fault
  stopped : IsSoundBeforeLastPiece x → is_some (first_fault x) ≡ true
      → IsResult x left base64 (complete_bytes x) (Err (Base64 (kind_of x)))
  -- the whole input was read; a write failed after a part of the output
  not_written : {c : Command} {written whole : List ℕ} {end : End} → IsAtEnd left
      → IsOutput x c whole end → IsProperPrefix written whole
      → IsResult x left c written (Err Write)
  -- a write failed after a part of the bytes decoded from the base64 that was read
  base64_not_written : {written : List ℕ} → IsSoundBeforeLastPiece x
      → IsProperPrefix written (complete_bytes x)
      → IsResult x left base64 written (Err Write)
  -- a read failed; nothing was written or, for base64, the bytes of the complete groups that were read
  not_read : {c : Command} → TakesText c → IsResult x left c [] (Err Read)
  base64_not_read : first_fault x ≡ None → IsResult x left base64 (complete_bytes x) (Err Read)
  -- allocation failed, and nothing was written
  no_memory : {c : Command} → TakesText c → IsResult x left c [] (Err Memory)

-- a command read an input and wrote bytes; what the reader and the writer hold may be unknown
pub record Runs (c : Command) (unread left : Option (List ℕ)) (held now : Option (List ℕ)) (r : End)
    : Type 0 where
  pub input : List ℕ
  pub written : List ℕ
  pub consumed : Consumes unread left input
  pub appended : Appends held now written
  pub is_run : IsResult input left c written r
