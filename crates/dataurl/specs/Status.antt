-- The exit status of each fault.
use Rattle.std.specs.Prelude.{Err, Ok, ℕ}
use Rattle.dataurl.specs.Output.{End}
use Rattle.dataurl.specs.declared.fault.Fault.TheVariants.{Memory, Read, Write}
use Rattle.dataurl.specs.declared.fault.Fault.{Fault}

-- 3 if reading, writing or allocation failed; 1 for an error in the input
abbrev pub status_of : Fault → ℕ
status_of Memory = 3
status_of Read = 3
status_of Write = 3
status_of fault = 1

-- 0 if the command succeeded
abbrev pub status_of_end : End → ℕ
status_of_end (Ok x) = 0
status_of_end (Err fault) = status_of fault
