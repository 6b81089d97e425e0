-- The bytes so far are copied.
use Rattle.data_url.proofs.mime.Lowercase.{Lowers}
use Rattle.data_url.proofs.mime.lower.copy_short.Given as goal

abbrev pub invariant-loop-place : goal.invariant-loop-place
invariant-loop-place l = Lowers l.bytes l.fn.output l.place l.output
