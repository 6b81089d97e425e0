-- The bytes so far are copied.
use Rattle.data_url.proofs.mime.Lowercase.{LowersFront}
use Rattle.std.proofs.Common.{◌-◌, length}
use Rattle.data_url.proofs.mime.lower.copy_lowercase.Given as goal

abbrev pub invariant-loop-copied : goal.invariant-loop-copied
invariant-loop-copied l = LowersFront l.bytes l.copied l.output

abbrev pub decreases-loop-copied : goal.decreases-loop-copied
decreases-loop-copied l = length l.bytes - l.copied
