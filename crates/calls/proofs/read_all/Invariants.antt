-- No more is read than the buffer has room for.
use Rattle.std.proofs.Common.{length, ◌-◌, ◌≤◌}
use Rattle.calls.proofs.read_all.Given as goal

abbrev pub invariant-loop-len : goal.invariant-loop-len
invariant-loop-len g l = l.len ≤ length l.initial.buffer

abbrev pub decreases-loop-len : goal.decreases-loop-len
decreases-loop-len g l = length l.initial.buffer - l.len
