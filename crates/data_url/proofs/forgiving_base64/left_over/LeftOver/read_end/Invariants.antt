-- The padding and the white space so far are read.
use Rattle.std.proofs.Common.{[], ◌-◌, ◌≤◌, length, take}
use Rattle.data_url.specs.Steps.Holding.{Completes, left_state}
use Rattle.data_url.proofs.forgiving_base64.left_over.LeftOver.read_end.Given as goal

abbrev pub invariant-loop-at : goal.invariant-loop-at
invariant-loop-at l = record {
  within : l.at ≤ length l.text;
  read : Completes (left_state l.fn.self) (take l.at l.text) [] (left_state l.self);
}

abbrev pub decreases-loop-at : goal.decreases-loop-at
decreases-loop-at l = length l.text - l.at
