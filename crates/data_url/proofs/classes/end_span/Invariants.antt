-- The bytes from `end` on are in the class.
use Rattle.std.proofs.Common.{◌≡◌, ◌<◌, ◌≤◌, get_or, length, true}
use Rattle.data_url.specs.Steps.Classes.{in_class}
use Rattle.data_url.proofs.classes.end_span.Given as goal

abbrev pub invariant-loop-end : goal.invariant-loop-end
invariant-loop-end l = record {
  within : l.end ≤ length l.bytes;
  passes : (k : _) → l.end ≤ k → k < length l.bytes → in_class l.class (get_or l.bytes k 0) ≡ true;
}

abbrev pub decreases-loop-end : goal.decreases-loop-end
decreases-loop-end l = l.end
