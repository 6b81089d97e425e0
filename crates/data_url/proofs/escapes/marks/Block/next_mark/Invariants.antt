-- There is no mark before the place, and no byte after it was read.
use Rattle.std.proofs.Common.{length, ◌-◌, ◌≤◌}
use Rattle.data_url.specs.Steps.Walk.{IsClear, Looking, LooksOn}
use Rattle.data_url.proofs.escapes.marks.Block.next_mark.Given as goal

abbrev pub invariant-loop-place : goal.invariant-loop-place
invariant-loop-place l = record {
  looking : Looking l.source l.self l.place 0;
  at_end : l.from ≤ l.end → l.end ≤ l.place → Looking l.source l.self l.end 0;
  on : LooksOn l.fn.source l.source;
  unseen : l.self.end ≤ l.place;
  forward : l.from ≤ l.place;
  clear : IsClear l.fn.source.text.now l.from l.place;
}

abbrev pub decreases-loop-place : goal.decreases-loop-place
decreases-loop-place l = length l.fn.source.text.now - l.place
