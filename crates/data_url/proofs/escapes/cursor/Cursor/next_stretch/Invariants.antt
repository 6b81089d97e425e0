-- Tabs and newlines were skipped, and a stretch was found up to the place where the search goes on.
use Rattle.std.proofs.Common.{length, ◌+◌, ◌-◌, ◌≤◌}
use Rattle.data_url.specs.{Pieces.{text_of}, Steps.Walk.{Looking, LooksOn, Searching}}
use Rattle.data_url.proofs.escapes.cursor.Cursor.next_stretch.Given as goal

abbrev pub invariant-loop-self : goal.invariant-loop-self
invariant-loop-self l = record {
  looking : Looking l.self.source l.self.block l.from 0;
  on : LooksOn l.fn.self.source l.self.source;
  search : Searching (text_of l.fn.self) l.fn.self.place l.self.place l.from;
  few : l.from ≤ l.self.place + l.most;
}

abbrev pub decreases-loop-self : goal.decreases-loop-self
decreases-loop-self l = length (text_of l.fn.self) - l.from
