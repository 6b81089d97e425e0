-- Some bytes are gathered; either the body ends at the place of the walk, or nothing is known about it.
use Rattle.std.proofs.Common.{length}
use Rattle.data_url.{proofs.escapes.Walking.{measure}, specs.Pieces.{has_ended, text_of}, specs.Steps.Walk.{Gathered}}
use Rattle.data_url.proofs.escapes.cursor.Cursor.gather.Given as goal

abbrev pub invariant-loop-more : goal.invariant-loop-more
invariant-loop-more l = Gathered l.fn.self l.self l.fn.buffer l.buffer 0 l.len

abbrev pub decreases-loop-more : goal.decreases-loop-more
decreases-loop-more l = measure (length (text_of l.fn.self)) l.self.place (has_ended l.self.ahead)
