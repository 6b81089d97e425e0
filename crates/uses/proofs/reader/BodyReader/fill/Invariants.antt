use Rattle.uses.specs.{Reads.{WritesNext}, Steps.{bytes_left}}
use Rattle.uses.proofs.reader.BodyReader.fill.Given as goal

-- what was written so far
abbrev pub invariant-loop-self : goal.invariant-loop-self
invariant-loop-self l = WritesNext l.fn.self.rest l.fn.output l.self.rest l.output l.len

abbrev pub decreases-loop-self : goal.decreases-loop-self
decreases-loop-self l = bytes_left l.self.rest
