-- Some bytes are gathered, and the walk can gather more.
use Rattle.std.proofs.Common.{◌-◌, ◌≡◌}
use Rattle.data_url.specs.Steps.Walk.{Gathers, MayGather}
use Rattle.data_url.proofs.escapes.cursor.Cursor.gather_block.Given as goal

abbrev pub invariant-loop-self : goal.invariant-loop-self
invariant-loop-self l =
    Gathers l.fn.self l.self l.fn.buffer l.buffer l.initial.len l.len
    × MayGather l.self l.len
    × (l.self.block.end ≡ l.fn.self.block.end)

abbrev pub decreases-loop-self : goal.decreases-loop-self
decreases-loop-self l = l.self.block.end - l.self.place
