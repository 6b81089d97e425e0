-- Some bytes are gathered, and the walk is directly after an escape.
use Rattle.std.proofs.Common.{length, ◌*◌, ◌+◌, ◌-◌, ◌≡◌, ◌≤◌}
use Rattle.data_url.specs.{Pieces.{text_of}, Steps.Walk.{Gathers, HasRoom, Looking}}
use Rattle.data_url.specs.declared.escapes.cursor.Ahead.TheVariants.{Unknown}
use Rattle.data_url.proofs.escapes.cursor.Cursor.gather_escapes.Given as goal

abbrev pub invariant-loop-len : goal.invariant-loop-len
invariant-loop-len l =
    Gathers l.fn.self l.self l.fn.buffer l.buffer l.initial.len l.len
    × Looking l.self.source l.self.block l.self.place 3
    × HasRoom l.self l.len
    × (l.self.ahead ≡ Unknown)
    × (l.self.block.end ≡ l.fn.self.block.end)
    × (l.self.place + 3 * (l.end - l.len) ≤ length (text_of l.self))

abbrev pub decreases-loop-len : goal.decreases-loop-len
decreases-loop-len l = l.end - l.len
