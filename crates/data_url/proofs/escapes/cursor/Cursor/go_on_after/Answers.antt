use Rattle.std.proofs.Common.{arith, ◌+◌}
use Rattle.data_url.proofs.escapes.{BlockMarks.{looking_on}, PackedBlocks.{looking_again}}
use Rattle.data_url.proofs.escapes.cursor.Cursor.go_on_after.Goals as goal

pub returns-then-left-le-SHORT_REST-clause-looking : goal.returns-then-left-le-SHORT_REST-clause-looking
returns-then-left-le-SHORT_REST-clause-looking c =
    looking_again c.requires.looking c.requires.used.1 (omega arith) c.between-self.ensures

pub returns-else-left-le-SHORT_REST-clause-looking : goal.returns-else-left-le-SHORT_REST-clause-looking
returns-else-left-le-SHORT_REST-clause-looking c =
    looking_on (c.args.self.now.place + c.args.used) c.requires.looking (omega arith)
    (omega (arith, c.requires.looking.block.end_le, c.requires.used.1))
