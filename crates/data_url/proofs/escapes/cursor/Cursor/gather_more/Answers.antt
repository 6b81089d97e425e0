use Rattle.std.proofs.Common.{arith}
use Rattle.data_url.proofs.escapes.{Reading.{spells_none}, Walking.{gathers_nothing, gathers_then}}
use Rattle.data_url.proofs.escapes.cursor.Cursor.gather_more.Goals as goal

pub returns-then-whole_blocks-clause-gathered : goal.returns-then-whole_blocks-clause-gathered
returns-then-whole_blocks-clause-gathered c = grind (arith, gathers_then, gathers_nothing, spells_none)

pub returns-else-whole_blocks-clause-gathered : goal.returns-else-whole_blocks-clause-gathered
returns-else-whole_blocks-clause-gathered c = grind (arith, gathers_then, gathers_nothing, spells_none)
