use Rattle.std.proofs.Common.{arith, refl}
use Rattle.data_url.proofs.escapes.{Reading.{spells_escape}, Walking.{ended_at, gathers_byte, gathers_then}}
use Rattle.data_url.proofs.escapes.cursor.Cursor.gather_mark.Goals as goal

pub returns-else-whole_blocks-clause-gathers : goal.returns-else-whole_blocks-clause-gathers
returns-else-whole_blocks-clause-gathers c =
    gathers_then (gathers_byte (grind arith) (spells_escape c.in-Escape.ensures.found.1).reads (grind arith))
    c.gather_escapes-len.ensures.gathers

pub returns-then-whole_blocks-clause-gathers : goal.returns-then-whole_blocks-clause-gathers
returns-then-whole_blocks-clause-gathers c =
    gathers_byte (grind arith) (spells_escape c.in-Escape.ensures.found.1).reads (grind arith)

pub returns-in-End-clause-goes : goal.returns-in-End-clause-goes
returns-in-End-clause-goes c =
    let found = c.in-End.ensures.found in
    let e = c.requires.may.room.some in
    (e, refl, ended_at c.requires.may.looking c.at_mark.ensures.text found.1 found.2 refl)
