use Rattle.std.proofs.Common.{arith}
use Rattle.data_url.proofs.escapes.Walking.{byte_next}
use Rattle.data_url.proofs.escapes.cursor.Cursor.next.Goals as goal

pub returns-in-Escape-clause-goes : goal.returns-in-Escape-clause-goes
returns-in-Escape-clause-goes c =
    let k = rw c.in-Escape.is at c.requires.knows.ahead_is in byte_next k.0 (grind arith) (grind arith) c.requires.some
