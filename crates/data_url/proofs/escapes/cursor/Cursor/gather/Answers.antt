use Rattle.std.proofs.Common.{arith, lit≤}
use Rattle.data_url.proofs.escapes.{Reading.{spells_escape}, Walking.{gathers_byte, walks}}
use Rattle.data_url.proofs.escapes.cursor.Cursor.gather.Goals as goal

pub loop-more-init : goal.loop-more-init
loop-more-init c = elim c.match-self.branch [
  | goal.in-Escape w ↦ rw (w.self-is, w.buffer-is, w.len-is) (
      let k = rw w.in-Escape.is at c.requires.ahead_is in
      record {
        gathers = gathers_byte (grind arith) (spells_escape k.0).reads (omega arith);
        few = lit≤ tt;
        gathering = grind arith;
      })
  | goal.in-AfterEscape w ↦ rw (w.self-is, w.buffer-is, w.len-is) (grind (arith, walks))
  | goal.in-Unknown w ↦ rw (w.self-is, w.buffer-is, w.len-is) (grind (arith, walks))
]
