use Rattle.std.proofs.Common.{arith, refl}
use Rattle.data_url.proofs.mime.PartTexts.{part_fits, part_not, puts_text}
use Rattle.data_url.proofs.mime.in_parts.put_text.Goals as goal

pub returns-then-end-output : goal.returns-then-end-output
returns-then-end-output c = puts_text c.args.text.now c.utf8.text (part_fits _ refl c.saturating_add.ensures
    c.saturating_add-end.ensures
    c.as_bytes.ensures.value c.if-end-output.true (omega arith) c.write_length_at.ensures c.write_at.ensures)

pub returns-else-end-output : goal.returns-else-end-output
returns-else-end-output c = puts_text c.args.text.now c.utf8.text (part_not _ refl c.saturating_add.ensures
    c.saturating_add-end.ensures _
    (omega (arith, c.if-end-output.false)))
