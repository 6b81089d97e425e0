use Rattle.std.proofs.Common.{ap, arith, map, sym}
use Rattle.std.proofs.lemmas.List.{length-map}
use Rattle.std.specs.Char.{to_ascii_lowercase}
use Rattle.data_url.proofs.mime.PartTexts.{part_fits, part_not, puts_lower}
use Rattle.data_url.proofs.mime.in_parts.put_lowercase.Goals as goal

pub returns-then-end-output : goal.returns-then-end-output
returns-then-end-output c = puts_lower c.args.text.now c.utf8.text c.requires
    (part_fits _ (sym (length-map c.args.text.now to_ascii_lowercase)) c.saturating_add.ensures
    c.saturating_add-end.ensures
    (ap (map to_ascii_lowercase) c.as_bytes.ensures.value) c.if-end-output.true (omega arith)
    c.write_length_at.ensures c.write_lowercase_at.ensures)

pub returns-else-end-output : goal.returns-else-end-output
returns-else-end-output c = puts_lower c.args.text.now c.utf8.text c.requires
    (part_not _ (sym (length-map c.args.text.now to_ascii_lowercase)) c.saturating_add.ensures
    c.saturating_add-end.ensures _
    (omega (arith, c.if-end-output.false)))
