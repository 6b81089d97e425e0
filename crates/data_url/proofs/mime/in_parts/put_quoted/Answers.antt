use Rattle.std.proofs.Common.{◌∙◌, ap, arith, false, length}
use Rattle.data_url.proofs.mime.PartTexts.{part_fits, part_not, puts_quoted, value_len}
use Rattle.data_url.specs.Steps.Parsing.{unescaped}
use Rattle.data_url.proofs.mime.in_parts.put_quoted.Goals as goal

pub returns-then-end-output : goal.returns-then-end-output
returns-then-end-output c =
    let same = ap (unescaped false) c.as_bytes-bytes.ensures.value in
    puts_quoted c.args.quoted.now c.utf8.quoted
    (part_fits _ (value_len c.as_bytes-bytes.result.now (omega arith) c.put_unescaped-len.ensures ∙ ap length same)
    c.saturating_add.ensures c.saturating_add-end.ensures same c.if-end-output.true (omega arith)
    c.write_length_at.ensures c.put_unescaped.ensures)

pub returns-else-end-output : goal.returns-else-end-output
returns-else-end-output c =
    let same = ap (unescaped false) c.as_bytes-bytes.ensures.value in
    puts_quoted c.args.quoted.now c.utf8.quoted
    (part_not _ (value_len c.as_bytes-bytes.result.now (omega arith) c.put_unescaped-len.ensures ∙ ap length same)
    c.saturating_add.ensures c.saturating_add-end.ensures _ (omega (arith, c.if-end-output.false)))
