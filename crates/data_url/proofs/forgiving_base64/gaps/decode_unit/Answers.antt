use Rattle.std.proofs.Common.{arith}
use Rattle.data_url.proofs.forgiving_base64.Packed.{decodes_more, decodes_none}
use Rattle.data_url.proofs.forgiving_base64.gaps.decode_unit.Goals as goal

pub loop-index-init : goal.loop-index-init
loop-index-init c = decodes_none c.args.symbols.now c.args.bytes.now c.args.at

pub loop-index-preserved : goal.loop-index-preserved
loop-index-preserved c =
    let l = c.loop-index in
    decodes_more c.args.symbols.now c.args.bytes.now l.bytes c.put.new.bytes c.decode_row.result c.args.at l.index
    (omega (arith, c.requires.room, l.auto.bytes, c.loop-index-test.true)) (omega (
      arith,
      c.requires.long,
      c.loop-index-test.true,
    )) l.invariant c.put.ensures
    (rw c.row.ensures at c.decode_row.ensures.bytes)
