use Rattle.std.proofs.Common.{arith, drop, length-drop, sym, ◌∙◌}
use Rattle.data_url.proofs.forgiving_base64.Vectors.{is_other}
use Rattle.data_url.specs.Steps.Groups.{is_symbol_or_space}
use Rattle.data_url.proofs.{classes.Lookups.{all_in_rows}, forgiving_base64.Groups.{row_long}}
use Rattle.data_url.proofs.forgiving_base64.Packed.{row_mask_small, row_spaced, row_symbols}
use Rattle.data_url.proofs.forgiving_base64.gaps.pack_rows.Goals as goal

pub pack_row-have-requires-clause-bits : goal.pack_row-have-requires-clause-bits
pack_row-have-requires-clause-bits c =
    let rest = drop c.loop-have.at c.args.text.now in
    let long = row_long rest c.row-row.ensures (omega (arith, length-drop c.loop-have.at c.args.text.now)) in
    row_mask_small is_other c.row-row.result long c.non_symbols.ensures

pub loop-have-preserved : goal.loop-have-preserved
loop-have-preserved c =
    let i = c.loop-have.invariant in
    let text = c.args.text.now in
    let row = c.row-row in
    let packed = c.pack_row-have.ensures in
    record {
      few = omega (arith, packed.few);
      within = omega arith;
      room = omega (arith, i.room, c.pack_row-have.auto.bytes);
      spaced = row_spaced text row.result c.loop-have.at i.spaced row.ensures
          (sym (c.is_spaced.ensures ∙ all_in_rows is_symbol_or_space row.result c.repeated.ensures)
          ∙ c.if-not-is_spaced.false);
      packed = row_symbols text c.loop-have.symbols c.pack_row-have.new.bytes row.result c.loop-have.have c.loop-have.at
          c.pack_row-have.result i.packed row.ensures c.non_symbols.ensures packed.kept;
    }
