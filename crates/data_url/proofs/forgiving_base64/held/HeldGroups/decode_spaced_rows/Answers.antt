use Rattle.std.proofs.Common.{arith}
use Rattle.data_url.specs.Steps.Groups.{is_symbol_or_space}
use Rattle.data_url.proofs.forgiving_base64.{Groups.{all_before}, Packed.{symbols_before, unit_adds}}
use Rattle.data_url.proofs.forgiving_base64.held.HeldGroups.decode_spaced_rows.Goals as goal

pub returns-clause-added : goal.returns-clause-added
returns-clause-added c =
    let text = c.args.text.now in
    let old = c.args.self.now in
    let rows = c.pack_rows-have in
    let back = c.before_partial-have in
    let sizes = back.ensures.sizes in
    unit_adds text old.bytes c.decode_unit.new.bytes rows.new.symbols old.len back.result.0 back.result.1
    c.decode_unit.ensures sizes.0 (omega (arith, rows.ensures.sizes.0, sizes.1.0, rows.auto.symbols))
    (all_before is_symbol_or_space text rows.result.1 back.result.1 rows.ensures.spaced sizes.1.1)
    (symbols_before text rows.new.symbols rows.result.0 rows.result.1 back.result.0 back.result.1 rows.ensures.symbols
    sizes.1.1 sizes.1.0 back.ensures.symbols)
