use Rattle.std.proofs.Common.{◌*◌, ◌+◌, ◌/◌, ◌≡◌, ◌∙◌, ap, arith, refl}
use Rattle.data_url.specs.Steps.Holding.{left_state}
use Rattle.data_url.proofs.forgiving_base64.Joined.{gains_spaced, packed_after, row_symbols_left}
use Rattle.data_url.proofs.forgiving_base64.Steps.{sound}
use Rattle.data_url.proofs.forgiving_base64.left_over.LeftOver.decode_spaced.Goals as goal

pub keep_after_groups-requires-clause-symbols : goal.keep_after_groups-requires-clause-symbols
keep_after_groups-requires-clause-symbols c =
    let d = c.args.self.now in
    let packed = c.pack_spaced-packed in
    let made = packed.ensures in
    row_symbols_left (left_state d) (left_state d) c.args.text.now _ c.row.result c.args.bytes.now
    c.decode_unit.new.bytes 0 packed.result.1 (d.pending + packed.result.0)
    (packed_after d.symbols c.put.new.bytes packed.new.symbols _ d.pending packed.result.0
    (omega (arith, d.few_pending)) d.sized c.put.ensures
    (omega (arith, packed.auto.symbols, d.few_pending, made.sizes, c.requires.few)) made.symbols)
    made.spaced c.decode_unit.ensures c.row.ensures (sound d)

pub returns-clause-read : goal.returns-clause-read
returns-clause-read c =
    let d = c.args.self.now in
    let packed = c.pack_spaced-packed in
    let made = packed.ensures in
    let kept = c.keep_after_groups.ensures.left in
    let len = (d.pending + packed.result.0) / 4 * 3 in
    let same : 0 + len ≡ len = omega arith in
    rw same at (gains_spaced (left_state d) (left_state c.keep_after_groups.new.self) c.args.text.now _ c.row.result
    c.args.bytes.now c.decode_unit.new.bytes 0 packed.result.1 (d.pending + packed.result.0)
    (packed_after d.symbols c.put.new.bytes packed.new.symbols _ d.pending packed.result.0
    (omega (arith, d.few_pending)) d.sized c.put.ensures
    (omega (arith, packed.auto.symbols, d.few_pending, made.sizes, c.requires.few)) made.symbols)
    made.spaced c.decode_unit.ensures c.row.ensures (sound d) made.sizes.1.0 made.sizes.1.1 c.requires.no_padding refl
    (ap (λ s. s.symbols) kept) (ap (λ s. s.padding) kept ∙ c.requires.no_padding) refl)
