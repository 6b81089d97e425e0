use Rattle.std.proofs.Common.{List, ap, arith, take, ℕ, ◌++◌, ◌∙◌}
use Rattle.data_url.proofs.escapes.StopBits.{equal_mask, front_put, length-stops, zeros_before}
use Rattle.data_url.specs.Steps.Escapes.{stops}
use Rattle.data_url.proofs.escapes.pack.pack_to_stop.Goals as goal

pub stops_of-passed-requires-clause-percents : goal.stops_of-passed-requires-clause-percents
stops_of-passed-requires-clause-percents c = equal_mask c.args.bytes 37 c.fits-bytes.0

pub decode_escapes-starts-requires : goal.decode_escapes-starts-requires
decode_escapes-starts-requires c = equal_mask c.args.bytes 37 c.fits-bytes.0

pub returns-clause-packed : goal.returns-clause-packed
returns-clause-packed c =
    let d = c.decode_escapes-starts in
    let s = c.stops_of-passed.ensures in
    let zeros = zeros_before (stops c.args.bytes) (length-stops c.args.bytes ∙ c.fits-bytes.0) in
    let put = front_put c.args.bytes d.result.0 d.result.1 c.stops_of-passed.result.0 c.min-used.result
    c.fits-bytes.0 (omega (arith, c.min-used.ensures, c.requires.size)) d.ensures.values d.ensures.starts s.passed in
    record {
      some = omega (arith, c.if-used-lt-FEW.false);
      used_is = grind (arith, c.min-used.ensures, s.stops, zeros);
      short = omega (arith, c.pack_block.ensures.few);
      buffer_is = c.pack_block.ensures.kept ∙ ap (λ (t : List ℕ). take c.args.len c.args.buffer.now ++ t) put;
    }
