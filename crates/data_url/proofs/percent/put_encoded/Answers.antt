use Rattle.std.proofs.Common.{◌++◌, ap, append-nil, arith, length-take-le, sym, take, ◌∙◌}
use Rattle.data_url.specs.Steps.Sets.{in_set}
use Rattle.data_url.proofs.percent.Encoding.{encoded_empty, put_more}
use Rattle.data_url.proofs.percent.put_encoded.Goals as goal

pub loop-byte-init : goal.loop-byte-init
loop-byte-init c =
    let front = take c.args.start c.args.buffer.now in
    let size = length-take-le c.args.start c.args.buffer.now (omega (arith, c.requires.room, c.told-buffer)) in
    record {
      few = omega (arith, size);
      long = c.told-buffer;
      wrote = sym (ap (λ t. front ++ t) (encoded_empty (in_set c.args.set)) ∙ append-nil front);
    }

pub loop-byte-preserved : goal.loop-byte-preserved
loop-byte-preserved c = rw c.from-at.ensures (put_more _ _ _ _ _ _ _ _ c.loop-byte.invariant c.loop-byte-test.true
    (omega (
      arith,
      length-take-le c.args.start c.args.buffer.now (omega (arith, c.requires.room, c.told-buffer)),
      c.requires.room,
      c.loop-byte.invariant.few,
    )) c.entry-entry.ensures c.copy_from_slice.ensures.len c.copy_from_slice.ensures.after)
