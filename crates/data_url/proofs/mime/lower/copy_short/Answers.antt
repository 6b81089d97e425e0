use Rattle.std.proofs.Common.{arith}
use Rattle.data_url.proofs.mime.Lowercase.{lowers_next}
use Rattle.data_url.proofs.mime.lower.copy_short.Goals as goal

pub loop-place-preserved : goal.loop-place-preserved
loop-place-preserved c = rw c.to_ascii_lowercase.ensures.value (lowers_next c.args.bytes.now c.args.output.now
    c.loop-place.place (omega (arith, c.requires)) c.loop-place-test.true c.loop-place.invariant)
