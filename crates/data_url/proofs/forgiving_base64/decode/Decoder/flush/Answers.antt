use Rattle.std.proofs.Common.{◌++◌, ◌+◌, ◌-◌, arith, drop, length-append, length-drop, length-take-le, take}
use Rattle.std.{proofs.lemmas.List.{take_rest}, proofs.lemmas.Result.{err_from_is_err_and}}
use Rattle.std.specs.Fn.{CalledAt}
use Rattle.data_url.proofs.forgiving_base64.Holding.{held_cut, reads_called, reads_passed, reads_refused}
use Rattle.data_url.proofs.forgiving_base64.decode.Decoder.flush.Goals as goal

pub returns-in_err-write-clause-flushed : goal.returns-in_err-write-clause-flushed
returns-in_err-write-clause-flushed g c d0 text b h =
    let bytes = c.args.bytes.now in
    let at = c.loop-at.at in
    let p = err_from_is_err_and c.from_residual.result c.from_residual.ensures.1 in
    rw (p.1, p.2) (reads_refused (CalledAt g.F.FnMut) (take (at + 48 - at) (drop at bytes)) (drop (at + 48) bytes ++ b)
    (omega (
      arith,
      length-take-le (at + 48 - at) (drop at bytes),
      length-drop at bytes,
      length-append (drop (at + 48) bytes) b,
    ))
    (rw (held_cut bytes b at (at + 48) (omega arith)) (c.loop-at.invariant.reads d0 text b h))
    c.in_err-write.ensures.called)

pub loop-at-preserved : goal.loop-at-preserved
loop-at-preserved g c =
    let bytes = c.args.bytes.now in
    let at = c.loop-at.at in
    record {
      callable = c.in_ok-write.ensures.callable;
      going = c.in_ok-write.ensures.called.failed;
      within = omega arith;
      whole = omega arith;
      reads = λ d0 text b h. reads_called (CalledAt g.F.FnMut) (take (at + 48 - at) (drop at bytes))
          (drop (at + 48) bytes ++ b)
          (omega (arith, length-take-le (at + 48 - at) (drop at bytes), length-drop at bytes))
          (rw (held_cut bytes b at (at + 48) (omega arith)) (c.loop-at.invariant.reads d0 text b h))
          c.in_ok-write.ensures.called;
    }

pub returns-then-at-bytes-clause-flushed : goal.returns-then-at-bytes-clause-flushed
returns-then-at-bytes-clause-flushed g c d0 text b h =
    let rest = drop c.loop-at.at c.args.bytes.now in
    reads_passed (CalledAt g.F.FnMut) c.write-then-at-bytes.result rest b
    (omega (arith, length-drop c.loop-at.at c.args.bytes.now)) (c.loop-at.invariant.reads d0 text b h)
    (rw (take_rest c.args.bytes.now c.loop-at.at) at c.write-then-at-bytes.ensures.called)
