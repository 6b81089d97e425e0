use Rattle.std.proofs.Common.{refl}
use Rattle.data_url.proofs.mime.RoundTrips.{adds_more, prints_ends, prints_more, prints_starts}
use Rattle.data_url.proofs.mime.MimeDisplay.fmt.Goals as goal

pub loop-name-init : goal.loop-name-init
loop-name-init g c = (
  c.in_ok-push-3.ensures.held,
  prints_starts c.args.self.now _ _ c.new-buffer.ensures.none c.deref.ensures c.deref-2.ensures (adds_more (adds_more
      (c.in_ok-push.ensures.added refl) (c.in_ok-push-2.ensures.added refl)) (c.in_ok-push-3.ensures.added refl)),
)

pub loop-name-preserved : goal.loop-name-preserved
loop-name-preserved g c = (
  c.in_ok-push_parameter.ensures.held,
  prints_more _ c.loop-name.invariant.1 c.deref-name-items.ensures.value (c.in_ok-push_parameter.ensures.added refl)
      c.loop-name-test.true c.loop-name-item.is c.deref-in-loop-name.ensures c.deref-in-loop-name-2.ensures,
)

pub returns-clause-styled : goal.returns-clause-styled
returns-clause-styled g c plain ok = prints_ends _ c.loop-name.invariant.1 c.deref-name-items.ensures.value
    c.loop-name-test.false (λ p. c.flush.ensures.written p ok) plain
