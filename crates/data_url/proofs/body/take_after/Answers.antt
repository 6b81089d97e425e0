use Rattle.std.proofs.Common.{[], arith, length, refl, ◌+◌}
use Rattle.std.{proofs.lemmas.List.{nil_from_length}, proofs.lemmas.Result.{err_from_is_err_and}, specs.Fn.{CalledAt}}
use Rattle.data_url.specs.Pieces.{walk_at_start}
use Rattle.data_url.specs.Steps.Chunks.{IsCallableUntilError}
use Rattle.data_url.proofs.body.Decoding.{TakesSoFar, callable_on, prefix_empty, prefix_refused, prefix_taken}
use Rattle.data_url.proofs.body.Decoding.{takes_on}
use Rattle.data_url.proofs.body.take_after.Goals as goal

pub take-requires : goal.take-requires
take-requires g c = c.requires.callable [] c.args.take.now refl refl c.args.prefix

pub returns-in_err-take : goal.returns-in_err-take
returns-in_err-take g c =
    let p = err_from_is_err_and c.from_residual.result c.from_residual.ensures.1 in
    rw (p.1, p.2) (prefix_refused (CalledAt g.F.FnMut) c.args.most c.requires.prefix (grind arith)
    (record { shown = c.args.prefix; shows = refl; called = c.in_err-take.ensures }))

pub take_within-requires-clause-callable : goal.take_within-requires-clause-callable
take_within-requires-clause-callable g c =
    let k : IsCallableUntilError g.F.FnMut c.if-not-is_empty.take = elim c.if-not-is_empty.branch [
      | goal.then-not-is_empty+in_ok-take w ↦ rw w.take-is (callable_on g.F.FnMut c.requires.callable
          (record { shown = c.args.prefix; shows = refl; called = w.in_ok-take.ensures }))
      | goal.else-not-is_empty w ↦ rw w.take-is c.requires.callable
    ] in
    k

pub returns : goal.returns
returns g c =
    let so : TakesSoFar (CalledAt g.F.FnMut) c.args.take.now (walk_at_start c.args.walk.now.text)
    (length c.args.prefix.now + c.args.most) c.args.most c.if-not-is_empty.take c.args.walk.now =
    elim c.if-not-is_empty.branch [
      | goal.then-not-is_empty+in_ok-take w ↦ rw w.take-is (prefix_taken (CalledAt g.F.FnMut) c.args.most
          c.requires.prefix (grind arith)
          (record { shown = c.args.prefix; shows = refl; called = w.in_ok-take.ensures }))
      | goal.else-not-is_empty w ↦ rw w.take-is (prefix_empty (CalledAt g.F.FnMut) c.args.most c.requires.prefix
          (nil_from_length c.args.prefix.now (grind arith)))
    ] in
    takes_on (CalledAt g.F.FnMut) c.take_within.result c.take_within.new.take c.take_within.new.walk so
    c.take_within.ensures
