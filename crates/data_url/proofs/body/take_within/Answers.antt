use Rattle.std.proofs.Common.{arith, inl, inr, length, refl, rules, ◌-◌, ◌≤◌, ◌⊎◌}
use Rattle.std.{proofs.lemmas.Result.{err_from_is_err_and}, specs.Fn.{CalledAt}}
use Rattle.data_url.proofs.body.Decoding.{next_fits, takes_ended, takes_enough, takes_more, takes_none, takes_over}
use Rattle.data_url.proofs.body.Decoding.{takes_refused}
use Rattle.data_url.proofs.body.take_within.Goals as goal

pub returns-then-has_ended : goal.returns-then-has_ended
returns-then-has_ended g c =
    takes_ended (CalledAt g.F.FnMut) (takes_none (CalledAt g.F.FnMut) c.args.most c.requires.short) (search rules)

pub pieces-init : goal.pieces-init
pieces-init g c = takes_none (CalledAt g.F.FnMut) c.args.most c.requires.short

pub returns-in_err-take : goal.returns-in_err-take
returns-in_err-take g c =
    let p = err_from_is_err_and c.from_residual.result c.from_residual.ensures.1 in
    let some : 1 ≤ c.if-most-lt-BUFFER_LEN.least = elim c.if-most-lt-BUFFER_LEN.branch [
      | goal.then-most-lt-BUFFER_LEN w ↦ omega (arith, w.least-is)
      | goal.else-most-lt-BUFFER_LEN w ↦ omega (arith, w.least-is)
    ] in
    let or : (1 ≤ c.pieces.left) ⊎ (length c.pieces.walk.text - c.pieces.walk.place ≤ c.pieces.left) =
    elim c.else-left-least.branch [
      | goal.else-left-least-via-then-left-least+else-left-rest_len w ↦ inr (omega (
        arith,
        w.rest_len.ensures,
        w.if-left-rest_len,
      ))
      | goal.else-left-least-via-else-left-least w ↦ inl (omega (arith, w.if-left-least.false, some))
    ] in
    let few = next_fits c.in-Some.ensures.gives (omega (arith, c.min.ensures, c.max.ensures))
    c.in-Some.ensures.few or in
    rw (p.1, p.2) (takes_refused (CalledAt g.F.FnMut) c.pieces.invariant c.in-Some.ensures.gives few
    (record { shown = _; shows = refl; called = c.in_err-take.ensures }))

pub pieces-preserved : goal.pieces-preserved
pieces-preserved g c =
    let some : 1 ≤ c.if-most-lt-BUFFER_LEN.least = elim c.if-most-lt-BUFFER_LEN.branch [
      | goal.then-most-lt-BUFFER_LEN w ↦ omega (arith, w.least-is)
      | goal.else-most-lt-BUFFER_LEN w ↦ omega (arith, w.least-is)
    ] in
    let or : (1 ≤ c.pieces.left) ⊎ (length c.pieces.walk.text - c.pieces.walk.place ≤ c.pieces.left) =
    elim c.else-left-least.branch [
      | goal.else-left-least-via-then-left-least+else-left-rest_len w ↦ inr (omega (
        arith,
        w.rest_len.ensures,
        w.if-left-rest_len,
      ))
      | goal.else-left-least-via-else-left-least w ↦ inl (omega (arith, w.if-left-least.false, some))
    ] in
    let few = next_fits c.in-Some.ensures.gives (omega (arith, c.min.ensures, c.max.ensures))
    c.in-Some.ensures.few or in
    takes_more (CalledAt g.F.FnMut) c.pieces.invariant c.in-Some.ensures.gives few
    (record { shown = _; shows = refl; called = c.in_ok-take.ensures })

pub returns : goal.returns
returns g c =
    let least : 1 ≤ c.args.most → c.if-most-lt-BUFFER_LEN.least ≤ c.args.most = λ l.
    elim c.if-most-lt-BUFFER_LEN.branch [
      | goal.then-most-lt-BUFFER_LEN w ↦ omega (arith, w.least-is)
      | goal.else-most-lt-BUFFER_LEN w ↦ omega (arith, w.least-is, w.if-most-lt-BUFFER_LEN)
    ] in
    elim c.pieces-test.branch [
      | goal.else-pieces-test w ↦ rw w.walk-is (takes_ended (CalledAt g.F.FnMut) c.pieces.invariant (search rules))
      | goal.then-pieces-test+then-left-least+then-left-rest_len w ↦ rw w.walk-is
          (takes_enough (CalledAt g.F.FnMut) c.pieces.invariant w.if-left-least.true least
          (omega (arith, w.rest_len.ensures, w.if-left-rest_len)))
      | goal.then-pieces-test+else-left-least+in_default w ↦ rw w.walk-is
          (takes_over (CalledAt g.F.FnMut) c.pieces.invariant (w.in_default.ensures.gives))
    ]
