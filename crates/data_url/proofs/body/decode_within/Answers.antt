use Rattle.std.proofs.Common.{Err, Ok, ap, arith, false, length, refl, rules, take, ◌∙◌}
use Rattle.std.proofs.Common.{◌≡◌}
use Rattle.std.{proofs.lemmas.Result.{err_from_is_err_and}, specs.Fn.{CalledAt, always_mut}}
use Rattle.data_url.specs.{Decoder.{Finishes, state_of}}
use Rattle.data_url.proofs.{body.Decoding.{front_fragment}, forgiving_base64.Steps.{sound}}
use Rattle.data_url.proofs.body.Within.{fed_front, fed_part, fed_until, front_whole, paused_goes, paused_some}
use Rattle.data_url.proofs.body.Within.{within_ended}
use Rattle.data_url.proofs.body.Within.{within_paused, within_refused}
use Rattle.data_url.proofs.runs.Runs.{run_keeps, run_preserves}
use Rattle.data_url.proofs.body.decode_within.Goals as goal

pub returns-in_err-place : goal.returns-in_err-place
returns-in_err-place g c =
    let step = CalledAt g.F.FnMut in
    let p = err_from_is_err_and c.from_residual.result c.from_residual.ensures.1 in
    let fed = c.in_err-place.ensures.fed in
    let part = ap (λ n. take n c.args.tail.now) c.min.ensures in
    let front = front_whole {tail = c.args.tail.now} c.args.most fed.0 part fed.1 in
    rw (p.1, p.2)
    (within_refused step (sound c.args.decoder.now.state) (fed_front step c.args.most fed.0 front.0 front.1))

pub from_place-walk-requires-clause-no_hash : goal.from_place-walk-requires-clause-no_hash
from_place-walk-requires-clause-no_hash g c =
    let part = ap (λ n. take n c.args.tail.now) c.min.ensures in
    let place = c.in_ok-place.place in
    let front = front_whole c.args.most place part c.in_ok-place.ensures.fed.0 in
    front_fragment c.args.tail.now place front.0.no_hash_or_percent

pub take_within-requires-clause-callable : goal.take_within-requires-clause-callable
take_within-requires-clause-callable g c = λ run h ran n bytes.
    run_preserves _ (λ p. always_mut g.F.FnMut p.0.now.write_bytes × (p.0.now.failed ≡ false))
    (λ p piece q i k. search (rules, i)) run _ h ran n (search rules)

pub returns-in_err-take_within : goal.returns-in_err-take_within
returns-in_err-take_within g c =
    let step = CalledAt g.F.FnMut in
    let p = err_from_is_err_and c.from_residual-in_err-take_within.result
    c.from_residual-in_err-take_within.ensures.1 in
    let until = c.in_err-take_within.ensures in
    let name = run_keeps _ (λ p. p.0.ghost_name) (λ p piece r q k. search rules) _ _ _ until.ran in
    let part = ap (λ n. take n c.args.tail.now) c.min.ensures in
    let front = front_whole c.args.most c.in_ok-place.place part c.in_ok-place.ensures.fed.0 in
    let refused = within_refused step (sound c.args.decoder.now.state)
    (fed_until step (λ p. state_of p.0.now) (λ p piece r q k. search rules) front.1 front.0
    c.from_place-walk.ensures until) in
    rw (p.1, p.2) (search (rules, refused))

pub returns-then-not-has_ended : goal.returns-then-not-has_ended
returns-then-not-has_ended g c =
    let step = CalledAt g.F.FnMut in
    let part = c.in_ok-take_within.ensures in
    let name = run_keeps _ (λ p. p.0.ghost_name) (λ p piece r q k. search rules) _ _ _ part.takes.ran in
    let first = ap (λ n. take n c.args.tail.now) c.min.ensures in
    let front = front_whole c.args.most c.in_ok-place.place first c.in_ok-place.ensures.fed.0 in
    let fed = fed_part step (λ p. state_of p.0.now) (λ p piece r q k. search rules) front.1 front.0
    c.from_place-walk.ensures part in
    let text = part.takes.text_stays ∙ c.from_place-walk.ensures.text_is in
    let from = rw text at c.place.ensures.from in
    let no_end : c.take_within.new.walk.ended ≡ false = search rules in
    let at : c.from_place-walk.result.place ≡ c.in_ok-place.place = c.from_place-walk.ensures.place_is in
    let goes = paused_goes {place = c.in_ok-place.place} (λ l. omega (arith, part.goes l no_end, at, from.place_is))
    (omega (arith, part.takes.calls, at, from.place_is)) in
    let some = paused_some c.in_ok-place.place
    (λ l. part.all (omega (arith, l, at, ap length c.from_place-walk.ensures.text_is))) no_end in
    let paused = within_paused step (sound c.args.decoder.now.state) fed from.rest_is (omega (arith, from.short))
    goes some
    (rw text at c.place.ensures.no_hash) in
    search (rules, paused)

pub end-requires-clause-callable : goal.end-requires-clause-callable
end-requires-clause-callable g c =
    let t = c.in_ok-take_within.ensures.takes in
    let name = run_keeps _ (λ p. p.0.ghost_name) (λ p piece r q k. search rules) _ _ _ t.ran in
    let can = run_preserves _ (λ p. always_mut g.F.FnMut p.0.now.write_bytes × (p.0.now.failed ≡ false))
    (λ p piece q i k. search (rules, i)) t.run _ _ t.ran t.accepted (search rules) in
    search (rules, can)

pub end-requires-clause-going : goal.end-requires-clause-going
end-requires-clause-going g c =
    let t = c.in_ok-take_within.ensures.takes in
    let name = run_keeps _ (λ p. p.0.ghost_name) (λ p piece r q k. search rules) _ _ _ t.ran in
    let can = run_preserves _ (λ p. always_mut g.F.FnMut p.0.now.write_bytes × (p.0.now.failed ≡ false))
    (λ p piece q i k. search (rules, i)) t.run _ _ t.ran t.accepted (search rules) in
    search (rules, can)

pub returns-in_err-end : goal.returns-in_err-end
returns-in_err-end g c =
    let step = CalledAt g.F.FnMut in
    let p = err_from_is_err_and c.from_residual-in_err-end.result c.from_residual-in_err-end.ensures.1 in
    let part = c.in_ok-take_within.ensures in
    let name = run_keeps _ (λ p. p.0.ghost_name) (λ p piece r q k. search rules) _ _ _ part.takes.ran in
    let first = ap (λ n. take n c.args.tail.now) c.min.ensures in
    let front = front_whole c.args.most c.in_ok-place.place first c.in_ok-place.ensures.fed.0 in
    let fed = rw c.end-end.ensures.over at (fed_part step (λ p. state_of p.0.now) (λ p piece r q k. search rules)
    front.1
    front.0 c.from_place-walk.ensures part) in
    let text = part.takes.text_stays ∙ c.from_place-walk.ensures.text_is in
    let ended : Finishes step (state_of c.take_within.new.take.0.now) (Err c.in_err-end.field-0.0)
    (state_of c.end.new.self).closure = search (rules, name) in
    rw (p.1, p.2) (within_ended step (sound c.args.decoder.now.state) fed ended (rw text at c.end-end.ensures.end) refl)

pub returns : goal.returns
returns g c =
    let step = CalledAt g.F.FnMut in
    let part = c.in_ok-take_within.ensures in
    let name = run_keeps _ (λ p. p.0.ghost_name) (λ p piece r q k. search rules) _ _ _ part.takes.ran in
    let first = ap (λ n. take n c.args.tail.now) c.min.ensures in
    let front = front_whole c.args.most c.in_ok-place.place first c.in_ok-place.ensures.fed.0 in
    let fed = rw c.end-end.ensures.over at (fed_part step (λ p. state_of p.0.now) (λ p piece r q k. search rules)
    front.1
    front.0 c.from_place-walk.ensures part) in
    let text = part.takes.text_stays ∙ c.from_place-walk.ensures.text_is in
    let ended : Finishes step (state_of c.take_within.new.take.0.now) (Ok tt) (state_of c.end.new.self).closure =
    search (rules, name) in
    within_ended step (sound c.args.decoder.now.state) fed ended (rw text at c.end-end.ensures.end) refl
