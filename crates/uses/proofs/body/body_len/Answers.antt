use Rattle.std.proofs.Common.{rules, arith, ◌≡◌, ◌+◌, ◌^◌, ◌-◌, min, ℕ, length, length-append, Ok, ap, subst, sym}
use Rattle.uses.specs.contracts.body.fn.body_len.decode_body as closure
use Rattle.data_url.specs.Fetch.{Outcome}
use Rattle.data_url.specs.DataUrl.{url_body}
use Rattle.data_url.proofs.api.{body_ends, body_keeps}
use Rattle.uses.specs.Bodies.{IsLengthOf}
use Rattle.uses.proofs.body.body_len.Goals as goal

pub returns-in-Ok : goal.returns-in-Ok
returns-in-Ok c =
    let h = body_ends c.decode_body.ensures c.in-Ok.is (λ bytes f. (closure.captures f).len ≡ min (length bytes)
    (2 ^ 64 - 1)) (λ bytes e f. Unit {0}) (λ bytes p piece q k s.
    let e : (closure.captures q).len ≡ min ((closure.captures p).len + length piece) (2 ^ 64 - 1) = search rules in
    omega (arith, e, k, length-append bytes piece)) (λ bytes p piece e q k s. tt) (omega arith) in
    let n = body_keeps c.decode_body.ensures (λ f. f.0.ghost_name) (λ g p r g' k. search rules) in
    let P : Outcome → Type 0 = λ o. IsLengthOf o (Ok (closure.captures c.decode_body.result).len) in
    let Q : ℕ → Type 0 = λ len. IsLengthOf (url_body c.args.url.now) (Ok len) in
    subst Q (search (rules, n)) (subst P (sym h.1) (ap (λ x. Ok x) h.3))
