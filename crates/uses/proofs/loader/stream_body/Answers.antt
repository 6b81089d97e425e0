use Rattle.std.proofs.Common.{rules, ◌≡◌, ℕ, List, Option, Ok, Err, subst}
use Rattle.data_url.specs.DataUrl.{url_body}
use Rattle.data_url.specs.declared.forgiving_base64.DecodeError.TheVariants.{InvalidBase64, WriteError}
use Rattle.data_url.proofs.api.{body_keeps}
use Rattle.uses.specs.Loads.{StreamsBody}
use Rattle.uses.specs.contracts.loader.fn.stream_body.decode_body as closure
use Rattle.uses.specs.declared.loader.LoadError.TheVariants as errors
use Rattle.uses.specs.declared.loader.Refusal.TheVariants.{OverLimit, SinkFailed}
use Rattle.uses.proofs.SinkLemmas.{streamed}
use Rattle.uses.proofs.loader.stream_body.Goals as goal

pub returns-in-Ok : goal.returns-in-Ok
returns-in-Ok g c =
    let over : closure.Over = record { W = g.row.W; W-Write = g.W.Write; W-Write-dict = g.W.Write-dict } in
    let n = body_keeps c.decode_body.ensures (λ f. f.0.ghost_name) (λ p piece r q k. search rules) in
    let h = streamed c.decode_body.ensures (c.in-Ok.is) (λ f. (closure.captures over f).room)
    (λ f. g.W.Write.contents (closure.captures over f).sink.now) (λ p piece a q k. search rules) in
    let P : Option (List ℕ) → Type 0 = λ held. StreamsBody (url_body c.args.url.now) c.args.limit
    (g.W.Write.contents c.args.sink.now) held (Ok tt) in
    subst P (search (rules, n)) h

pub returns-in-Err-InvalidBase64 : goal.returns-in-Err-InvalidBase64
returns-in-Err-InvalidBase64 g c =
    let over : closure.Over = record { W = g.row.W; W-Write = g.W.Write; W-Write-dict = g.W.Write-dict } in
    let e : c.decode_body.new.answer ≡ Err (InvalidBase64 c.in-Err-InvalidBase64.refusal) = search rules in
    let n = body_keeps c.decode_body.ensures (λ f. f.0.ghost_name) (λ p piece r q k. search rules) in
    let h = streamed c.decode_body.ensures (e) (λ f. (closure.captures over f).room)
    (λ f. g.W.Write.contents (closure.captures over f).sink.now) (λ p piece a q k. search rules) in
    let P : Option (List ℕ) → Type 0 = λ held. StreamsBody (url_body c.args.url.now) c.args.limit
    (g.W.Write.contents c.args.sink.now) held (Err (errors.InvalidBase64 c.in-Err-InvalidBase64.refusal)) in
    subst P (search (rules, n)) h

pub returns-in-Err-WriteError-OverLimit : goal.returns-in-Err-WriteError-OverLimit
returns-in-Err-WriteError-OverLimit g c =
    let over : closure.Over = record { W = g.row.W; W-Write = g.W.Write; W-Write-dict = g.W.Write-dict } in
    let e : c.decode_body.new.answer ≡ Err (WriteError OverLimit) = search rules in
    let n = body_keeps c.decode_body.ensures (λ f. f.0.ghost_name) (λ p piece r q k. search rules) in
    let h = streamed c.decode_body.ensures (e) (λ f. (closure.captures over f).room)
    (λ f. g.W.Write.contents (closure.captures over f).sink.now) (λ p piece a q k. search rules) in
    let P : Option (List ℕ) → Type 0 = λ held. StreamsBody (url_body c.args.url.now) c.args.limit
    (g.W.Write.contents c.args.sink.now) held (Err errors.OverLimit) in
    subst P (search (rules, n)) h

pub returns-in-Err-WriteError-SinkFailed : goal.returns-in-Err-WriteError-SinkFailed
returns-in-Err-WriteError-SinkFailed g c =
    let over : closure.Over = record { W = g.row.W; W-Write = g.W.Write; W-Write-dict = g.W.Write-dict } in
    let e : c.decode_body.new.answer ≡ Err (WriteError SinkFailed) = search rules in
    let n = body_keeps c.decode_body.ensures (λ f. f.0.ghost_name) (λ p piece r q k. search rules) in
    let h = streamed c.decode_body.ensures (e) (λ f. (closure.captures over f).room)
    (λ f. g.W.Write.contents (closure.captures over f).sink.now) (λ p piece a q k. search rules) in
    let P : Option (List ℕ) → Type 0 = λ held. StreamsBody (url_body c.args.url.now) c.args.limit
    (g.W.Write.contents c.args.sink.now) held (Err errors.SinkFailed) in
    subst P (search (rules, n)) h
