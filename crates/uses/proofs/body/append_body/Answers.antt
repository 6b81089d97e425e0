use Rattle.std.proofs.Common.{rules, ◌≡◌, ◌∙◌, Err}
use Rattle.uses.specs.contracts.body.fn.append_body.decode_body as closure
use Rattle.data_url.proofs.api.{body_extends, body_keeps, prefix_trans}
use Rattle.data_url.specs.Fetch.{outcome_bytes}
use Rattle.data_url.specs.DataUrl.{url_body}
use Rattle.data_url.specs.declared.forgiving_base64.DecodeError.TheVariants.{InvalidBase64, WriteError}
use Rattle.uses.proofs.BodyLemmas.{none_of}
use Rattle.uses.proofs.body.append_body.Goals as goal

pub returns-in-Ok : goal.returns-in-Ok
returns-in-Ok c =
    let h = body_extends c.decode_body.ensures (c.in-Ok.is) (λ f. (closure.captures f).bytes.now.items)
    (λ p piece q s. search rules) (λ p piece e q s. none_of piece (search rules)) in
    let n = body_keeps c.decode_body.ensures (λ f. f.0.ghost_name) (λ g p r g' k. search rules) in
    (h.0, h.1, search (rules, n) ∙ h.3)

pub returns-in-Err-InvalidBase64 : goal.returns-in-Err-InvalidBase64
returns-in-Err-InvalidBase64 c =
    let e : c.decode_body.new.answer ≡ Err (InvalidBase64 c.in-Err-InvalidBase64.refusal) = search rules in
    let h = body_extends c.decode_body.ensures (e) (λ f. (closure.captures f).bytes.now.items)
    (λ p piece q s. search rules) (λ p piece e q s. none_of piece (search rules)) in
    let n = body_keeps c.decode_body.ensures (λ f. f.0.ghost_name) (λ g p r g' k. search rules) in
    (h.0, h.1, search (rules, n) ∙ h.2)

pub returns-in-Err-WriteError : goal.returns-in-Err-WriteError
returns-in-Err-WriteError c =
    let e : c.decode_body.new.answer ≡ Err (WriteError c.in-Err-WriteError.field-0-0) = search rules in
    let h = body_extends c.decode_body.ensures (e) (λ f. (closure.captures f).bytes.now.items)
    (λ p piece q s. search rules) (λ p piece e q s. none_of piece (search rules)) in
    let n = body_keeps c.decode_body.ensures (λ f. f.0.ghost_name) (λ g p r g' k. search rules) in
    (h.2.0, prefix_trans h.2.0 h.0 (outcome_bytes (url_body c.args.url.now)) h.2.1 h.1, search (rules, n) ∙ h.2.2)
