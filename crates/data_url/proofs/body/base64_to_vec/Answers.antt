use Rattle.std.proofs.Common.{◌++◌, ◌∙◌, ap, rules, sym}
use Rattle.data_url.specs.Fetch.{Good}
use Rattle.data_url.proofs.body.Decoding.{body_answer, body_keeps, body_reads}
use Rattle.data_url.specs.contracts.body.fn.base64_to_vec.decode_base64 as closure
use Rattle.data_url.proofs.body.base64_to_vec.Goals as goal

pub returns-in-Ok-0₀ : goal.returns-in-Ok-0₀
returns-in-Ok-0₀ c =
    let d = c.decode_base64-ended.ensures in
    let h = body_reads d c.in-Ok-0₀.is (λ f. (closure.captures f).bytes.items) (λ g p g' k. search rules) in
    let n = body_keeps d (λ f. f.0.ghost_name) (λ g p r g' k. search rules) in
    let e = h.2 ∙ ap (λ x. x ++ h.0) c.in-Ok.ensures.items in
    let b = h.1 ∙ ap Good (sym e) in
    (search (rules, n), body_answer d c.in-Ok-0₀.is)
