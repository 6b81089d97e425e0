use Rattle.std.proofs.Common.{◌++◌, ◌∙◌, ap, rules, sym}
use Rattle.data_url.specs.Fetch.{Good}
use Rattle.data_url.proofs.body.Decoding.{body_answer, body_keeps, body_reads}
use Rattle.data_url.specs.contracts.body.fn.percent_encoded_to_vec.decode_percent_encoded as closure
use Rattle.data_url.proofs.body.percent_encoded_to_vec.Goals as goal

pub returns-in-Ok-0₀ : goal.returns-in-Ok-0₀
returns-in-Ok-0₀ c =
    let d = rw c.after_prefix-walk.ensures.prefix.text_is at c.decode_percent_encoded-ended.ensures in
    let h = body_reads d c.in-Ok-0₀.is (λ f. (closure.captures f).bytes.items) (λ g p g' k. search rules) in
    let n = body_keeps d (λ f. f.0.ghost_name) (λ g p r g' k. search rules) in
    let e = h.2 ∙ ap (λ x. x ++ h.0) c.in-Ok.ensures.items in
    let b = h.1 ∙ ap Good (sym e) in
    (search (rules, n), body_answer d c.in-Ok-0₀.is)
