use Rattle.std.proofs.Common.{ap, ◌∙◌, ◌++◌, rules}
use Rattle.data_url.specs.Base64.{decoded}
use Rattle.data_url.proofs.forgiving_base64.WholeTexts.{decodes_keeps, decodes_reads}
use Rattle.data_url.specs.contracts.forgiving_base64.fn.decode_to_vec.decode_whole as closure
use Rattle.data_url.proofs.forgiving_base64.decode_to_vec.Goals as goal

pub returns-in-Ok-0₀-clause-bytes : goal.returns-in-Ok-0₀-clause-bytes
returns-in-Ok-0₀-clause-bytes c =
    let h = decodes_reads c.decode_whole-ended.ensures c.in-Ok-0₀.is (λ f. (closure.captures f).bytes.items)
    (λ g p g' k. search rules) in
    let n = decodes_keeps c.decode_whole-ended.ensures (λ f. f.0.ghost_name) (λ g p r g' k. search rules) in
    let e = h ∙ ap (λ x. x ++ decoded c.args.input.now) c.in-Ok.ensures.items in
    search (rules, e, n)
