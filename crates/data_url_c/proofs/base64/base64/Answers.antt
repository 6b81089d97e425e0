use Rattle.std.proofs.Common.{Err, rules, ◌≡◌}
use Rattle.data_url.specs.declared.forgiving_base64.DecodeError.TheVariants.{InvalidBase64}
use Rattle.data_url.proofs.api.{decodes_keeps, decodes_reads}
use Rattle.data_url_c.specs.contracts.base64.fn.base64.decode_text as closure
use Rattle.data_url_c.proofs.GivenLemmas.{decodes_before, decodes_valid}
use Rattle.data_url_c.proofs.base64.base64.Goals as goal

pub returns-in-Ok : goal.returns-in-Ok
returns-in-Ok c =
    let h = decodes_reads c.decode_text.ensures c.in-Ok.is (λ f. (closure.captures f).bytes.items)
    (λ g p g' k. search rules) in
    let n = decodes_keeps c.decode_text.ensures (λ f. f.0.ghost_name) (λ g p r g' k. search rules) in
    (decodes_valid c.decode_text.ensures c.in-Ok.is, search (rules, h, n))

pub returns-in-Err-InvalidBase64 : goal.returns-in-Err-InvalidBase64
returns-in-Err-InvalidBase64 c =
    let e : c.decode_text.new.answer ≡ Err (InvalidBase64 c.in-Err-InvalidBase64.refusal) = search rules in
    let h = decodes_before c.decode_text.ensures e (λ f. (closure.captures f).bytes.items) (λ g p g' k. search rules) in
    let n = decodes_keeps c.decode_text.ensures (λ f. f.0.ghost_name) (λ g p r g' k. search rules) in
    (h.0, h.1, search (rules, h.2, n))
