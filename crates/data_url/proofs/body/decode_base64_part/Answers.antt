use Rattle.std.proofs.Common.{refl, rules}
use Rattle.std.specs.Fn.{CalledAt}
use denote.Param.Always.{always_mut, mut_by, mut_next}
use Rattle.data_url.proofs.parts.{Bodies.{decodes_part}, Outputs.{body_keeps, body_through}}
use Rattle.data_url.proofs.body.decode_base64_part.Goals as goal

pub resume-decoder-requires : goal.resume-decoder-requires
resume-decoder-requires g c = mut_by _ (λ y. always_mut g.F.FnMut y.0.now) (λ s a i. search (rules, i))
    (λ s a r t i e. mut_next g.F.FnMut s.0.now a r t.0.now t.0.now (search rules) refl i) _ (search rules)

pub returns : goal.returns
returns g c =
    let part = decodes_part c.resume-decoder.ensures.state c.decode_within-stop.ensures c.left_over.ensures in
    let name = body_keeps part (λ f. f.0.ghost_name) (λ f p r f' k. search rules) in
    body_through _ (CalledAt g.F.FnMut) (λ f. f.0.now) (λ f p r f' k. search rules) part (search rules)
    (search (rules, name))
