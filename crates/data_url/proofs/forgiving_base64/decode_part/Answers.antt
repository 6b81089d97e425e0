use Rattle.std.proofs.Common.{refl, rules}
use Rattle.std.specs.Fn.{CalledAt}
use denote.Param.Always.{always_mut, mut_by, mut_next}
use Rattle.data_url.proofs.forgiving_base64.Resumed.{part_fed}
use Rattle.data_url.proofs.parts.Outputs.{part_keeps, part_through}
use Rattle.data_url.proofs.forgiving_base64.decode_part.Goals as goal

pub resume-decoder-requires : goal.resume-decoder-requires
resume-decoder-requires g c = mut_by _ (λ y. always_mut g.F.FnMut y.0.now) (λ s a i. search (rules, i))
    (λ s a r t i e. mut_next g.F.FnMut s.0.now a r t.0.now t.0.now (search rules) refl i) _ (search rules)

pub returns : goal.returns
returns g c =
    let fed = part_fed _ c.resume-decoder.ensures.state c.feed-answer.ensures.fed c.left_over.ensures in
    let name = part_keeps fed (λ f. f.0.ghost_name) (λ f p r f' k. search rules) in
    part_through _ (CalledAt g.F.FnMut) (λ f. f.0.now) (λ f p r f' k. search rules) fed (search rules)
    (search (rules, name))
