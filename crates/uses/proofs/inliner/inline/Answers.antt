use Rattle.std.proofs.Common.{rules, refl}
use Rattle.uses.specs.Pages.{IsPage}
use Rattle.uses.specs.declared.inliner.Part.TheVariants.{Text}
use Rattle.uses.proofs.PageLemmas.{going_more, sources_join}
use Rattle.uses.proofs.inliner.inline.Goals as goal

pub loop-before-preserved : goal.loop-before-preserved
loop-before-preserved c =
    let more = going_more (Text c.in-Some.before) c.in_ok-part_of.field-0 c.loop-before.invariant.1 c.in-Some.ensures
    refl c.in_ok-part_of.ensures in
    (search rules, rw (c.in_ok-push-2.ensures.items, c.in_ok-push.ensures.items) more)

pub returns-clause-joined : goal.returns-clause-joined
returns-clause-joined c =
    let h : IsPage c.args.page.now c.push-2.new.self.items = search rules in
    sources_join c.args.page.now c.push-2.new.self.items h
