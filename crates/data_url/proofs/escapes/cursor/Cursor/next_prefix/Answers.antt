use Rattle.std.proofs.Common.{ap, arith, inl, inr, length, subst, sym, ◌∙◌, ◌≡◌}
use Rattle.std.proofs.{lemmas.Bool.{cases_lt}, Math.Nat.{min-eq_left, min-eq_right}}
use Rattle.data_url.{proofs.escapes.Walking.{end_knows, front_is, front_knows}, specs.Pieces.{text_of}}
use Rattle.data_url.specs.Steps.Walk.{IsClear, Looking}
use Rattle.data_url.proofs.escapes.cursor.Cursor.next_prefix.Goals as goal

pub returns-clause-prefix : goal.returns-clause-prefix
returns-clause-prefix c =
    let m = c.next_mark.ensures in
    let text : c.if-len-gt0.self.source.text.now ≡ text_of c.args.self.now = elim c.if-len-gt0.branch [
      | goal.then-len-gt0 w ↦ rw w.self-is w.look.ensures.text
      | goal.else-len-gt0 w ↦ rw w.self-is
    ] in
    let clear : IsClear c.if-len-gt0.self.source.text.now 0 c.min-place.result =
    λ k from to. m.mark.clear k from (omega (arith, c.min-place.ensures)) in
    front_is {text = text_of c.args.self.now} (m.on.text_stays ∙ text) (grind arith)
    (subst (λ t. IsClear t 0 c.min-place.result) text clear) (grind (arith, m.mark.within)) (grind arith)

pub returns-clause-knows : goal.returns-clause-knows
returns-clause-knows c =
    let m = c.next_mark.ensures in
    let looking : Looking c.next_mark.new.source c.next_mark.new.self c.min-place.result 0 =
    elim (cases_lt c.next_mark.result c.min-end.result) [
      | inl l ↦ rw (c.min-place.ensures ∙ min-eq_left (omega arith)) m.looking
      | inr l ↦ rw (c.min-place.ensures ∙ min-eq_right l) (m.at_end (omega arith) l)
    ] in
    let clear : IsClear c.if-len-gt0.self.source.text.now 0 c.min-place.result =
    λ k from to. m.mark.clear k from (omega (arith, c.min-place.ensures)) in
    front_knows (rw m.on.text_stays clear) (grind (arith, m.mark.within))
    (elim c.if-place-len.branch [
      | goal.then-place-len w ↦ rw w.self-is (end_knows looking (w.if-place-len.true ∙ c.len-len.ensures ∙ sym (ap
          length m.on.text_stays)))
      | goal.else-place-len w ↦ rw w.self-is looking
    ])
