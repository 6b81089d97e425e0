use Rattle.std.proofs.Common.{ap, arith, inl, inr, length, refl, ◌∙◌}
use Rattle.std.proofs.lemmas.Bool.{cases_lt, le-ltb, lt-ltb}
use Rattle.data_url.proofs.escapes.{Reading.{spells_none}, Walking.{cut_at, ended_at}}
use Rattle.data_url.proofs.escapes.Walking.{looking_paid, not_cut, searched, searching_part, searching_percent}
use Rattle.data_url.proofs.escapes.Walking.{slice_cut, slice_goes}
use Rattle.data_url.proofs.escapes.cursor.Cursor.next_stretch.Goals as goal

pub loop-self-preserved-in-Stays : goal.loop-self-preserved-in-Stays
loop-self-preserved-in-Stays c =
    let i = c.loop-self.invariant in
    let m = c.next_mark-mark.ensures in
    let found = c.in-Stays.ensures.found in
    let looking = looking_paid {s' = c.at_mark.new.self} m.looking c.at_mark.ensures.text found.2 in
    let s = searching_percent (searched i.on m.on i.search m.mark) found.0 found.1 in
    let t = rw (m.on.text_stays ∙ i.on.text_stays) at s in grind arith

pub returns-in-End-clause-knows : goal.returns-in-End-clause-knows
returns-in-End-clause-knows c =
    rw c.go_to-in-End.ensures.there (ended_at c.next_mark-mark.ensures.looking (grind arith) c.in-End.ensures.found.1
    (grind arith) (grind arith))

pub returns-then-end-mark-clause-goes : goal.returns-then-end-mark-clause-goes
returns-then-end-mark-clause-goes c =
    let i = c.loop-self.invariant in
    let m = c.next_mark-mark.ensures in
    let at = cut_at c.saturating_add-end.result c.next_mark-mark.result c.len.result c.if-end-mark.true in
    let cut = searching_part i.search (rw i.on.text_stays at m.mark) (omega (arith, at)) (omega (arith, at)) in
    slice_cut refl cut (omega (arith, at)) (omega (arith, at, m.mark.within)) (grind arith) (grind arith) (grind arith)

pub returns-then-place-mark-clause-goes : goal.returns-then-place-mark-clause-goes
returns-then-place-mark-clause-goes c =
    let i = c.loop-self.invariant in
    let m = c.next_mark-mark.ensures in
    let found = c.in-Passed.ensures.found in
    let few = not_cut c.loop-self.self.place c.args.most _ c.next_mark-mark.result c.len.result
    c.saturating_add-end.ensures c.if-end-mark.false (omega (arith, m.mark.within, ap length m.on.text_stays)) in
    slice_goes (m.on.text_stays ∙ i.on.text_stays) (searched i.on m.on i.search m.mark) c.if-place-mark.true few found.0
    found.1 c.cut-slice.ensures (grind arith) (grind arith)

pub returns-in-Escape-2-clause-goes : goal.returns-in-Escape-2-clause-goes
returns-in-Escape-2-clause-goes c =
    let i = c.loop-self.invariant in
    let m = c.next_mark-mark.ensures in
    let found = c.in-Escape.ensures.found in
    let few = not_cut c.loop-self.self.place c.args.most _ c.next_mark-mark.result c.len.result
    c.saturating_add-end.ensures c.if-end-mark.false (omega (arith, m.mark.within, ap length m.on.text_stays)) in
    slice_goes (m.on.text_stays ∙ i.on.text_stays) (searched i.on m.on i.search m.mark) (omega arith) few found.0
    (spells_none _ c.next_mark-mark.result (grind arith)) c.cut-slice.ensures (grind arith) (grind arith)

pub returns-in-End-clause-goes : goal.returns-in-End-clause-goes
returns-in-End-clause-goes c =
    let i = c.loop-self.invariant in
    let m = c.next_mark-mark.ensures in
    let few = not_cut c.loop-self.self.place c.args.most _ c.next_mark-mark.result c.len.result
    c.saturating_add-end.ensures c.if-end-mark.false (omega (arith, m.mark.within, ap length m.on.text_stays)) in
    let s = searched i.on m.on i.search m.mark in
    elim (cases_lt c.loop-self.self.place c.next_mark-mark.result) [
      | inl l ↦ rw c.then_some.ensures (rw (lt-ltb _ _ l)
          (slice_goes (m.on.text_stays ∙ i.on.text_stays) s l few c.in-End.ensures.found.0
          (spells_none _ c.next_mark-mark.result (grind arith)) c.cut-slice.ensures (grind arith) (grind arith)))
      | inr l ↦ rw c.then_some.ensures (rw (le-ltb _ _ l) (grind arith))
    ]
