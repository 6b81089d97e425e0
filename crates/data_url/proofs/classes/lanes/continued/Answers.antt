use Rattle.std.proofs.Common.{◌++◌, ◌+◌, ◌-◌, ◌∙◌, ◌≡◌, ap, arith, drop, drop-drop, length-drop, replicate, take}
use Rattle.std.proofs.Common.{take-take, ℕ}
use Rattle.std.proofs.lemmas.List.{drop-append-le, drop-take}
use Rattle.data_url.proofs.classes.lanes.continued.Goals as goal

pub returns : goal.returns
returns c =
    let s = c.args.text.now in
    let n = c.args.count in
    let at = c.args.at in
    let zeros = replicate {A = ℕ} 16 0 in
    elim c.match-count.branch [
      | goal.in-0 w ↦ w.result-is ∙ rw w.in-0.is w.row_from.ensures
      | goal.in_default w ↦
          w.result-is ∙ cc (
            w.joined.ensures,
            w.row_from-in_default.ensures,
            take-take (16 - n) 16 (drop at s ++ zeros) (omega arith),
          )
      | goal.in_default-2 w ↦
          let place : at - n + n ≡ at = omega (arith, w.if-count-at.false) in
          let size : 16 ≡ n + (16 - n) = omega (arith, c.requires.few) in
          w.result-is ∙ cc (
            w.spliced.ensures,
            w.row_from-in_default-2.ensures,
            ap (λ k. drop n (take k (drop (at - n) s ++ zeros))) size,
            drop-take n (16 - n) (drop (at - n) s ++ zeros),
            drop-append-le n (drop (at - n) s) zeros (omega (arith, length-drop (at - n) s, c.requires.within, place)),
            drop-drop n (at - n) s,
            place,
          )
    ]
