use Rattle.std.proofs.Common.{◌+◌, ◌-◌, ◌≡◌, ◌≤◌, ◌∙◌, arith, drop, drop-drop, length, length-drop, replicate}
use Rattle.std.proofs.Common.{sym, take, ℕ}
use Rattle.std.proofs.lemmas.List.{drop-replicate, take-append-le, take_all}
use Rattle.data_url.proofs.classes.FirstRows.{first_of_short}
use Rattle.data_url.proofs.classes.lanes.row_from.Goals as goal

pub returns-then-at-last : goal.returns-then-at-last
returns-then-at-last c =
    let rest = drop c.args.at c.args.text.now in
    c.row.ensures ∙ sym (take-append-le 16 rest (replicate 16 0) (omega (arith, length-drop c.args.at c.args.text.now)))

pub returns : goal.returns
returns c =
    let s = c.args.text.now in
    let at = c.args.at in
    let last = length s - 16 in
    let n = length s - at in
    let size : length (drop last s) ≤ 16 = omega (arith, length-drop last s) in
    let short : length (drop at s) ≡ n = length-drop at s in
    let same : last + (at - last) ≡ at = omega (arith, c.if-at-last.false) in
    cc (
      c.spliced.ensures,
      c.rotated-rest.ensures,
      c.row-2.ensures,
      take_all 16 (drop last s) size,
      drop-drop (at - last) last s,
      same,
      take-append-le n (drop at s) (take (at - last) (drop last s)) (omega (arith, short)),
      take_all n (drop at s) (omega (arith, short)),
      drop-replicate {X = ℕ} n 16 0,
      short,
      first_of_short (drop at s) (omega (arith, short, c.if-at-last.false)),
    )
