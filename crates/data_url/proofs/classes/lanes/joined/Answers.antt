use Rattle.std.proofs.Common.{◌++◌, ◌+◌, ◌-◌, ◌≡◌, ap, arith, drop, length, length-drop, sym, take}
use Rattle.std.proofs.Math.Seq.{drop-append-add}
use Rattle.std.proofs.lemmas.List.{take_all}
use Rattle.data_url.proofs.classes.lanes.joined.Goals as goal

pub returns-then-count-eq0 : goal.returns-then-count-eq0
returns-then-count-eq0 c =
    let none = c.if-count-eq0.true in
    rw none (sym (take_all 16 c.args.second (omega (arith, c.fits-second.0))))

pub returns : goal.returns
returns c =
    let n = c.args.count in
    let second = c.args.second in
    let back = drop (16 - n) second in
    let front = take (16 - n) second in
    let size : n ≡ length back + 0 = omega (arith, length-drop (16 - n) second, c.fits-second.0, c.requires) in
    cc (
      c.spliced.ensures,
      c.rotated.ensures,
      ap (λ k. drop k (back ++ front)) size,
      drop-append-add back front 0,
    )
