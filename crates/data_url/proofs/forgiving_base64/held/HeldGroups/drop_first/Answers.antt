use Rattle.std.{proofs.Common.{◌-◌, ◌≤◌, arith, drop, length-drop, take-take}, proofs.lemmas.List.Edits.{take-paste}}
use Rattle.data_url.proofs.escapes.BlockMarks.{drop_taken}
use Rattle.data_url.proofs.forgiving_base64.held.HeldGroups.drop_first.Goals as goal

pub returns-clause-bytes : goal.returns-clause-bytes
returns-clause-bytes c =
    let old = c.args.self.now in
    let new = c.copy_within.new.self in
    let n = old.len - 384 in
    let few : n ≤ 48 = omega (arith, old.within) in
    cc (
      take-take n 48 new (omega arith),
      take-take n 48 (drop 384 old.bytes) (omega arith),
      take-paste old.bytes 0 (drop 384 old.bytes) 48 (omega (arith, old.sized))
          (omega (arith, old.sized, length-drop 384 old.bytes)),
      drop_taken 384 old.len old.bytes,
      c.copy_within.ensures.after,
    )
