use Rattle.std.proofs.Common.{arith, length, ℕ}
use Rattle.std.proofs.lemmas.List.{drop-replicate}
use Rattle.data_url.proofs.classes.FirstRows.{first_of_short, overlapped}
use Rattle.data_url.proofs.classes.lanes.first_row.Goals as goal

pub returns-then-len-ge8 : goal.returns-then-len-ge8
returns-then-len-ge8 c =
    overlapped c.args.text.now _ _ _ _ 8 _ (omega arith) (omega arith) (omega arith) c.half.ensures
    c.half-then-len-ge8.ensures (omega arith) c.rotated.ensures c.spliced.ensures

pub returns-then-len-ge4 : goal.returns-then-len-ge4
returns-then-len-ge4 c =
    overlapped c.args.text.now _ _ _ _ 4 _ (omega arith) (omega arith) (omega arith) c.quarter.ensures
    c.quarter-then-len-ge4.ensures (omega arith) c.rotated-then-len-ge4.ensures c.spliced-then-len-ge4.ensures

pub returns : goal.returns
returns c = cc (
  c.copy_from_slice.ensures.after,
  drop-replicate {X = ℕ} (length c.args.text.now) 16 0,
  first_of_short c.args.text.now (omega arith),
)
