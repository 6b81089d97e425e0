-- The bytes of the rows that were tested are of the class.
use Rattle.std.proofs.Common.{◌-◌, length}
use Rattle.data_url.proofs.classes.Rows.{Looked}
use Rattle.data_url.proofs.classes.lanes.rows_len.Given as goal

abbrev pub invariant-loop-at : goal.invariant-loop-at
invariant-loop-at l = Looked l.class_table l.bytes l.at

abbrev pub decreases-loop-at : goal.decreases-loop-at
decreases-loop-at l = length l.bytes - l.at
