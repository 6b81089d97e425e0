use Rattle.std.proofs.Common.{arith, ap, ◌∙◌, ◌+◌, ◌-◌, ◌≡◌, not}
use Rattle.data_url.specs.Steps.Classes.{may_be_outside}
use Rattle.data_url.proofs.classes.{Lookups.{all_in_rows}, Rows.{one_row_more, row_front}}
use lib.Count.{count_trailing_zeros}
use Rattle.data_url.proofs.classes.lanes.rows_len.Goals as goal

pub returns-then-not-none_outside : goal.returns-then-not-none_outside
returns-then-not-none_outside c =
    let all = all_in_rows (λ b. not (may_be_outside c.args.class_table b)) c.row-row.result c.repeated.ensures in
    let h = row_front c.args.class_table c.args.bytes.now c.loop-at.at c.loop-at.invariant
    (omega (arith, c.loop-at-test.true)) c.row-row.ensures (c.none_outside.ensures ∙ all) _
    c.if-not-none_outside.true (ap (count_trailing_zeros 64) c.outside.ensures) in
    let back : c.loop-at.at + 16 - 16 ≡ c.loop-at.at = omega arith in
    rw back (record { within = h.1.within; prefix = h.1.front })

pub loop-at-preserved : goal.loop-at-preserved
loop-at-preserved c =
    let all = all_in_rows (λ b. not (may_be_outside c.args.class_table b)) c.row-row.result c.repeated.ensures in
    one_row_more c.args.class_table c.args.bytes.now c.loop-at.at c.loop-at.invariant
    (omega (arith, c.loop-at-test.true)) c.row-row.ensures (c.none_outside.ensures ∙ all) c.if-not-none_outside.false
