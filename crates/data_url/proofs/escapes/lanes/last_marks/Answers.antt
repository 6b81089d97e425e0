use Rattle.std.proofs.Common.{◌∙◌, ap, arith, map}
use Rattle.std.specs.Simd.Lanes.{mask_l}
use Rattle.data_url.specs.Steps.Window.{is_marked}
use Rattle.data_url.proofs.escapes.BlockMarks.{marks_end, marks_more, marks_short}
use Rattle.data_url.proofs.escapes.lanes.last_marks.Goals as goal

pub returns-then-rest-lt-ROW : goal.returns-then-rest-lt-ROW
returns-then-rest-lt-ROW c =
    c.row_marks.ensures ∙ ap (λ s. mask_l (map is_marked s)) c.first_row.ensures
    ∙ marks_short c.args.rest.now c.if-rest-lt-ROW.true

pub overflow_add-marks : goal.overflow_add-marks
overflow_add-marks c =
    let is = c.row_marks-in-loop-at.ensures ∙ ap (λ s. mask_l (map is_marked s)) c.row.ensures in
    let more = marks_more c.args.rest.now c.loop-at.at 16 (omega arith) c.requires is in
    omega (arith, c.loop-at.invariant.marks, more.0, more.1)

pub loop-at-preserved : goal.loop-at-preserved
loop-at-preserved c =
    let is = c.row_marks-in-loop-at.ensures ∙ ap (λ s. mask_l (map is_marked s)) c.row.ensures in
    let more = marks_more c.args.rest.now c.loop-at.at 16 (omega arith) c.requires is in
    record { within = omega arith; marks = omega (arith, c.loop-at.invariant.marks, more.0) }

pub overflow_add-result : goal.overflow_add-result
overflow_add-result c =
    let is = c.row_marks-2.ensures ∙ ap (λ s. mask_l (map is_marked s)) c.row-2.ensures in
    let i = c.loop-at.invariant in
    let end = marks_end c.args.rest.now c.loop-at.at (omega arith) c.requires (omega arith) i.within is in
    omega (arith, i.marks, end.0, end.1)

pub returns : goal.returns
returns c =
    let is = c.row_marks-2.ensures ∙ ap (λ s. mask_l (map is_marked s)) c.row-2.ensures in
    let i = c.loop-at.invariant in
    let end = marks_end c.args.rest.now c.loop-at.at (omega arith) c.requires (omega arith) i.within is in
    omega (arith, i.marks, end.0)
