use Rattle.std.proofs.Common.{arith}
use Rattle.data_url.proofs.escapes.StopBits.{equal_mask, marks_are, stops_are, stops_fit, tabs_are}
use Rattle.data_url.proofs.escapes.lanes.stops_of.Goals as goal

pub overflow_sub-passed : goal.overflow_sub-passed
overflow_sub-passed c =
    let h = equal_mask c.args.bytes 35 c.fits-bytes.0 in
    omega (arith, c.requires.marks, c.requires.percents, h, marks_are c.args.bytes)

pub overflow_add-result : goal.overflow_add-result
overflow_add-result c =
    let h = equal_mask c.args.bytes 35 c.fits-bytes.0 in
    let t = tabs_are c.args.bytes c.args.marks c.args.percents _ c.requires.marks c.requires.percents h in
    stops_fit c.args.bytes c.fits-bytes.0
    (stops_are c.args.bytes c.args.percents _ _ c.fits-bytes.0 c.requires.percents h t)

pub returns : goal.returns
returns c =
    let h = equal_mask c.args.bytes 35 c.fits-bytes.0 in
    let t = tabs_are c.args.bytes c.args.marks c.args.percents _ c.requires.marks c.requires.percents h in
    record { passed = t; stops = stops_are c.args.bytes c.args.percents _ _ c.fits-bytes.0 c.requires.percents h t }
