use Rattle.std.proofs.Common.{◌++◌, append_assoc}
use Rattle.data_url.proofs.escapes.BlockMarks.{marks_row}
use Rattle.data_url.proofs.escapes.lanes.row_marks.Goals as goal

pub returns : goal.returns
returns c =
    let v = c.args.bytes in
    rw (c.marks_of.ensures, c.repeated.ensures, append_assoc (v ++ v) v v, append_assoc v v (v ++ v))
    (marks_row v (v ++ (v ++ v)) c.fits-bytes.0)
