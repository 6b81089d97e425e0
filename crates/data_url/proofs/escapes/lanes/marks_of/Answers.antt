use Rattle.std.proofs.Common.{arith}
use Rattle.data_url.proofs.escapes.BlockMarks.{lows_ok, marks_are, none_marked}
use Rattle.data_url.proofs.escapes.lanes.marks_of.Goals as goal

pub returns-then-not-bytes : goal.returns-then-not-bytes
returns-then-not-bytes c = grind (arith, none_marked)

pub swizzle : goal.swizzle
swizzle c = lows_ok c.args.bytes c.fits-bytes.0 c.fits-bytes.1

pub returns : goal.returns
returns c = rw (c.repeated.ensures, c.row.ensures) (marks_are c.args.bytes c.fits-bytes.0 c.fits-bytes.1)
