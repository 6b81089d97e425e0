use Rattle.data_url.proofs.classes.FirstRows.{turned_is, turned_ok}
use Rattle.data_url.proofs.classes.lanes.rotated.Goals as goal

pub swizzle : goal.swizzle
swizzle c = turned_ok c.args.at c.requires c.row.ensures

pub returns : goal.returns
returns c = turned_is c.args.bytes c.args.at c.fits-bytes.0 c.requires c.row.ensures
