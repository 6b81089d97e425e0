use Rattle.data_url.proofs.classes.Rows.{sel_before}
use Rattle.data_url.proofs.classes.lanes.spliced.Goals as goal

pub returns : goal.returns
returns c =
    rw c.row.ensures
    (sel_before 16 c.args.first c.args.second c.args.at c.fits-first.0 c.fits-second.0 c.requires)
