use Rattle.data_url.proofs.classes.Lookups.{four_times}
use Rattle.data_url.proofs.classes.lanes.repeated.Goals as goal

pub returns : goal.returns
returns c = four_times c.args.row c.fits-row.0
