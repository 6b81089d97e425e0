use Rattle.std.proofs.Common.{arith}
use Rattle.data_url.specs.Steps.Classes.{classified}
use Rattle.data_url.proofs.classes.{Lookups.{first_of_map}, Rows.{marks_are}}
use Rattle.data_url.proofs.classes.lanes.outside.Goals as goal

pub returns : goal.returns
returns c =
    marks_are 16 c.args.class_table.now c.args.row _ (omega arith) c.fits-row.0
    (first_of_map (classified c.args.class_table.now) c.args.row
    c.repeated.result c.classified.result c.fits-row.0 c.repeated.ensures c.classified.ensures)
