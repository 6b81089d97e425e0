use Rattle.std.proofs.Common.{arith}
use Rattle.data_url.proofs.classes.Rows.{marks_are}
use Rattle.data_url.proofs.classes.lanes.outside_in_block.Goals as goal

pub returns : goal.returns
returns c = marks_are 64 c.args.class_table.now c.args.block c.classified.result (omega arith) c.fits-block.0
    c.classified.ensures
