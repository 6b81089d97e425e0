use Rattle.data_url.proofs.classes.Rows.{unmarked_is}
use Rattle.data_url.proofs.classes.lanes.none_outside.Goals as goal

pub returns : goal.returns
returns c = unmarked_is c.args.class_table.now c.args.block _ c.classified.ensures
