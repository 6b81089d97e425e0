use Rattle.dataurl.proofs.GatherLemmas.{flushes_all, flushes_some}
use Rattle.dataurl.proofs.gather.Gathered.flush_before.Goals as goal

pub returns-in-Ok : goal.returns-in-Ok
returns-in-Ok g c = flushes_all c.args.end c.in-Ok.ensures.wrote

pub returns-in-Err : goal.returns-in-Err
returns-in-Err g c = flushes_some c.args.end c.in-Err.ensures.wrote
