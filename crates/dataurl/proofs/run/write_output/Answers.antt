use Rattle.dataurl.proofs.StepLemmas.{writes_beginning, writes_exactly}
use Rattle.dataurl.proofs.run.write_output.Goals as goal

pub returns-in-Ok : goal.returns-in-Ok
returns-in-Ok g c = writes_exactly c.in-Ok.ensures

pub returns-in-Err : goal.returns-in-Err
returns-in-Err g c = writes_beginning c.in-Err.ensures
