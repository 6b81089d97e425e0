use Rattle.dataurl.proofs.StepLemmas.{writes_no_memory}
use Rattle.dataurl.proofs.run.write_record.Goals as goal

pub returns-in_default : goal.returns-in_default
returns-in_default g c = writes_no_memory (g.W.Write.contents c.args.writer.now)
