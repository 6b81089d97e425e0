use Rattle.dataurl.proofs.StepLemmas.{writes_no_memory}
use Rattle.dataurl.proofs.run.write_encoded.Goals as goal

pub returns-in_default : goal.returns-in_default
returns-in_default g c = writes_no_memory (g.W.Write.contents c.args.writer.now)

pub returns-in_default-push : goal.returns-in_default-push
returns-in_default-push g c = writes_no_memory (g.W.Write.contents c.args.writer.now)
