use Rattle.std.proofs.Common.{length}
use Rattle.dataurl.proofs.OutputLemmas.{Going}
use Rattle.dataurl.proofs.output.write_all.Given as goal

abbrev pub invariant-loop-rest : goal.invariant-loop-rest
invariant-loop-rest g l = Going l.bytes l.rest (g.W.Write.contents l.fn.writer) (g.W.Write.contents l.writer)

abbrev pub decreases-loop-rest : goal.decreases-loop-rest
decreases-loop-rest g l = length l.rest
