use Rattle.std.proofs.Common.{length}
use Rattle.uses.proofs.SinkLemmas.{Going}
use Rattle.uses.proofs.loader.write_piece.Given as goal

abbrev pub invariant-loop-rest : goal.invariant-loop-rest
invariant-loop-rest g l = Going l.piece l.rest (g.W.Write.contents l.fn.sink) (g.W.Write.contents l.sink)

abbrev pub decreases-loop-rest : goal.decreases-loop-rest
decreases-loop-rest g l = length l.rest
