use Rattle.std.proofs.Common.{arith}
use Rattle.uses.proofs.RankLemmas.{leads_higher, leads_no_higher, rank_at}
use Rattle.uses.proofs.negotiation.best.Goals as goal
use Rattle.uses.proofs.negotiation.best.Goals.{then-highest-rank, else-highest-rank}

pub loop-i-preserved : goal.loop-i-preserved
loop-i-preserved c = grind (arith, rank_at, then-highest-rank, leads_higher, else-highest-rank, leads_no_higher)
