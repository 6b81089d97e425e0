use Rattle.std.proofs.Common.{map}
use Rattle.uses.specs.Ranks.{rank_for}
use Rattle.uses.proofs.RankLemmas.{Leads}
use Rattle.uses.proofs.negotiation.best.Given as goal

abbrev pub invariant-loop-i : goal.invariant-loop-i
invariant-loop-i l = Leads (map (rank_for l.mime) l.accepted) l.i l.best l.highest
