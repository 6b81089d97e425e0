use Rattle.std.proofs.Common.{length}
use denote.Text.{Utf8}
use denote.Shadow.{shadow}
use Rattle.uses.proofs.PageLemmas.{Going}
use Rattle.uses.proofs.inliner.inline.Given as goal

abbrev pub invariant-loop-before : goal.invariant-loop-before
invariant-loop-before l = shadow (Utf8 l.rest) × Going l.page l.rest l.parts.items

abbrev pub decreases-loop-before : goal.decreases-loop-before
decreases-loop-before l = length l.rest
