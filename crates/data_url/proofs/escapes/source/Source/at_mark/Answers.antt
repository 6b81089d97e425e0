use Rattle.std.proofs.Common.{arith, sym, ◌∙◌}
use Rattle.data_url.proofs.escapes.Reading.{at_percent, at_tab}
use Rattle.data_url.proofs.escapes.source.Source.at_mark.Goals as goal

pub returns-in-None-clause-found : goal.returns-in-None-clause-found
returns-in-None-clause-found c =
    at_percent (grind arith) (sym c.look.ensures.byte ∙ c.in-37.is)
    (rw (c.look.ensures.text, c.look.ensures.looks) at c.in-None.ensures.found)

pub returns-in_default-clause-found : goal.returns-in_default-clause-found
returns-in_default-clause-found c = rw c.look.ensures.looks (at_tab _ _ _ (grind arith) (grind arith))
