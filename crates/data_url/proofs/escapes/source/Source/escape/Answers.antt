use Rattle.std.proofs.Common.{arith}
use Rattle.data_url.proofs.escapes.EscapeDigits.{escape_both, escape_no_low}
use Rattle.data_url.proofs.escapes.source.Source.escape.Goals as goal

pub returns-in_err-low-clause-found : goal.returns-in_err-low-clause-found
returns-in_err-low-clause-found c =
    rw c.from_residual-in_err-low.ensures
    (escape_no_low c.in_ok-high.ensures.text c.requires.within c.requires.percent c.in_ok-high.ensures.found
    c.in_err-low.ensures.found)

pub returns-clause-found : goal.returns-clause-found
returns-clause-found c = (
  escape_both c.in_ok-high.ensures.text c.requires.within c.requires.percent c.in_ok-high.ensures.found
      c.in_ok-low.ensures.found,
  grind arith,
)
