use Rattle.std.proofs.Common.{refl, sym, ap, ◌∙◌}
use Rattle.dataurl.specs.Program.{without_command, without_words}
use Rattle.dataurl.specs.Status.{status_of_end}
use Rattle.dataurl.proofs.ProgramLemmas.{command_is, ran}
use Rattle.dataurl.proofs.program.execute.Goals as goal

pub returns-in-Err : goal.returns-in-Err
returns-in-Err g c = rw (c.in-Err.is, c.report.ensures) (without_words refl refl)

pub returns-in_default : goal.returns-in_default
returns-in_default g c =
    rw (c.in-Ok.is, c.usage.ensures)
    (without_command (command_is c.in-Ok.words c.command_of.ensures c.deref.ensures.value c.in_default.is) refl refl)

pub returns-in-Ok-run : goal.returns-in-Ok-run
returns-in-Ok-run g c =
    rw c.in-Ok.is (ran (command_is c.in-Ok.words c.command_of.ensures c.deref.ensures.value c.in-Some.is) c.run.ensures
    (ap status_of_end c.in-Ok-run.is))

pub returns : goal.returns
returns g c = rw c.in-Ok.is (ran (command_is c.in-Ok.words c.command_of.ensures c.deref.ensures.value c.in-Some.is)
    c.run.ensures (ap status_of_end c.in-Err-run.is ∙ sym c.report-in-Err-run.ensures))
