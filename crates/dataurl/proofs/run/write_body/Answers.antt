use Rattle.std.proofs.lemmas.Result.{err_from_is_err_and}
use Rattle.dataurl.specs.declared.command.Command.TheVariants.{Body}
use Rattle.dataurl.proofs.CommandRunLemmas.{body_writes_of, refused_url}
use Rattle.dataurl.proofs.StepLemmas.{writes_streamed}
use Rattle.dataurl.proofs.run.write_body.Goals as goal

pub returns : goal.returns
returns g c = body_writes_of c.in_ok-url_of.ensures (writes_streamed c.write_body_of.ensures)

pub returns-in_err-url_of : goal.returns-in_err-url_of
returns-in_err-url_of g c =
    let p = err_from_is_err_and c.from_residual.result c.from_residual.ensures.1 in
    rw (p.1, p.2) (refused_url Body (g.W.Write.contents c.args.writer.now)
    (λ e. absurd (let k = e in cc), λ e. absurd (let k = e in cc)) c.in_err-url_of.ensures)
