use Rattle.std.proofs.lemmas.Result.{err_from_is_err_and}
use Rattle.dataurl.specs.declared.command.Command.TheVariants.{MimeType}
use Rattle.dataurl.proofs.CommandRunLemmas.{mime_writes_of, refused_url}
use Rattle.dataurl.proofs.run.write_mime.Goals as goal

pub returns : goal.returns
returns g c = mime_writes_of c.mime_type.result.now c.in_ok-url_of.ensures c.mime_type.ensures c.write_record.ensures

pub returns-in_err-url_of : goal.returns-in_err-url_of
returns-in_err-url_of g c =
    let p = err_from_is_err_and c.from_residual.result c.from_residual.ensures.1 in
    rw (p.1, p.2) (refused_url MimeType (g.W.Write.contents c.args.writer.now)
    (λ e. absurd (let k = e in cc), λ e. absurd (let k = e in cc)) c.in_err-url_of.ensures)
