use Rattle.std.proofs.lemmas.Result.{err_from_is_err_and}
use Rattle.dataurl.proofs.CommandRunLemmas.{text_not_read, text_runs}
use Rattle.dataurl.proofs.run.run.Goals as goal

pub returns-in_err-read_text-in_default : goal.returns-in_err-read_text-in_default
returns-in_err-read_text-in_default g c =
    let p = err_from_is_err_and c.from_residual.result c.from_residual.ensures.1 in
    rw (p.1, p.2) (text_not_read (g.W.Write.contents c.args.writer.now)
    c.in_default.not-Base64 c.in_err-read_text-in_default.ensures)

pub returns-in_ok-read_text-in_default : goal.returns-in_ok-read_text-in_default
returns-in_ok-read_text-in_default g c =
    text_runs c.as_str.result.now c.in_default.not-Base64
    c.in_ok-read_text-in_default.ensures c.as_str.ensures.value c.write_text.ensures
