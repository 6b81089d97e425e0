use Rattle.std.proofs.Common.{rules}
use Rattle.dataurl.proofs.InputLemmas.{text_failed, text_refused, text_whole}
use Rattle.dataurl.proofs.input.read_text.Goals as goal

pub returns-in-Ok-from_utf8 : goal.returns-in-Ok-from_utf8
returns-in-Ok-from_utf8 g c =
    text_whole (g.R.Read.remaining c.args.reader.now) (g.R.Read.remaining c.read_all.new.reader) c.in-Ok.bytes
    c.in-Ok-from_utf8.text c.in-Ok.ensures (search rules)

pub returns-in-Ok : goal.returns-in-Ok
returns-in-Ok g c =
    text_refused (g.R.Read.remaining c.args.reader.now) (g.R.Read.remaining c.read_all.new.reader) c.in-Ok.bytes
    c.in-Ok.ensures (λ u. let k = c.from_utf8.ensures.succeeds u in let e = c.in-Err-from_utf8.is in
    search (rules, k, e))

pub returns : goal.returns
returns g c = text_failed (g.R.Read.remaining c.args.reader.now) (g.R.Read.remaining c.read_all.new.reader)
    c.in-Err.fault c.in-Err.ensures
