use Rattle.std.{proofs.Common.{refl}, proofs.lemmas.Result.{IfOk-weaker}}
use Rattle.data_url.specs.{Fetch.{with_plain}, MimeType.{record_of}}
use Rattle.data_url.proofs.header.Stages.{default_for, parts_for}
use Rattle.data_url.proofs.mime.FirstNames.{no_record}
use Rattle.data_url.proofs.header.read_media.Goals as goal

pub returns-in-Some : goal.returns-in-Some
returns-in-Some c = IfOk-weaker c.record.result _ _ (λ mime. parts_for (record_of mime) refl c.in-Some.ensures)
    c.record.ensures

pub returns-in-None : goal.returns-in-None
returns-in-None c = IfOk-weaker c.default_mime.result _ _ (λ mime. default_for (with_plain c.args.media.now)
    (record_of mime) (no_record (with_plain c.args.media.now) c.in-None.ensures)) c.default_mime.ensures
