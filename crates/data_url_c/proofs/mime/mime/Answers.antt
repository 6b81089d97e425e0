use Rattle.data_url_c.proofs.GivenLemmas.{gives_mime}
use Rattle.data_url_c.proofs.mime.mime.Goals as goal

pub returns-in-Ok : goal.returns-in-Ok
returns-in-Ok c = gives_mime c.in-Ok.url c.in-Ok.ensures.0 c.in-Ok.ensures.1 c.mime_type.ensures c.printed_of.result
    c.printed_of.ensures
