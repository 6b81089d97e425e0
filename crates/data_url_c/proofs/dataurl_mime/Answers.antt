use Rattle.data_url_c.specs.Gives.{GivesMime}
use Rattle.data_url_c.proofs.GivenLemmas.{answers}
use Rattle.data_url_c.proofs.dataurl_mime.Goals as goal

pub returns : goal.returns
returns c = answers (GivesMime c.args.url.now) c.mime.result c.mime.ensures c.answer.ensures
