use Rattle.data_url_c.specs.Gives.{GivesBase64}
use Rattle.data_url_c.proofs.GivenLemmas.{answers}
use Rattle.data_url_c.proofs.dataurl_base64.Goals as goal

pub returns : goal.returns
returns c = answers (GivesBase64 c.args.text.now) c.base64.result c.base64.ensures c.answer.ensures
