use Rattle.data_url_c.specs.Gives.{GivesType}
use Rattle.data_url_c.proofs.GivenLemmas.{answers}
use Rattle.data_url_c.proofs.dataurl_type.Goals as goal

pub returns : goal.returns
returns c = answers (GivesType c.args.text.now) c.type_.result c.type_.ensures c.answer.ensures
