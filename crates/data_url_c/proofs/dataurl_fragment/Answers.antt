use Rattle.data_url_c.specs.Gives.{GivesFragment}
use Rattle.data_url_c.proofs.GivenLemmas.{answers}
use Rattle.data_url_c.proofs.dataurl_fragment.Goals as goal

pub returns : goal.returns
returns c = answers (GivesFragment c.args.url.now) c.fragment.result c.fragment.ensures c.answer.ensures
