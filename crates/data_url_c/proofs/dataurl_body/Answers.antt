use Rattle.std.proofs.Common.{Err}
use Rattle.data_url_c.specs.Gives.{GivesBody}
use Rattle.data_url_c.specs.declared.answer.Refusal.TheVariants.{NotUtf8}
use Rattle.data_url_c.proofs.GivenLemmas.{answers}
use Rattle.data_url_c.proofs.dataurl_body.Goals as goal

pub returns-in-None : goal.returns-in-None
returns-in-None c = answers (GivesBody c.args.url.now) (Err NotUtf8) c.in-None.ensures c.answer.ensures
