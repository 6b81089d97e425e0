use Rattle.std.proofs.Common.{refl}
use Rattle.data_url.specs.Parts.{parts_of}
use Rattle.data_url_c.specs.declared.answer.Refusal.TheVariants.{NotUtf8}
use Rattle.data_url_c.proofs.OpenLemmas.{opens_refused}
use Rattle.data_url_c.proofs.dataurl_open_parts.Goals as goal

pub returns-in-None : goal.returns-in-None
returns-in-None c = opens_refused parts_of c.args.url.now NotUtf8 c.in-None.ensures refl c.refused.ensures
