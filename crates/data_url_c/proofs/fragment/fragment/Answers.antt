use Rattle.data_url_c.proofs.GivenLemmas.{gives_fragment}
use Rattle.data_url_c.proofs.fragment.fragment.Goals as goal

pub returns-in-Ok : goal.returns-in-Ok
returns-in-Ok c = gives_fragment c.in-Ok.url c.in-Ok.ensures.0 c.in-Ok.ensures.1 c.encoded_fragment_of.result
    c.encoded_fragment_of.ensures
