use Rattle.std.proofs.Common.{rules}
use Rattle.uses.proofs.LengthLemmas.{exact_len}
use Rattle.uses.proofs.fetch.content_length.Goals as goal

pub returns-in-Ok-body_len : goal.returns-in-Ok-body_len
returns-in-Ok-body_len c =
    exact_len c.in-Ok.url c.in-Ok-body_len.len c.in-Ok.ensures (search rules) c.in-Ok-body_len.ensures
