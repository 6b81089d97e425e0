use Rattle.std.specs.Str.{chars}
use Rattle.data_url.proofs.mime.FirstNames.{head_wellformed, no_record}
use Rattle.data_url.proofs.mime.Mime.from_str.Goals as goal

pub returns-in_default-clause-refused : goal.returns-in_default-clause-refused
returns-in_default-clause-refused c = (λ _. no_record (chars c.args.s.now) c.in_default.ensures, λ _. tt)

pub returns-in-Ok-clause-wellformed : goal.returns-in-Ok-clause-wellformed
returns-in-Ok-clause-wellformed c = head_wellformed c.in-Some.ensures c.in-Ok.ensures
