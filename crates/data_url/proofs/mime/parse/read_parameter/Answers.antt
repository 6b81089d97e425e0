use Rattle.std.{proofs.Common.{arith}, specs.Str.{chars}}
use Rattle.data_url.proofs.{mime.Parsing.{parameter_by}, mime.parse.read_parameter.Goals.{in-Some, in-None}}
use Rattle.data_url.proofs.mime.parse.read_parameter.Goals as goal

pub returns-clause-pair : goal.returns-clause-pair
returns-clause-pair c =
    let n = c.split_name-is_token.ensures in
    let start = c.without_leading_whitespace.ensures in
    elim c.match-after_char.branch [
      | in-Some w ↦ (parameter_by (chars c.args.text.now) _ _ _ n.name n.rest start w.in-Some.ensures _ (grind arith)).0
      | in-None w ↦ (parameter_by (chars c.args.text.now) _ _ _ n.name n.rest start w.in-None.ensures _ (grind arith)).0
    ]
