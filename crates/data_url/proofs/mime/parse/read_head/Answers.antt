use Rattle.std.{proofs.Common.{ap, ◌∙◌}, specs.Str.{chars}}
use Rattle.data_url.specs.{CodePoints.{is_http_whitespace}, Url.{without_end}}
use Rattle.data_url.proofs.mime.Parsing.{head_of_trimmed, is_trimmed}
use Rattle.data_url.proofs.mime.parse.read_head.Goals as goal

pub read_trimmed_head-requires : goal.read_trimmed_head-requires
read_trimmed_head-requires c =
    is_trimmed (chars c.args.text.now) _ _ c.without_leading_whitespace.ensures
    c.without_trailing_whitespace.ensures.trimmed

pub returns : goal.returns
returns c =
    let start = c.without_leading_whitespace.ensures in
    let text = c.without_trailing_whitespace.ensures in
    head_of_trimmed _ c.read_trimmed_head.result (text.without ∙ ap (without_end is_http_whitespace) start)
    (is_trimmed (chars c.args.text.now) _ _ start text.trimmed) c.read_trimmed_head.ensures
