use Rattle.data_url.proofs.mime.Parsing.{no_value}
use Rattle.data_url.proofs.mime.parse.read_unquoted.Goals as goal

pub returns-then-is_empty-clause-value : goal.returns-then-is_empty-clause-value
returns-then-is_empty-clause-value c =
    let t = c.without_trailing_whitespace-value in
    no_value c.utf8.text c.as_bytes-bytes.ensures.value c.long_span-quotable.ensures.prefix
    c.span.ensures.prefix t.utf8 c.split_at.ensures.front
    t.ensures.bytes t.ensures.without c.is_empty.ensures c.then-is_empty.either
