use Rattle.std.proofs.Common.{inl, inr, rules}
use Rattle.data_url.proofs.mime.TokenTexts.{name_token_by}
use Rattle.data_url.proofs.mime.cuts.split_name.Goals as goal

pub returns-clause-token : goal.returns-clause-token
returns-clause-token c = name_token_by c.utf8.text c.as_bytes-bytes.ensures.value c.span-tokens.ensures.prefix
    c.span.ensures.prefix _ _ (search rules) c.split_at.ensures.front (elim c.if-tokens-ne0.branch [
      | goal.then-tokens-ne0 w ↦ inl (w.if-tokens-ne0.true, w.result-is)
      | goal.else-tokens-ne0 w ↦ inr (w.if-tokens-ne0.false, w.result-is)
    ])
