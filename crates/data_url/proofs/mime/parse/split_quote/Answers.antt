use Rattle.std.proofs.Common.{arith, eqb-true, sym, take_all, ◌∙◌}
use Rattle.data_url.proofs.mime.{Parsing.{verbatim}, TokenTexts.{quoting_from, quoting_next}}
use Rattle.data_url.proofs.mime.parse.split_quote.Goals as goal

pub loop-place-init : goal.loop-place-init
loop-place-init c =
    quoting_from _ 0 _ _ (omega arith) (omega arith) c.long_span-verbatim_len.ensures.prefix (omega arith)

pub loop-place-preserved : goal.loop-place-preserved
loop-place-preserved c = quoting_next _ c.loop-place.place _ _ c.loop-place.invariant c.loop-place-test.true
    c.if-bytes-place-eq34.false c.min-from.ensures c.span_if_any.ensures.prefix

pub returns-clause-verbatim : goal.returns-clause-verbatim
returns-clause-verbatim c h =
    let n = eqb-true _ _ h in
    let bytes = c.as_bytes-bytes.result.now in
    let whole = take_all c.long_span-verbatim_len.result bytes (omega (arith, n)) in
    verbatim bytes c.args.text.now c.long_span-verbatim_len.result c.utf8.text c.long_span-verbatim_len.ensures.prefix
    (sym (whole ∙ c.as_bytes-bytes.ensures.value))
