use Rattle.std.proofs.Common.{Err, Ok, ap, ◌∙◌}
use Rattle.dataurl.proofs.StepLemmas.{fragment_missing, fragment_refused, fragment_there, writes_as, writes_nothing}
use Rattle.dataurl.proofs.run.write_fragment_of.Goals as goal

pub returns-in-Ok-Some : goal.returns-in-Ok-Some
returns-in-Ok-Some g c =
    writes_as (fragment_there c.args.url.now c.decode.ensures.1 (c.in-Ok-Some.is
    ∙ ap (λ x. Ok x) c.in-Ok-Some.field-0-is)) c.write_encoded.ensures

pub returns-in-Ok-None : goal.returns-in-Ok-None
returns-in-Ok-None g c =
    writes_nothing (g.W.Write.contents c.args.writer.now) (fragment_missing c.args.url.now c.decode.ensures.1
    (c.in-Ok-None.is ∙ ap (λ x. Ok x) c.in-Ok-None.field-0-is))

pub returns-in-Err-InvalidBase64 : goal.returns-in-Err-InvalidBase64
returns-in-Err-InvalidBase64 g c =
    writes_nothing (g.W.Write.contents c.args.writer.now) (fragment_refused c.args.url.now c.decode.ensures.1
    (c.in-Err-InvalidBase64.is ∙ ap (λ x. Err x) c.in-Err-InvalidBase64.field-0-is)
    c.in-Err-InvalidBase64.refusal-is)
