use Rattle.std.proofs.Common.{refl}
use Rattle.data_url.proofs.mime.RoundTrips.{adds_more, adds_same, parameter_text, quoted_value_text, token_value_text}
use Rattle.data_url.proofs.mime.print.push_parameter.Goals as goal

pub returns-then-is_token_text-clause-added : goal.returns-then-is_token_text-clause-added
returns-then-is_token_text-clause-added g c ok = adds_same (parameter_text c.args.name.now _ _ c.utf8.name
    (token_value_text _ _ c.utf8.value c.is_token_text.ensures c.if-is_token_text.true)) (adds_more (adds_more
    (adds_more (c.in_ok-push.ensures.added refl) (c.in_ok-push-2.ensures.added refl))
    (c.in_ok-push-3.ensures.added refl)) (c.push-then-is_token_text.ensures.added ok))

pub returns-clause-added : goal.returns-clause-added
returns-clause-added g c ok = adds_same (parameter_text c.args.name.now _ _ c.utf8.name
    (quoted_value_text _ _ c.is_token_text.ensures c.if-is_token_text.false)) (adds_more (adds_more (adds_more
    (c.in_ok-push.ensures.added refl) (c.in_ok-push-2.ensures.added refl)) (c.in_ok-push-3.ensures.added refl))
    (adds_more (adds_more (c.in_ok-push-4.ensures.added refl) (c.in_ok-push_escaped.ensures.added refl))
    (c.push-5.ensures.added ok)))
