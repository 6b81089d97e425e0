use Rattle.std.proofs.Common.{arith, get_or-take}
use Rattle.data_url.proofs.header.Serialising.{has_word, no_semicolon, with_semicolon}
use Rattle.data_url.proofs.header.without_suffix.Goals as goal

pub returns-clause-text : goal.returns-clause-text
returns-clause-text c =
    let f = c.in_ok-front.ensures.cases in
    let w = has_word c.args.header.now c.in_ok-front.front.now c.in_ok-front.word.now c.end_span.result
    (grind (arith, f)) (grind (arith, f)) (grind (arith, f)) (grind (arith, f)) (grind (arith, f)) in
    grind (arith, f, get_or-take, with_semicolon _ _ _ c.in_ok-semicolon.semicolon c.requires w)

pub returns-then-front-semicolon-ne59-clause-text : goal.returns-then-front-semicolon-ne59-clause-text
returns-then-front-semicolon-ne59-clause-text c =
    let f = c.in_ok-front.ensures.cases in
    let w = has_word c.args.header.now c.in_ok-front.front.now c.in_ok-front.word.now c.end_span.result
    (grind (arith, f)) (grind (arith, f)) (grind (arith, f)) (grind (arith, f)) (grind (arith, f)) in
    grind (arith, f, get_or-take, no_semicolon _ _ _ c.in_ok-semicolon.semicolon c.requires w)
