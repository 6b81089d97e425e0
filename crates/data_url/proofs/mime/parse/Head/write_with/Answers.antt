use Rattle.std.proofs.Common.{arith, refl}
use Rattle.data_url.proofs.mime.PartTexts.{written_fits, written_not}
use Rattle.data_url.proofs.mime.parse.Head.write_with.Goals as goal

pub returns-then-len-gt-LONGEST : goal.returns-then-len-gt-LONGEST
returns-then-len-gt-LONGEST c = (omega (arith, c.put-len.ensures.end_is, c.if-len-gt-LONGEST.true), refl)

pub returns-then-len-output : goal.returns-then-len-output
returns-then-len-output c =
    let few = c.if-len-gt-LONGEST.false in
    written_fits (omega (arith, c.put-len.ensures.end_is, few)) (omega (arith, few))
    (omega (arith, c.if-len-output.true)) c.put.ensures

pub returns-else-len-output : goal.returns-else-len-output
returns-else-len-output c =
    let few = c.if-len-gt-LONGEST.false in
    written_not (omega (arith, c.put-len.ensures.end_is, few)) (omega (arith, few))
    (omega (arith, c.if-len-output.false)) refl
