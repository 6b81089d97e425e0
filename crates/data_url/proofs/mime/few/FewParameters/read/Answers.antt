use Rattle.std.proofs.Common.{refl, rules}
use Rattle.data_url.proofs.mime.FirstNames.{keeps_many, keeps_more}
use Rattle.data_url.proofs.mime.few.FewParameters.read.Goals as goal

pub loop-rest-preserved : goal.loop-rest-preserved
loop-rest-preserved c =
    let p = c.read_parameter-parameter.ensures in
    record {
      text = search rules;
      keeps = keeps_more c.loop-rest.invariant.keeps c.after_semicolon.ensures p.pair p.rest c.if-not-add.ensures.0;
      tokens = c.if-not-add.ensures.1;
    }

pub returns-then-not-add : goal.returns-then-not-add
returns-then-not-add c =
    let p = c.read_parameter-parameter.ensures in
    keeps_many (keeps_more c.loop-rest.invariant.keeps c.after_semicolon.ensures p.pair p.rest refl) c.requires.begins
    c.if-not-add.ensures
