use Rattle.std.proofs.Common.{rules}
use Rattle.data_url.proofs.mime.FirstNames.{keeps_more}
use Rattle.data_url.proofs.mime.parse.read_parameters.Goals as goal

pub loop-rest-preserved : goal.loop-rest-preserved
loop-rest-preserved c =
    let p = c.read_parameter-parameter.ensures in
    record {
      text = search rules;
      keeps = keeps_more c.loop-rest.invariant.keeps c.after_semicolon.ensures p.pair p.rest c.in_ok-keep.ensures.pairs;
      indexed = c.in_ok-keep.ensures.indexed;
    }
