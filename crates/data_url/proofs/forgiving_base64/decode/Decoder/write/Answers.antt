use Rattle.std.proofs.Common.{◌∙◌, refl, rules}
use Rattle.data_url.proofs.forgiving_base64.decode.Decoder.write.Goals as goal

pub returns-clause-called : goal.returns-clause-called
returns-clause-called g c = record {
  told = c.write_bytes-answer.result;
  called = record { shown = c.args.piece; shows = refl; called = c.write_bytes-answer.ensures };
  answer = search rules;
  failed = c.is_err-self.ensures.value ∙ search rules;
  symbols_stay = refl;
  padding_stays = refl;
}
