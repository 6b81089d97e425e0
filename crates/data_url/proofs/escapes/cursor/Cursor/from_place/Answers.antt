use Rattle.std.proofs.Common.{refl}
use Rattle.data_url.proofs.escapes.Walking.{short_rest}
use Rattle.data_url.proofs.escapes.cursor.Cursor.from_place.Goals as goal

pub returns-clause-from : goal.returns-clause-from
returns-clause-from c = record {
  text_is = c.new.ensures.text;
  place_is = refl;
  rest_is = rw c.new.ensures.text refl;
  short = rw c.new.ensures.text (short_rest c.args.text.now c.args.place c.requires.within);
}
