use Rattle.std.{proofs.lemmas.Str.{chars-nil}}
use Rattle.data_url.proofs.mime.in_parts.put_value.Goals as goal

pub returns-in-Missing : goal.returns-in-Missing
returns-in-Missing c = rw c.in-Missing.is (rw chars-nil at c.put_text.ensures)
