use Rattle.std.proofs.Common.{refl}
use Rattle.std.specs.Str.{chars}
use Rattle.data_url.proofs.mime.FirstNames.{head_wellformed, no_record, parses_parts}
use Rattle.data_url.proofs.mime.in_parts.read_mime_type.Goals as goal

pub returns-in_default : goal.returns-in_default
returns-in_default c = (no_record (chars c.args.text.now) (rw c.in_default.is at c.read_head.ensures), refl)

pub returns-in-Ok : goal.returns-in-Ok
returns-in-Ok c =
    let head = rw c.in-Some.is at c.read_head.ensures in
    let written = c.in-Ok.ensures in
    record {
      mime = written.0;
      parses = parses_parts _ _ _ _ written.0 head written.1;
      wellformed = head_wellformed head written.1;
      written = written.2;
    }
