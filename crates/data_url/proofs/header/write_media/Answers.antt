use Rattle.std.proofs.Common.{refl}
use Rattle.data_url.specs.{Fetch.{with_plain}, Mime.{default_record}}
use Rattle.data_url.proofs.header.Stages.{default_for, parts_for, parts_written}
use Rattle.data_url.proofs.mime.FirstNames.{no_record}
use Rattle.data_url.proofs.header.write_media.Goals as goal

pub returns-in-Some : goal.returns-in-Some
returns-in-Some c =
    let head = rw c.in-Some.is at c.media_head.ensures in
    parts_written _ _ c.write.result (λ m h. parts_for m refl head h)
    c.write.ensures

pub returns-in-None : goal.returns-in-None
returns-in-None c = (
  default_record,
  default_for (with_plain c.args.media.now) default_record
      (no_record (with_plain c.args.media.now) (rw c.in-None.is at c.media_head.ensures)) refl,
  c.write_default.ensures,
)
