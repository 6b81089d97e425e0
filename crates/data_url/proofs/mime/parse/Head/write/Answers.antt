use Rattle.std.proofs.Common.{[], arith, refl}
use Rattle.data_url.proofs.{mime.PartTexts.{record_of_head, record_written}, texts.CodePoints.{no_chars}}
use Rattle.data_url.proofs.mime.parse.Head.write.Goals as goal

pub returns-then-is_empty : goal.returns-then-is_empty
returns-then-is_empty c = record_written _ _ _ _ c.write_with.result
    (record_of_head c.args.self.now [] [] (grind (arith, no_chars, c.is_empty.ensures)) refl) c.write_with.ensures
