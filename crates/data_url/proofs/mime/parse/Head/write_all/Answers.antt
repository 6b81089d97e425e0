use Rattle.data_url.proofs.mime.PartTexts.{record_of_head, record_written}
use Rattle.data_url.proofs.mime.parse.Head.write_all.Goals as goal

pub returns : goal.returns
returns c =
    let kept = c.if-not-read.ensures in
    record_written _ _ _ _ c.write_with.result
    (record_of_head c.args.self.now kept.items _ kept.items_are kept.pairs_are) c.write_with.ensures
