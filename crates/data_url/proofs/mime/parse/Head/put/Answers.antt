use Rattle.data_url.proofs.mime.PartTexts.{puts_both}
use Rattle.data_url.proofs.mime.parse.Head.put.Goals as goal

pub returns-in-OfText : goal.returns-in-OfText
returns-in-OfText c =
    rw c.in-OfText.is (puts_both c.put_lowercase-at.ensures (puts_both c.put_lowercase-at-2.ensures
    c.put_slices.ensures))

pub returns-in-OfRecord : goal.returns-in-OfRecord
returns-in-OfRecord c =
    rw c.in-OfRecord.is (puts_both c.put_lowercase-at.ensures (puts_both c.put_lowercase-at-2.ensures
    c.put_pairs.ensures))
