use Rattle.data_url.proofs.forgiving_base64.Lanes.{row_is}
use Rattle.data_url.proofs.forgiving_base64.alphabet.decode_row.Goals as goal

pub returns-clause-bytes : goal.returns-clause-bytes
returns-clause-bytes c =
    row_is c.args.bytes c.repeated.result c.values_of.result c.numbers_of.result c.bytes_of.result c.fits-bytes.0
    c.fits-bytes.1 c.repeated.ensures c.values_of.ensures c.numbers_of.ensures c.bytes_of.ensures.len
    c.bytes_of.ensures.bytes
