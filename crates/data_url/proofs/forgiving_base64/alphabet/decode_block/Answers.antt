use Rattle.std.proofs.Common.{◌∙◌}
use Rattle.data_url.proofs.forgiving_base64.Lanes.{block_is}
use Rattle.data_url.proofs.forgiving_base64.alphabet.decode_block.Goals as goal

pub returns-clause-bytes : goal.returns-clause-bytes
returns-clause-bytes c =
    block_is c.args.bytes c.values_of.result c.numbers_of.result c.twelves_of.result c.requires c.fits-bytes.1
    c.values_of.ensures c.numbers_of.ensures (c.twelves_of.ensures.bytes ∙ c.bytes_of.ensures.bytes)
