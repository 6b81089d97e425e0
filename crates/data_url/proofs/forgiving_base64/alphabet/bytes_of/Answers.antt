use Rattle.data_url.proofs.forgiving_base64.Lanes.{bytes_are}
use Rattle.data_url.proofs.forgiving_base64.alphabet.bytes_of.Goals as goal

pub returns-clause-bytes : goal.returns-clause-bytes
returns-clause-bytes c = bytes_are 16 c.args.numbers c.fits-numbers.0 c.fits-numbers.1
