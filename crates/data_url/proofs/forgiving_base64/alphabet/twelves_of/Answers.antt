use Rattle.data_url.proofs.forgiving_base64.Lanes.{picked_twelves}
use Rattle.data_url.proofs.forgiving_base64.alphabet.twelves_of.Goals as goal

pub returns-clause-bytes : goal.returns-clause-bytes
returns-clause-bytes c = picked_twelves c.args.bytes c.fits-bytes.0 c.fits-bytes.1
