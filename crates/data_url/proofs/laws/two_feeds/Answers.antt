use Rattle.data_url.proofs.forgiving_base64.Groups.{two_feeds}
use Rattle.data_url.proofs.laws.two_feeds.Goals as goal

pub returns : goal.returns
returns c = two_feeds c.args.first.now c.args.second.now c.requires
