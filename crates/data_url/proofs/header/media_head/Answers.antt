use Rattle.std.proofs.Common.{arith}
use Rattle.data_url.proofs.header.Stages.{plain_stays}
use Rattle.data_url.proofs.header.media_head.Goals as goal

pub returns : goal.returns
returns c =
    let same = plain_stays c.args.media.now c.requires.printable (λ e. absurd (grind arith)) in
    rw same at c.read_trimmed_head.ensures
