use Rattle.std.proofs.Common.{◌≡◌, rules}
use Rattle.data_url.specs.MimeType.{same_texts}
use Rattle.data_url.proofs.mime.RoundTrips.{same_decides}
use Rattle.data_url.proofs.mime.MimePartialEq.eq.Goals as goal

pub returns-then-eq-2-clause-same : goal.returns-then-eq-2-clause-same
returns-then-eq-2-clause-same c =
    let value : c.eq-then-eq-2.result ≡ same_texts c.args.self.now c.args.other.now = search rules in
    rw value (same_decides c.args.self.now c.args.other.now)
