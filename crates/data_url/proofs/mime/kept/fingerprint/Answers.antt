use Rattle.std.proofs.Common.{◌-◌, arith, length, refl}
use Rattle.data_url.proofs.mime.FirstNames.{fingerprint_is}
use Rattle.data_url.proofs.mime.kept.fingerprint.Goals as goal

pub returns : goal.returns
returns c =
    let name = c.args.name.now in
    fingerprint_is name (length name - 1) c.from-ones.result c.from-tens.result c.from-hundreds.result
    (λ k. omega (arith, c.type_inv.name k)) refl (cc) (cc) (cc)
