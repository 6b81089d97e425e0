use Rattle.std.proofs.Common.{arith, take-add, take-take}
use Rattle.data_url.proofs.forgiving_base64.held.HeldGroups.hold.Goals as goal

pub returns-clause-bytes : goal.returns-clause-bytes
returns-clause-bytes c =
    let short = c.args.short.now in
    let new = c.put-3.new.bytes in
    cc (
      take-take c.args.len 48 new (omega (arith, c.requires.few)),
      take-take c.args.len 48 short (omega (arith, c.requires.few)),
      take-add 32 16 short,
      take-add 16 16 short,
      c.put.ensures,
      c.put-2.ensures,
      c.put-3.ensures,
      c.row.ensures,
      c.row-2.ensures,
      c.row-3.ensures,
    )
