use Rattle.std.proofs.Common.{◌++◌, ◌-◌, arith, replicate, take-take}
use Rattle.data_url.proofs.forgiving_base64.left_over.LeftOver.row_with.Goals as goal

pub returns : goal.returns
returns c =
    let d = c.args.self.now in
    cc (
      c.joined.ensures,
      c.first_row.ensures,
      take-take (16 - d.pending) 16 (c.args.text.now ++ replicate 16 0) (omega arith),
    )
