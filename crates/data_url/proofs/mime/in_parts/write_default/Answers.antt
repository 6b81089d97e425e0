use Rattle.std.proofs.Common.{List, arith, subst, ℕ}
use Rattle.data_url.specs.Parts.{WritesIfFits, part}
use Rattle.data_url.proofs.mime.PartTexts.{default_parts, written_put}
use Rattle.data_url.proofs.mime.in_parts.write_default.Goals as goal

pub returns : goal.returns
unfolding part
returns c =
    let P : List ℕ → Type 0 = λ b. WritesIfFits b c.args.output.now c.put.new.output c.put.result in
    subst P default_parts (written_put (omega arith) c.put.ensures.puts c.put.ensures.stays)
