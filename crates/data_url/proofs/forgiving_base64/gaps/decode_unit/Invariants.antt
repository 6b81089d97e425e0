use Rattle.std.proofs.Common.{◌*◌}
use Rattle.data_url.proofs.forgiving_base64.Packed.{Decodes}
use Rattle.data_url.proofs.forgiving_base64.gaps.decode_unit.Given as goal

-- the groups of the rows so far are decoded
abbrev pub invariant-loop-index : goal.invariant-loop-index
invariant-loop-index l = Decodes l.symbols l.fn.bytes l.bytes l.at (4 * l.index)
