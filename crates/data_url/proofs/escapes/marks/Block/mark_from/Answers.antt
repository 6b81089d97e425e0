use Rattle.std.proofs.Common.{arith, refl}
use Rattle.data_url.proofs.escapes.BlockMarks.{block_from, found, found_none}
use Rattle.data_url.proofs.escapes.marks.Block.mark_from.Goals as goal

pub returns-then-marks-eq0 : goal.returns-then-marks-eq0
returns-then-marks-eq0 c = found_none (block_from c.requires.looking (omega arith) refl) c.if-marks-eq0.true

pub returns : goal.returns
returns c = found _ (block_from c.requires.looking (omega arith) refl) c.if-marks-eq0.false refl
