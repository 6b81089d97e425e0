use Rattle.std.proofs.{Common.{arith}, lemmas.Simd.{take_more_put_chunk}}
use Rattle.data_url.proofs.classes.lanes.put.Goals as goal

pub returns : goal.returns
returns c = grind (arith, take_more_put_chunk)
