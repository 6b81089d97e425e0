use Rattle.std.proofs.Common.{arith}
use Rattle.data_url_c.proofs.OpenLemmas.{tail_at}
use Rattle.data_url_c.proofs.open.tail_place.Goals as goal

pub overflow_sub-result : goal.overflow_sub-result
overflow_sub-result c = grind (arith, tail_at c.args.text.now c.args.tail.now c.requires)

pub overflow_sub-result-2 : goal.overflow_sub-result-2
overflow_sub-result-2 c = grind (arith, tail_at c.args.text.now c.args.tail.now c.requires)
