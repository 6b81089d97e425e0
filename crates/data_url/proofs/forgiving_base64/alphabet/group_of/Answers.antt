use Rattle.std.{proofs.Common.{arith}, proofs.lemmas.Bool.{ltb-true}}
use Rattle.data_url.proofs.forgiving_base64.Vectors.{entry_symbol, symbol_is}
use Rattle.data_url.proofs.forgiving_base64.alphabet.group_of.Goals as goal

pub overflow_cast-result : goal.overflow_cast-result
overflow_cast-result c = grind (arith, ltb-true, symbol_is)

pub returns : goal.returns
returns c = grind (arith, entry_symbol)
