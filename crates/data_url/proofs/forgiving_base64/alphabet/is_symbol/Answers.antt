use Rattle.std.proofs.Common.{arith}
use Rattle.data_url.proofs.forgiving_base64.Vectors.{symbol_is}
use Rattle.data_url.proofs.forgiving_base64.alphabet.is_symbol.Goals as goal

pub returns : goal.returns
returns c = symbol_is c.args.byte (omega arith)
