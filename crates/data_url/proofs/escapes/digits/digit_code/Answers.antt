use Rattle.std.proofs.Common.{arith}
use Rattle.data_url.proofs.escapes.EscapeDigits.{is_code}
use Rattle.data_url.proofs.escapes.digits.digit_code.Goals as goal

pub returns : goal.returns
returns c = is_code c.args.byte (omega arith)
