use Rattle.std.proofs.Common.{arith}
use Rattle.data_url.proofs.mime.PartTexts.{puts_chunk}
use Rattle.data_url.proofs.mime.in_parts.write_length_at.Goals as goal

pub returns : goal.returns
returns c = puts_chunk c.args.at c.args.output.now c.to_le_bytes.ensures (omega arith) c.requires (omega arith)
