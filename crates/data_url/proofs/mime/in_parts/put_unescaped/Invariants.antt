-- The value of the bytes so far is written, and the value of the bytes from the index on follows it.
use Rattle.data_url.proofs.mime.PartTexts.{Unescaped}
use Rattle.data_url.proofs.mime.in_parts.put_unescaped.Given as goal

abbrev pub invariant-loop-byte : goal.invariant-loop-byte
invariant-loop-byte l = Unescaped l.quoted l.is_escaped l.byte-index l.fn.output l.at l.output l.end
