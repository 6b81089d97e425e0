-- The bytes that were read are written after what is at the front of the buffer.
use Rattle.std.proofs.Common.{take}
use Rattle.data_url.specs.Steps.Sets.{in_set}
use Rattle.data_url.proofs.percent.Encoding.{PutTo}
use Rattle.data_url.proofs.percent.put_encoded.Given as goal

abbrev pub invariant-loop-byte : goal.invariant-loop-byte
invariant-loop-byte l = PutTo (in_set l.set) (take l.fn.start l.fn.buffer) l.bytes l.byte-index l.buffer l.at
