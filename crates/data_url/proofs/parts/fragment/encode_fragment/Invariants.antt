-- The bytes that were read are written at the start of the output.
use Rattle.std.proofs.Common.{◌-◌, length}
use Rattle.data_url.proofs.parts.Fragments.{EncodedTo}
use Rattle.data_url.proofs.parts.fragment.encode_fragment.Given as goal

abbrev pub invariant-loop-read : goal.invariant-loop-read
invariant-loop-read l = EncodedTo l.fn.text l.fn.output l.read l.output l.len

abbrev pub decreases-loop-read : goal.decreases-loop-read
decreases-loop-read l = length l.fn.text - l.read
