-- The bytes that were read are written at the front of the buffer.
use Rattle.std.proofs.Common.{[], ◌-◌, ◌≤◌, length}
use Rattle.data_url.specs.Steps.Sets.{in_set}
use Rattle.data_url.proofs.percent.Encoding.{PutTo}
use Rattle.data_url.proofs.percent.encode_next.Given as goal

abbrev pub invariant-loop-read : goal.invariant-loop-read
invariant-loop-read l = record {
  within : l.read ≤ length l.part;
  put : PutTo (in_set l.set) [] l.part l.read l.buffer l.at;
}

abbrev pub decreases-loop-read : goal.decreases-loop-read
decreases-loop-read l = length l.part - l.read
