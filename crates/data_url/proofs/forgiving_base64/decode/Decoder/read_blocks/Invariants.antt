use Rattle.std.{proofs.Common.{◌-◌, ◌≤◌, [], length, take}, specs.Fn.{CalledAt, always_mut}}
use Rattle.data_url.specs.{Decoder.{state_of}, Steps.Holding.{IsBetweenGroups, ReadsHolding}}
use Rattle.data_url.proofs.forgiving_base64.decode.Decoder.read_blocks.Given as goal

-- the closure was called with the bytes of all groups that were read
abbrev pub invariant-block : goal.invariant-block
invariant-block g l = record {
  callable : always_mut g.F.FnMut (state_of l.self).closure;
  between : IsBetweenGroups (state_of l.self);
  within : l.at ≤ length l.text;
  reads : ReadsHolding (CalledAt g.F.FnMut) (state_of l.fn.self) (take l.at l.text) [] (state_of l.self);
}

abbrev pub decreases-block : goal.decreases-block
decreases-block g l = length l.text - l.at
