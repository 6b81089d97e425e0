use Rattle.std.{proofs.Common.{◌-◌, ◌≡◌, ◌≤◌, [], false, length, take}, specs.Fn.{CalledAt, always_mut}}
use Rattle.data_url.specs.{Decoder.{state_of}, Steps.Holding.{IsBetweenGroups, ReadsHolding}}
use Rattle.data_url.proofs.forgiving_base64.decode.Decoder.read_lines.Given as goal

-- the closure was called with the bytes of all groups that were read
abbrev pub invariant-block : goal.invariant-block
invariant-block g l = record {
  callable : always_mut g.F.FnMut (state_of l.self).closure;
  between : IsBetweenGroups (state_of l.self);
  within : l.at ≤ length l.text;
  going : (state_of l.self).failed ≡ false;
  reads : (d0 : _) → ReadsHolding (CalledAt g.F.FnMut) d0 (take l.fn.place l.text) [] (state_of l.fn.self)
      → ReadsHolding (CalledAt g.F.FnMut) d0 (take l.at l.text) [] (state_of l.self);
}

abbrev pub decreases-block : goal.decreases-block
decreases-block g l = length l.text - l.at
