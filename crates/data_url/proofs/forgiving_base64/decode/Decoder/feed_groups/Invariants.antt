use Rattle.std.{proofs.Common.{◌-◌, ◌<◌, ◌≡◌, ◌≤◌, None, length, take}, specs.Fn.{CalledAt, always_mut}}
use Rattle.data_url.specs.{Decoder.{state_of}, Steps.Groups.{held_bytes}, Steps.Holding.{ReadsHolding}}
use Rattle.data_url.proofs.forgiving_base64.decode.Decoder.feed_groups.Given as goal

-- the text read so far was decoded; the bytes that the closure was not called with are held
abbrev pub invariant-groups : goal.invariant-groups
invariant-groups g l = record {
  callable : always_mut g.F.FnMut (state_of l.self).closure;
  within : l.at ≤ length l.text;
  few : l.groups.len < 384;
  none : l.fault ≡ None;
  reads : ReadsHolding (CalledAt g.F.FnMut) (state_of l.fn.self) (take l.at l.text) (held_bytes l.groups)
      (state_of l.self);
}

abbrev pub decreases-groups : goal.decreases-groups
decreases-groups g l = length l.text - l.at
