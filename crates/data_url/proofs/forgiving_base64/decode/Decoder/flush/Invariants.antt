use Rattle.std.{proofs.Common.{◌-◌, ◌%◌, ◌++◌, ◌≡◌, ◌≤◌, List, drop, false, length, ℕ}, specs.Fn.{CalledAt, always_mut}}
use Rattle.data_url.specs.{Decoder.{state_of}, Steps.Holding.{ReadsHolding}}
use Rattle.data_url.proofs.forgiving_base64.decode.Decoder.flush.Given as goal

-- the closure was called with the first `at` bytes
abbrev pub invariant-loop-at : goal.invariant-loop-at
invariant-loop-at g l = record {
  callable : always_mut g.F.FnMut (state_of l.self).closure;
  going : (state_of l.self).failed ≡ false;
  within : l.at ≤ length l.bytes;
  whole : l.at % 3 ≡ 0;
  reads : (d0 : _) (text b : List ℕ) → ReadsHolding (CalledAt g.F.FnMut) d0 text (l.bytes ++ b) (state_of l.fn.self)
      → ReadsHolding (CalledAt g.F.FnMut) d0 text (drop l.at l.bytes ++ b) (state_of l.self);
}

abbrev pub decreases-loop-at : goal.decreases-loop-at
decreases-loop-at g l = length l.bytes - l.at
