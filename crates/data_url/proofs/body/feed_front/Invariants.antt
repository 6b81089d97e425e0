-- the stretches before a place were fed
use Rattle.std.{proofs.Common.{◌-◌, Ok, length}, specs.Fn.{CalledAt, always_mut}}
use Rattle.data_url.specs.{Decoder.{state_of}, Steps.Holding.{FeedsFront}}
use Rattle.data_url.proofs.body.feed_front.Given as goal

abbrev pub invariant-loop-place : goal.invariant-loop-place
invariant-loop-place g l = record {
  callable : always_mut g.F.FnMut (state_of l.decoder).closure;
  front : FeedsFront (CalledAt g.F.FnMut) (state_of l.fn.decoder) l.tail l.place (Ok tt) (state_of l.decoder);
}

abbrev pub decreases-loop-place : goal.decreases-loop-place
decreases-loop-place g l = length l.tail - l.place
