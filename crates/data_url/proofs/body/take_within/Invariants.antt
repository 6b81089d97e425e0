-- The closure was called with the body up to the place of the walk.
use Rattle.std.{proofs.Common.{◌-◌, length}, specs.Fn.{CalledAt}}
use Rattle.data_url.proofs.body.Decoding.{TakesSoFar}
use Rattle.data_url.proofs.body.take_within.Given as goal

abbrev pub invariant-pieces : goal.invariant-pieces
invariant-pieces g l = TakesSoFar (CalledAt g.F.FnMut) l.fn.take l.fn.walk l.most l.left l.take l.walk

abbrev pub decreases-pieces : goal.decreases-pieces
decreases-pieces g l = length l.fn.walk.text - l.walk.place
