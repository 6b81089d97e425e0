-- What was read so far spells the first bytes of the scheme.
use Rattle.std.proofs.Common.{take}
use Rattle.data_url.proofs.split.Cuts.{Spells}
use Rattle.data_url.proofs.split.after_respelled_scheme.Given as goal

abbrev pub invariant-loop-place : goal.invariant-loop-place
invariant-loop-place l = Spells (take l.place l.text) l.matched
