-- The bytes so far, and the value of the bytes from the place on, are the value of the whole text.
use Rattle.std.proofs.Common.{◌-◌, length}
use Rattle.data_url.proofs.mime.TokenTexts.{Unescaping}
use Rattle.data_url.proofs.mime.values.unescaped.Given as goal

abbrev pub invariant-loop-at : goal.invariant-loop-at
invariant-loop-at l = Unescaping l.bytes l.value.items l.at l.len

abbrev pub decreases-loop-at : goal.decreases-loop-at
decreases-loop-at l = length l.bytes - l.at
