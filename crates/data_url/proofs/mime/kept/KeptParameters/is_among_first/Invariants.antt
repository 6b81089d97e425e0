-- No pair of the rows so far has the name.
use Rattle.std.{proofs.Common.{◌-◌, map}, specs.Char.{to_ascii_lowercase}, specs.Str.{chars}}
use Rattle.data_url.specs.Steps.Kept.{AreUnnamed, first_of, pairs_of}
use Rattle.data_url.proofs.mime.kept.KeptParameters.is_among_first.Given as goal

abbrev pub invariant-loop-at : goal.invariant-loop-at
invariant-loop-at l = AreUnnamed (map to_ascii_lowercase (chars l.name)) (first_of (pairs_of l.self)) 0 l.at

abbrev pub decreases-loop-at : goal.decreases-loop-at
decreases-loop-at l = l.len - l.at
