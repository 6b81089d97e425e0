-- The bits that are left are those of pairs of the row that are not compared yet.
use Rattle.std.{proofs.Common.{map}, specs.Char.{to_ascii_lowercase}, specs.Str.{chars}}
use Rattle.data_url.specs.Steps.Kept.{first_of, pairs_of}
use Rattle.data_url.proofs.mime.FirstNames.{NoneUnset}
use Rattle.data_url.proofs.mime.kept.KeptParameters.is_in_row.Given as goal

abbrev pub invariant-loop-left : goal.invariant-loop-left
invariant-loop-left l = NoneUnset (map to_ascii_lowercase (chars l.name)) (first_of (pairs_of l.self)) l.at l.left

abbrev pub decreases-loop-left : goal.decreases-loop-left
decreases-loop-left l = l.left
