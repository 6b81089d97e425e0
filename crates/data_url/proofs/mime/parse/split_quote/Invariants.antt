-- The closing quote is not before this place, at which there is a '"' or a '\'.
use Rattle.std.proofs.Common.{◌-◌, length}
use Rattle.data_url.specs.Steps.Parsing.{Quoting}
use Rattle.data_url.proofs.mime.parse.split_quote.Given as goal

abbrev pub invariant-loop-place : goal.invariant-loop-place
invariant-loop-place l = Quoting l.bytes l.place

abbrev pub decreases-loop-place : goal.decreases-loop-place
decreases-loop-place l = length l.bytes - l.place
