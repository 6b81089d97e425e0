-- One of the kept pairs has the name exactly if one of the rest has it.
use Rattle.std.{proofs.Common.{◌≡◌, drop, map}, specs.Char.{to_ascii_lowercase}, specs.Str.{chars}}
use Rattle.data_url.specs.{Mime.{has_name}, Steps.Few.{sliced_pair, sliced_pairs}}
use Rattle.data_url.proofs.mime.few.FewParameters.has_name.Given as goal

abbrev pub invariant-loop-slice : goal.invariant-loop-slice
invariant-loop-slice l =
    has_name (map to_ascii_lowercase (chars l.name)) (map (λ s. sliced_pair s) (drop l.slice-index l.slice-items))
    ≡ has_name (map to_ascii_lowercase (chars l.name)) (sliced_pairs l.self)
