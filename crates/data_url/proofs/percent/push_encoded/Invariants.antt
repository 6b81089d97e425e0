-- The bytes before the rest are written.
use Rattle.std.proofs.Common.{◌≡◌, ◌++◌, length, string_bytes}
use Rattle.data_url.specs.Steps.Sets.{in_set}
use Rattle.data_url.proofs.percent.Encoding.{encoded}
use Rattle.data_url.proofs.percent.push_encoded.Given as goal

abbrev pub invariant-loop-rest : goal.invariant-loop-rest
invariant-loop-rest l = string_bytes l.text ++ encoded (in_set l.fn.set) l.rest
    ≡ string_bytes l.fn.text ++ encoded (in_set l.fn.set) l.fn.bytes

abbrev pub decreases-loop-rest : goal.decreases-loop-rest
decreases-loop-rest l = length l.rest
