-- The parts so far are written.
use Rattle.std.proofs.Common.{map}
use Rattle.data_url.specs.Steps.Few.{sliced_pair}
use Rattle.data_url.proofs.mime.PartTexts.{PutsPairs}
use Rattle.data_url.proofs.mime.in_parts.put_slices.Given as goal

abbrev pub invariant-loop-slice : goal.invariant-loop-slice
invariant-loop-slice l = PutsPairs (map (λ s. sliced_pair s) l.slices) l.slice-index l.fn.output l.at l.output l.end
