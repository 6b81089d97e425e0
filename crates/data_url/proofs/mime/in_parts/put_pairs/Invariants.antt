-- The parts so far are written.
use Rattle.std.proofs.Common.{map}
use Rattle.data_url.specs.MimeType.{pair_of}
use Rattle.data_url.proofs.mime.PartTexts.{PutsPairs}
use Rattle.data_url.proofs.mime.in_parts.put_pairs.Given as goal

abbrev pub invariant-loop-name : goal.invariant-loop-name
invariant-loop-name l =
    PutsPairs (map (λ p. pair_of p) l.pairs) l.name-index l.fn.output l.at l.output l.end
