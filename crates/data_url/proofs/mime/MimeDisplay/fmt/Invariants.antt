-- What was added and what is left to add are together the whole text.
use Rattle.std.proofs.Common.{drop, encode_utf8_all}
use Rattle.data_url.specs.{Mime.{printed}, MimeType.{record_of}, Steps.Printing.{IsHeld}}
use Rattle.data_url.proofs.mime.RoundTrips.{Prints, pairs_text}
use Rattle.data_url.proofs.mime.MimeDisplay.fmt.Given as goal

abbrev pub invariant-loop-name : goal.invariant-loop-name
invariant-loop-name g l = IsHeld l.buffer × Prints g.W.Write.write_str_gives l.fn.f
    (pairs_text (drop l.name-index l.self.parameters.items)) (encode_utf8_all (printed (record_of l.self))) l.f l.buffer
