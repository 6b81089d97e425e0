use Rattle.std.specs.Io.KnownBytes.{Consumes}
use Rattle.dataurl.proofs.input.read_all.Given as goal

abbrev pub invariant-loop : goal.invariant-loop
invariant-loop g l = Consumes (g.R.Read.remaining l.fn.reader) (g.R.Read.remaining l.reader) l.bytes.items
