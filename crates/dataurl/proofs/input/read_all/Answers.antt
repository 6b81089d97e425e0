use Rattle.std.proofs.Common.{rules}
use Rattle.dataurl.proofs.InputLemmas.{reads_end, reads_failed, reads_no_end, reads_no_memory}
use Rattle.dataurl.proofs.input.read_all.Goals as goal

pub returns-in-Ok-eq0 : goal.returns-in-Ok-eq0
returns-in-Ok-eq0 g c =
    reads_end (g.R.Read.remaining c.args.reader.now) (g.R.Read.remaining c.loop.reader)
    (g.R.Read.remaining c.read.new.self) c.loop.bytes c.in-Ok-eq0.field-0 c.read.new.buf c.in-Ok-eq0.field-0-test
    (search rules) c.loop.invariant c.in-Ok-eq0.ensures.bytes

pub returns-in_default : goal.returns-in_default
returns-in_default g c =
    reads_no_memory (g.R.Read.remaining c.args.reader.now) (g.R.Read.remaining c.loop.reader)
    (g.R.Read.remaining c.read.new.self) c.loop.bytes.items _ c.loop.invariant c.in-Ok.ensures.bytes.0

pub returns-in-Err : goal.returns-in-Err
returns-in-Err g c =
    reads_failed (g.R.Read.remaining c.args.reader.now) (g.R.Read.remaining c.loop.reader)
    (g.R.Read.remaining c.read.new.self) c.loop.bytes.items c.loop.invariant c.in-Err.ensures.bytes

pub returns : goal.returns
returns g c = reads_no_end (g.R.Read.remaining c.args.reader.now) (g.R.Read.remaining c.loop.reader) c.loop.bytes.items
    c.loop.invariant
