use Rattle.std.proofs.lemmas.List.{take_rest}
use Rattle.uses.proofs.ReaderLemmas.{reads_more}
use Rattle.uses.proofs.reader.BodyReader.fill.Goals as goal

pub loop-self-preserved : goal.loop-self-preserved
loop-self-preserved c =
    let part = rw (take_rest c.loop-self.output c.loop-self.len, ← c.in-More.is) at c.read_part-written.ensures.reads in
    reads_more c.loop-self.auto.output c.loop-self.invariant part
