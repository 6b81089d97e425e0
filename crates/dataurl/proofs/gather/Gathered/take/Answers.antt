use Rattle.std.proofs.lemmas.Result.{err_from_is_err_and}
use Rattle.dataurl.specs.Steps.Gathering.{waiting_bytes}
use Rattle.dataurl.proofs.GatherLemmas.{gathers_long, gathers_none}
use Rattle.dataurl.proofs.gather.Gathered.take.Goals as goal

pub returns-then-piece-ge-BUFFER_LEN : goal.returns-then-piece-ge-BUFFER_LEN
returns-then-piece-ge-BUFFER_LEN g c = gathers_long c.flush.new.self.len c.flush.new.self.bytes
    c.in_ok-flush.ensures.empty c.in_ok-flush.ensures.wrote c.write_all.ensures

pub returns-in_err-flush : goal.returns-in_err-flush
returns-in_err-flush g c =
    let p = err_from_is_err_and c.from_residual.result c.from_residual.ensures.1 in
    rw (p.1, p.2) (gathers_none (waiting_bytes c.flush.new.self) c.in_err-flush.ensures.wrote)
