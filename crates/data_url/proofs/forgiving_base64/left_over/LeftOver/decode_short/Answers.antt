use Rattle.std.proofs.Common.{append-nil, take}
use Rattle.data_url.specs.Steps.Holding.{Completes, left_state}
use Rattle.data_url.proofs.forgiving_base64.Holding.{completes_more}
use Rattle.data_url.proofs.forgiving_base64.Steps.{completes_none, sound}
use Rattle.data_url.proofs.forgiving_base64.left_over.LeftOver.decode_short.Goals as goal
use Rattle.std.proofs.Common.{refl}

pub returns-clause-read : goal.returns-clause-read
returns-clause-read c =
    let i = c.if-self-gt0 in
    let d = left_state c.args.self.now in
    let read : Completes d (take i.at.0 c.args.text.now) (take i.at.1 i.bytes) (left_state i.self) = elim i.branch [
      | goal.then-self-gt0 w ↦ rw (w.self-is, w.at-is) (completes_none (sound c.args.self.now) refl)
      | goal.else-self-gt0+then-text-lt-ROW w ↦ rw (w.self-is, w.at-is, w.bytes-is) w.decode_first_row.ensures.read
      | goal.else-self-gt0+else-text-lt-ROW w ↦ rw (w.self-is, w.at-is, w.bytes-is) w.decode_lines.ensures.read
    ] in
    rw (append-nil (take i.at.1 i.bytes))
    at (completes_more c.args.text.now i.at.0 c.read_end.result read c.read_end.ensures.read)
