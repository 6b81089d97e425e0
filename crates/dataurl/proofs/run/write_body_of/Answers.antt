use Rattle.std.proofs.Common.{rules}
use Rattle.dataurl.specs.Steps.Gathering.{Settles, waiting_bytes}
use Rattle.dataurl.specs.contracts.run.fn.write_body_of.hand_out as closure
use Rattle.dataurl.proofs.ClosureLemmas.{body_keeps, body_streams}
use Rattle.dataurl.proofs.run.write_body_of.Goals as goal

pub returns : goal.returns
returns g c =
    let over : closure.Over = record { W = g.row.W; W-Write = g.W.Write; W-Write-dict = g.W.Write-dict } in
    let array = body_keeps c.hand_out.ensures (λ f. f.0.ghost_name) (λ f p r f' k. search rules) in
    let writer = body_keeps c.hand_out.ensures (λ f. f.1.ghost_name) (λ f p r f' k. search rules) in
    let settled : Settles c.hand_out.new.answer (waiting_bytes c.hand_out.result.0.now)
    (g.W.Write.contents c.hand_out.result.1.now) (g.W.Write.contents c.settle.new.writer) c.settle.result =
    search (rules, array, writer, c.settle.ensures) in
    body_streams c.hand_out.ensures (λ f. g.W.Write.contents (closure.captures over f).writer.now)
    (λ f. waiting_bytes (closure.captures over f).gathered) (λ f p r f' k. search rules) c.new-gathered.ensures
    settled
