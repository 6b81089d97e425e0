use Rattle.std.proofs.Common.{rules}
use Rattle.std.specs.Prelude.{Err}
use Rattle.dataurl.specs.Steps.Gathering.{Flushes, Settles, waiting_bytes}
use Rattle.dataurl.specs.contracts.stream.fn.write_base64.decode_reader as closure
use Rattle.dataurl.specs.declared.fault.Fault.TheVariants.{Read}
use Rattle.dataurl.proofs.StreamLemmas.{decoded_runs, reader_keeps, unread_runs}
use Rattle.dataurl.proofs.stream.write_base64.Goals as goal

pub returns-in-Decoded : goal.returns-in-Decoded
returns-in-Decoded g c =
    let over : closure.Over = record { W = g.row.W; W-Write = g.W.Write; W-Write-dict = g.W.Write-dict } in
    let array = reader_keeps c.decode_reader.ensures (λ f. f.0.ghost_name) (λ f p r f' k. search rules) in
    let writer = reader_keeps c.decode_reader.ensures (λ f. f.1.ghost_name) (λ f p r f' k. search rules) in
    let settled : Settles c.in-Decoded.answer (waiting_bytes c.decode_reader.result.0.now)
    (g.W.Write.contents c.decode_reader.result.1.now) (g.W.Write.contents c.settle.new.writer) c.settle.result =
    search (rules, array, writer, c.settle.ensures) in
    decoded_runs c.decode_reader.ensures c.in-Decoded.is (λ f. g.W.Write.contents (closure.captures over f).writer.now)
    (λ f. waiting_bytes (closure.captures over f).gathered) (λ f p r f' k. search rules) c.new-gathered.ensures
    settled

pub returns-in-ReadFailed : goal.returns-in-ReadFailed
returns-in-ReadFailed g c =
    let over : closure.Over = record { W = g.row.W; W-Write = g.W.Write; W-Write-dict = g.W.Write-dict } in
    let array = reader_keeps c.decode_reader.ensures (λ f. f.0.ghost_name) (λ f p r f' k. search rules) in
    let writer = reader_keeps c.decode_reader.ensures (λ f. f.1.ghost_name) (λ f p r f' k. search rules) in
    let flushed : Flushes (waiting_bytes c.decode_reader.result.0.now) (Err Read)
    (g.W.Write.contents c.decode_reader.result.1.now) (g.W.Write.contents c.flush_before.new.writer)
    c.flush_before.result = search (rules, array, writer, c.flush_before.ensures) in
    unread_runs c.decode_reader.ensures c.in-ReadFailed.is
    (λ f. g.W.Write.contents (closure.captures over f).writer.now)
    (λ f. waiting_bytes (closure.captures over f).gathered) (λ f p r f' k. search rules) c.new-gathered.ensures
    flushed
