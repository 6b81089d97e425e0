use Rattle.std.proofs.Common.{Err, arith, ◌∙◌}
use Rattle.std.proofs.lemmas.List.{take_at}
use Rattle.data_url_c.specs.Gives.{GivesBody}
use Rattle.data_url_c.proofs.GivenLemmas.{accepted, answers, body_refused}
use Rattle.data_url_c.proofs.WholeLemmas.{answers_by, answers_into}
use Rattle.data_url_c.specs.declared.answer.Refusal.TheVariants.{OutOfMemory}
use Rattle.data_url_c.proofs.body.body.Goals as goal

pub returns-in-Err : goal.returns-in-Err
returns-in-Err c =
    let g = body_refused c.args.text.now c.in-Err.refusal c.in-Err.ensures in
    answers (GivesBody c.args.text.now) (Err c.in-Err.refusal) g c.answer.ensures

pub returns-then-tail_len-out : goal.returns-then-tail_len-out
returns-then-tail_len-out c = answers_into c.in-Ok.url c.args.out.now _ _ _ c.args.alloc c.in-Ok.ensures.0
    c.in-Ok.ensures.1 (omega arith) (c.decode_into-status.auto.out) c.decode_into-status.ensures

pub returns-in_default : goal.returns-in_default
returns-in_default c = answers (GivesBody c.args.text.now) (Err OutOfMemory)
    (c.in-Ok.ensures.0, accepted c.args.text.now c.in-Ok.ensures.1.staged_is) c.answer-in_default.ensures

pub returns : goal.returns
returns c =
    let same = c.deref.ensures.value ∙ take_at c.decode_into-status-2.new.out _ _ (omega arith) in
    answers_by c.in-Ok.url _ _ _ _ c.args.alloc c.in-Ok.ensures.0 c.in-Ok.ensures.1 (omega arith) (omega arith)
    c.decode_into-status-2.ensures (rw same at c.show.ensures)
