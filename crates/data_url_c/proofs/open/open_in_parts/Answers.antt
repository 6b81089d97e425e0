use Rattle.std.proofs.Common.{arith, refl, rules}
use Rattle.data_url.specs.Parts.{parts_of}
use Rattle.data_url_c.proofs.GivenLemmas.{vec_of}
use Rattle.data_url_c.proofs.OpenLemmas.{header_refused, opens, opens_refused}
use Rattle.data_url_c.proofs.open.open_in_parts.Goals as goal

pub returns : goal.returns
returns c =
    let h = c.in-Ok.ensures in
    let w = h.written in
    let text = vec_of c.args.alloc (parts_of h.mime) (omega (arith, w.len_is, w.small)) in
    opens parts_of text c.utf8.text h.url_is refl (c.written-answer.ensures _ _ w)
    (record { answer_is = refl; tail_is = search rules; len_is = refl; base64_is = refl })

pub returns-in-Err : goal.returns-in-Err
returns-in-Err c =
    let h = header_refused c.refusal_of.result c.utf8.text c.in-Err.error c.in-Err.ensures c.refusal_of.ensures in
    opens_refused parts_of c.args.text.now c.refusal_of.result h.0 h.1 c.refused.ensures
