use Rattle.std.proofs.Common.{refl, rules}
use Rattle.data_url_c.specs.Forms.{serialised}
use Rattle.data_url_c.proofs.OpenLemmas.{opens, opens_refused}
use Rattle.data_url_c.proofs.open.open.Goals as goal

pub returns-in-Err : goal.returns-in-Err
returns-in-Err c = opens_refused serialised c.args.text.now c.in-Err.refusal c.in-Err.ensures refl c.refused.ensures

pub returns : goal.returns
returns c = opens serialised c.in-Ok-printed_of.mime c.utf8.text c.in-Ok.ensures.1 (search rules)
    (rw c.deref.ensures.value at c.show-answer.ensures)
    (record { answer_is = refl; tail_is = search rules; len_is = search rules; base64_is = search rules })
