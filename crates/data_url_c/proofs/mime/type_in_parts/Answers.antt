use Rattle.std.proofs.Common.{Err, Ok, arith, refl}
use Rattle.data_url.specs.Parts.{parts_of}
use Rattle.data_url_c.specs.Gives.{GivesTypeInParts}
use Rattle.data_url_c.specs.declared.answer.Refusal.TheVariants.{NotAMimeType, OutOfMemory}
use Rattle.data_url_c.proofs.GivenLemmas.{answers, vec_of}
use Rattle.data_url_c.proofs.mime.type_in_parts.Goals as goal

pub returns-in-Ok : goal.returns-in-Ok
returns-in-Ok c =
    let h = c.in-Ok.ensures in
    let w = h.written in
    let text = vec_of c.args.alloc (parts_of h.mime) (omega (arith, w.len_is, w.small)) in
    answers (GivesTypeInParts c.args.text.now) (Ok text) (h.mime, c.utf8.text, h.parses, refl) (c.written.ensures _ _ w)

pub returns-in-Err-Parsing : goal.returns-in-Err-Parsing
returns-in-Err-Parsing c =
    let h = rw c.in-Err-Parsing.field-0-is at c.in-Err-Parsing.ensures in
    answers (GivesTypeInParts c.args.text.now) (Err NotAMimeType) (c.utf8.text, h.0) (rw h.1 at c.answer.ensures)

pub returns-in-Err-OutOfMemory : goal.returns-in-Err-OutOfMemory
returns-in-Err-OutOfMemory c =
    let h = rw c.in-Err-OutOfMemory.field-0-is at c.in-Err-OutOfMemory.ensures in
    answers (GivesTypeInParts c.args.text.now) (Err OutOfMemory)
    (c.utf8.text, λ none. none h.0 h.1) (rw h.3 at c.answer-in-Err-OutOfMemory.ensures)
