use Rattle.std.proofs.Common.{ap, arith, length, length-drop, ◌+◌, ◌∙◌}
use Rattle.data_url.proofs.escapes.BlockMarks.{clear_then, looking_end, looking_mark, looking_on, looking_rest}
use Rattle.data_url.proofs.escapes.BlockMarks.{looking_whole, mark_then}
use Rattle.data_url.proofs.escapes.marks.Block.next_mark.Goals as goal

pub mark_from-requires-in-loop-place-clause-looking : goal.mark_from-requires-in-loop-place-clause-looking
mark_from-requires-in-loop-place-clause-looking c =
    let i = c.loop-place.invariant in
    let look = c.look_bytes-bytes.ensures in
    let total = ap length i.on.text_stays in
    looking_whole {s' = c.look_bytes-bytes.new.self} c.look_bytes-bytes.result i.looking i.unseen (omega (arith, total))
    look.text look.looks look.bytes c.marks_of.ensures c.between.ensures

pub returns-in-Some-mark_from-clause-looking : goal.returns-in-Some-mark_from-clause-looking
returns-in-Some-mark_from-clause-looking c =
    let i = c.loop-place.invariant in
    let look = c.look_bytes-bytes.ensures in
    let total = ap length i.on.text_stays in
    looking_mark (looking_whole {s' = c.look_bytes-bytes.new.self} c.look_bytes-bytes.result i.looking i.unseen
    (omega (arith, total)) look.text look.looks look.bytes c.marks_of.ensures c.between.ensures)
    c.in-Some-mark_from.ensures.1

pub returns-in-Some-mark_from-clause-at_end : goal.returns-in-Some-mark_from-clause-at_end
returns-in-Some-mark_from-clause-at_end c = λ l m.
    let i = c.loop-place.invariant in
    let look = c.look_bytes-bytes.ensures in
    let total = ap length i.on.text_stays in
    let bound = c.in-Some-mark_from.ensures.1.within in
    looking_on c.args.end (looking_whole {s' = c.look_bytes-bytes.new.self} c.look_bytes-bytes.result i.looking i.unseen
    (omega (arith, total)) look.text look.looks look.bytes c.marks_of.ensures c.between.ensures) (omega arith)
    (omega (arith, bound))

pub returns-in-Some-mark_from-clause-mark : goal.returns-in-Some-mark_from-clause-mark
returns-in-Some-mark_from-clause-mark c =
    let i = c.loop-place.invariant in
    mark_then (c.look_bytes-bytes.ensures.text ∙ i.on.text_stays) i.forward i.clear c.in-Some-mark_from.ensures.1

pub loop-place-preserved : goal.loop-place-preserved
loop-place-preserved c =
    let i = c.loop-place.invariant in
    let look = c.look_bytes-bytes.ensures in
    let total = ap length i.on.text_stays in
    let here = looking_whole {s' = c.look_bytes-bytes.new.self} c.look_bytes-bytes.result i.looking i.unseen
    (omega (arith, total)) look.text look.looks look.bytes c.marks_of.ensures c.between.ensures in
    record {
      looking = looking_on (c.loop-place.place + 64) here (omega arith) (omega (arith, total, ap length look.text));
      at_end = λ l m. looking_on c.args.end here (omega arith) (omega (arith, total, ap length look.text));
      on = grind arith;
      unseen = rw c.between.ensures (omega arith);
      forward = omega (arith, i.forward);
      clear = clear_then (c.look_bytes-bytes.ensures.text ∙ i.on.text_stays) i.clear
          (rw c.between.ensures at c.in_default-mark_from.ensures);
    }

pub returns-in-Some-mark_from-2-clause-looking : goal.returns-in-Some-mark_from-2-clause-looking
returns-in-Some-mark_from-2-clause-looking c =
    let i = c.loop-place.invariant in
    let look = c.look_rest-rest.ensures in
    let total = ap length i.on.text_stays in
    looking_mark (looking_rest {s' = c.look_rest-rest.new.self} c.look_rest-rest.result.now i.looking i.unseen look.text
    (omega (arith, total)) look.bytes c.last_marks.ensures look.looks c.between-2.ensures)
    c.in-Some-mark_from-2.ensures.1

pub returns-in-Some-mark_from-2-clause-at_end : goal.returns-in-Some-mark_from-2-clause-at_end
returns-in-Some-mark_from-2-clause-at_end c = λ l m.
    let i = c.loop-place.invariant in
    let look = c.look_rest-rest.ensures in
    let total = ap length i.on.text_stays in
    let bound = c.in-Some-mark_from-2.ensures.1.within in
    looking_on c.args.end (looking_rest {s' = c.look_rest-rest.new.self} c.look_rest-rest.result.now i.looking i.unseen
    look.text (omega (arith, total)) look.bytes c.last_marks.ensures look.looks c.between-2.ensures) (omega arith)
    (omega (arith, bound))

pub returns-in-None-clause-looking : goal.returns-in-None-clause-looking
returns-in-None-clause-looking c =
    let i = c.loop-place.invariant in
    let look = c.look_rest-rest.ensures in
    let total = ap length i.on.text_stays in
    looking_end (looking_rest {s' = c.look_rest-rest.new.self} c.look_rest-rest.result.now i.looking i.unseen look.text
    (omega (arith, total)) look.bytes c.last_marks.ensures look.looks c.between-2.ensures)
    (rw c.between-2.ensures (omega arith))

pub returns-in-None-clause-at_end : goal.returns-in-None-clause-at_end
returns-in-None-clause-at_end c = λ l m.
    let i = c.loop-place.invariant in
    let look = c.look_rest-rest.ensures in
    let total = ap length i.on.text_stays in
    looking_on c.args.end (looking_rest {s' = c.look_rest-rest.new.self} c.look_rest-rest.result.now i.looking i.unseen
    look.text (omega (arith, total)) look.bytes c.last_marks.ensures look.looks c.between-2.ensures) (omega arith)
    (omega (
      arith,
      rw c.between-2.ensures at m,
      ap length look.text,
      ap length look.bytes,
      length-drop c.loop-place.place
          c.loop-place.source.text.now,
    ))

pub returns-in-Some-clause-at_end : goal.returns-in-Some-clause-at_end
returns-in-Some-clause-at_end c = λ l m. looking_on c.args.end c.requires l (omega (arith, c.in-Some.ensures.1.within))

pub loop-place-init : goal.loop-place-init
loop-place-init c = elim c.if-place-self.branch [
  | goal.then-place-self+in_default w ↦ rw w.place-is (record {
    looking = looking_end c.requires (omega arith);
    at_end = λ l m. looking_on c.args.end c.requires l (omega (arith, c.requires.block.end_le));
    on = grind arith;
    unseen = omega arith;
    forward = omega arith;
    clear = w.in_default.ensures;
  })
  | goal.else-place-self w ↦ rw w.place-is (record {
    looking = c.requires;
    at_end = λ l m. looking_on c.args.end c.requires l (omega (arith, c.requires.within));
    on = grind arith;
    unseen = w.if-place-self.false;
    forward = omega arith;
    clear = λ k l m. absurd (omega arith);
  })
]
