-- What a call for the next part of a body does, from what the library's call does.
use Rattle.std.proofs.Common.{List, ap, arith, false, length, not, sym, take, take-take, ◌==◌, ◌∙◌, ◌≡◌, ◌≤◌, ℕ}
use Rattle.data_url.specs.{Base64.{Kind}, Fetch.{Bad, Good}}
use Rattle.data_url.specs.Parts.{EndsAt, MovesOn, left_over_text, prepend, rest_of}
use Rattle.data_url.specs.declared.forgiving_base64.InvalidBase64Details.TheVariants.{AlphabetSymbolAfterPadding}
use Rattle.data_url.specs.declared.forgiving_base64.InvalidBase64Details.TheVariants.{LoneAlphabetSymbol, Padding}
use Rattle.data_url.specs.declared.forgiving_base64.InvalidBase64Details.TheVariants.{UnexpectedSymbol}
use Rattle.data_url.specs.declared.forgiving_base64.left_over.LeftOver.{LeftOver}
use Rattle.data_url.specs.declared.parts.body.Body.{Body}
use Rattle.data_url_c.specs.Answers.{status_of_kind}
use Rattle.data_url_c.specs.Bodies.{ContinuesOrEnds, EndsAs, IsGoodBody, StepsBody, body_left, ended, more}
use Rattle.data_url_c.specs.Parts.{waiting_text}
use Rattle.data_url.specs.Parts.{WritesFront}
use Rattle.data_url_c.specs.Steps.{HoldsLeft, IsBodyOf}
use Rattle.data_url_c.specs.declared.body.DataUrlBody.{DataUrlBody}
use Rattle.data_url_c.specs.declared.base64.DataUrlBase64.{DataUrlBase64}
use Rattle.data_url_c.specs.declared.answer.DataUrlStep.{DataUrlStep}

-- what a state holds, as a text
left_text_is : {s : DataUrlBase64} {left : LeftOver} → HoldsLeft s left → left_over_text left ≡ waiting_text s
left_text_is {s} {left} h = cc (h.symbols_are, h.padding_is)

-- the parts of what is left over have its symbols
pub left_in_parts : (left : LeftOver) → take left.pending (take 3 left.symbols) ≡ take left.pending left.symbols
left_in_parts left = take-take left.pending 3 left.symbols left.few_pending

-- the rest of the body that a state stands for
rest_left : {tail : List ℕ} {s : DataUrlBody} {b : Body} → IsBodyOf tail s b → rest_of b ≡ body_left tail s
rest_left {tail} {s} {b} h = cc (h.tail_is, h.base64_is, h.place_is, left_text_is h.left)

-- a call with a good state and enough room
steps : {tail before after : List ℕ} {old new : DataUrlBody} {r : DataUrlStep} → IsGoodBody tail old → 8 ≤ length before
    → ContinuesOrEnds tail old new before after r.len r.status → StepsBody tail old new before after r
steps good room goes = record {
  bad = λ no. absurd (no good);
  small = λ g l. absurd (omega arith);
  goes = λ g l. goes;
}

-- the body goes on
pub steps_more : {tail before after bytes : List ℕ} {old new : DataUrlBody} {b c : Body} {r : DataUrlStep}
    → IsBodyOf tail old b
    → 8 ≤ length before → WritesFront bytes before after r.len → MovesOn b (length before) bytes c → new.from ≡ c.place
    → new.is_base64 ≡ old.is_base64 → HoldsLeft new.left c.left_over → r.status ≡ 11
    → StepsBody tail old new before after r
steps_more {tail} {before} {after} {bytes} {old} {new} {b} {c} {r} h room wrote moves at flag left status =
    let same : c.tail.now ≡ tail = moves.tail_stays ∙ h.tail_is in
    let good : IsGoodBody tail new = record {
      left = left.good;
      within = omega (arith, c.within, ap length same, at);
      none_left_over = λ z.
          let off : c.base64 ≡ false = moves.base64_stays ∙ h.base64_is ∙ ap (λ n. not (n == 0)) (sym flag ∙ z) in
          let none = c.none_left_over off in (left.pending_is ∙ none.0, left.padding_is ∙ none.1);
    } in
    let is : IsBodyOf tail new c = record {
      good = good;
      tail_is = same;
      base64_is = cc (moves.base64_stays, h.base64_is, flag);
      place_is = cc (at);
      left = left;
    } in
    let rest : body_left tail old ≡ prepend bytes (body_left tail new) = cc (
      rest_left h,
      moves.rest_is,
      rest_left
          is,
    ) in
    steps h.good room (rw status (more wrote good flag (omega (arith, moves.forward (omega arith), at, h.place_is))
    rest))

-- a state that later calls refuse
spent : {tail : List ℕ} {s : DataUrlBody} → s.left.pending ≡ 255 → IsGoodBody tail s → ⊥
spent {tail} {s} e good = absurd (let left = good.left in grind (arith, e))

-- the body has ended
pub steps_end : {tail before after bytes : List ℕ} {old new : DataUrlBody} {b : Body} {r : DataUrlStep}
    → IsBodyOf tail old b
    → 8 ≤ length before → WritesFront bytes before after r.len → rest_of b ≡ Good bytes → EndsAt b new.from
    → new.left.pending ≡ 255 → r.status ≡ 0 → StepsBody tail old new before after r
steps_end {tail} {before} {after} {bytes} {old} {new} {b} {r} h room wrote rest end left status =
    let all : body_left tail old ≡ Good bytes = cc (rest_left h, rest) in
    let ends : EndsAs (body_left tail old) before after r.status r.len = rw all (status, wrote) in
    steps h.good room (ended ends (λ e. rw (h.tail_is, h.place_is) at end.fragment_is) (spent left))

-- the status of a fault is not that of success
not_done : (kind : Kind) → status_of_kind kind ≡ 0 → ⊥
not_done Padding e = omega arith
not_done LoneAlphabetSymbol e = omega arith
not_done AlphabetSymbolAfterPadding e = omega arith
not_done (UnexpectedSymbol byte) e = omega arith

-- the base64 has a fault
pub steps_fault : {tail before after bytes : List ℕ} {old new : DataUrlBody} {b : Body} {kind : Kind} {r : DataUrlStep}
    → IsBodyOf tail old b → 8 ≤ length before → WritesFront bytes before after r.len → rest_of b ≡ Bad bytes kind
    → new.left.pending ≡ 255 → r.status ≡ status_of_kind kind → StepsBody tail old new before after r
steps_fault {tail} {before} {after} {bytes} {old} {new} {b} {kind} {r} h room wrote rest left status =
    let all : body_left tail old ≡ Bad bytes kind = cc (rest_left h, rest) in
    let ends : EndsAs (body_left tail old) before after r.status r.len = rw all (status, wrote) in
    steps h.good room (ended ends (λ e. absurd (not_done kind (sym status ∙ e))) (spent left))
