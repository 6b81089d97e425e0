-- What a call for the next part of a body leaves. For the functions that write bodies to outputs.
use Rattle.std.proofs.Common.{Bool, Err, List, None, Ok, Result, [], ap, append-nil, append_assoc}
use Rattle.std.proofs.Common.{arith, drop}
use Rattle.std.proofs.Common.{drop-drop, false, inl, inr, length, length-drop, length-take, subst}
use Rattle.std.proofs.Common.{min, true, ◌*◌, ◌+◌, ◌++◌, ◌<◌}
use Rattle.std.proofs.Common.{◌∙◌, ◌≡◌, ◌≤◌, ℕ}
use Rattle.std.proofs.{lemmas.Bool.{cases_lt}, lemmas.List.{drop_all}}
use Rattle.std.specs.declared.convert.Infallible.{Infallible}
use Rattle.data_url.specs.Base64.{Kind}
use Rattle.data_url.specs.Fetch.{Bad, Good, Outcome, outcome, plain_body}
use Rattle.data_url.specs.Parts.{EndsAt, HasNoRoom, IsFitting, body_after, left_over_text, prepend}
use Rattle.data_url.specs.Run.{IsRun, joined_pieces, refusal}
use Rattle.data_url.specs.Decoder.{State, left_over}
use Rattle.data_url.specs.Steps.Parts.{DecodesPartOf, DecodesWithin, HoldsLeft, IsResumed, LeavesAt, LeavesPart}
use Rattle.data_url.specs.Steps.Parts.{StopsAt}
use Rattle.data_url.specs.Steps.Tail.{IsBodyEnd, rest_fragment}
use Rattle.data_url.specs.Url.{after, number_sign}
use Rattle.data_url.specs.declared.body.Stop.TheVariants.{Ended, Paused}
use Rattle.data_url.specs.declared.body.Stop.{Stop}
use Rattle.data_url.specs.declared.forgiving_base64.DecodeError.TheVariants.{InvalidBase64, WriteError}
use Rattle.data_url.specs.declared.forgiving_base64.DecodeError.{DecodeError}
use Rattle.data_url.specs.declared.forgiving_base64.left_over.LeftOver.{LeftOver}
use Rattle.data_url.specs.declared.parts.body.Body.{Body}
use Rattle.data_url.proofs.escapes.Walking.{hash_at}
use Rattle.data_url.proofs.{parts.Outputs.{Passes, no_refusal, passes_of}, runs.Runs.{match_at_none, match_map}}

-- More bytes before an outcome

-- some, and more before these
pub prepend_more : (front bytes : List ℕ) (o : Outcome) → prepend front (prepend bytes o) ≡ prepend (front ++ bytes) o
prepend_more front bytes (Good rest) = cc (append_assoc front bytes rest)
prepend_more front bytes (Bad rest kind) = cc (append_assoc front bytes rest)

-- A body that is not base64

-- its last bytes
pub plain_good : (s : LeftOver) (tail : List ℕ) {bytes rest : List ℕ} → left_over_text s ≡ []
    → plain_body tail ≡ bytes ++ rest → rest ≡ [] → body_after false s tail ≡ Good bytes
unfolding outcome
plain_good s tail {bytes} {rest} none e over = cc (e, none, over, append-nil bytes)

-- some of its bytes
pub plain_goes : (s : LeftOver) (tail bytes : List ℕ) (place : ℕ) → left_over_text s ≡ []
    → plain_body tail ≡ bytes ++ plain_body (drop place tail)
    → body_after false s tail ≡ prepend bytes (body_after false s (drop place tail))
unfolding outcome
plain_goes s tail bytes place none e = cc (e, none)

-- A body of base64

-- a decoder that holds what is left over has its text
held_text : {F : Type 0} {s : LeftOver} {d : State F} → HoldsLeft s d → left_over d ≡ left_over_text s
held_text {F} {s} {d} h = cc (h.symbols_are, h.padding_is)

-- where a decoder stopped, in terms of what was left over, and is
leaves_part : {F E : Type 0} (s s' : LeftOver) (d d' : State F) (tail : List ℕ) (most : ℕ) (bytes : List ℕ)
    (r : Result Stop (DecodeError E)) → left_over d ≡ left_over_text s → left_over d' ≡ left_over_text s'
    → StopsAt d tail most bytes r d' → LeavesPart s tail most bytes s' r
leaves_part s s' d d' tail most bytes (Ok (Paused place)) e e' k = record {
  within = k.within;
  goes = λ l. elim (cases_lt 0 most) [
    | inl some ↦ k.goes some
    | inr none ↦ absurd (omega (arith, l, k.some_left))
  ];
  some_left = k.some_left;
  after_is = k.after_is;
  rest_is = rw (e, e') at k.rest_is;
  none_left_over = λ e. absurd (cc);
}
leaves_part s s' d d' tail most bytes (Ok (Ended place)) e e' k = (rw e at k.0, k.1)
leaves_part s s' d d' tail most bytes (Err (InvalidBase64 kind)) e e' k = rw e at k
leaves_part s s' d d' tail most bytes (Err (WriteError x)) e e' k = k

-- a decoder that goes on after what is left over decodes a body
pub decodes_part : {F E : Type 0} {step : F → List ℕ → Result (Unit {0}) E → F → Type 0} {f : F} {d d' : State F}
    {s s' : LeftOver} {tail : List ℕ} {most : ℕ} {r : Result Stop (DecodeError E)} → IsResumed s f d
    → DecodesWithin step d tail most r d' → HoldsLeft s' d' → DecodesPartOf step f s tail most s' r d'.closure
decodes_part {step = step} {d = d} {d' = d'} {s = s} {s' = s'} {tail = tail} {most = most} {r = r} h k left =
    let size : length d.symbols ≤ s.pending = omega (
      arith,
      ap length h.holds.symbols_are,
      length-take s.pending
          s.symbols,
    ) in
    record {
      run = k.run;
      ran = subst (λ x. IsRun step x k.run d'.closure) h.closure_is k.ran;
      gave = match_map (refusal k.run) _ _ _ _
          (λ t. (
            omega (arith, t.0, size),
            leaves_part s s' d d' tail most (joined_pieces k.run) r (held_text h.holds) (held_text left) t.1,
          ))
          (λ e t. t.answer)
          k.gave;
    }

module _ {F : Type 0} {step : F → List ℕ → Result (Unit {0}) Infallible → F → Type 0} {f g : F} {s s' : LeftOver}
    {tail : List ℕ} {most : ℕ} {r : Result Stop (DecodeError Infallible)} where
  -- a closure that cannot fail was called with some bytes
  pub part_passed : (d : DecodesPartOf step f s tail most s' r g) → Passes step f (joined_pieces d.run) g
  part_passed d = passes_of d.run d.ran (no_refusal (refusal d.run))

  -- these are not more than can be decoded, and decoding stopped after them
  pub part_gave : (d : DecodesPartOf step f s tail most s' r g)
      → (4 * length (joined_pieces d.run) ≤ 3 * (s.pending + most)) × LeavesPart s tail most (joined_pieces d.run) s' r
  part_gave d = match_at_none _ _ _ (no_refusal (refusal d.run)) d.gave

-- of an output of four bytes or more, at least one byte is decoded, if there is one
fitting_some : (pending len room n : ℕ) → IsFitting pending len room n → pending ≤ 3 → 4 ≤ room → min 1 len ≤ n
fitting_some pending len room n h few l = grind (arith)

-- if not all of a tail is decoded, an output has no room for it
fitting_left : (pending len room n : ℕ) → IsFitting pending len room n → n < len → HasNoRoom true pending len room
fitting_left pending len room n h few = grind (arith)

-- an output of four bytes is enough to go on
pub leaves_at : (s s' : LeftOver) (tail : List ℕ) (most room : ℕ) (bytes : List ℕ) (stop : Stop) → s.pending ≤ 3
    → IsFitting s.pending (length tail) room most
    → LeavesAt true s tail (min 1 (length tail) ≤ most) (most < length tail) bytes s' (Ok stop)
    → LeavesAt true s tail (4 ≤ room) (HasNoRoom true s.pending (length tail) room) bytes s' (Ok stop)
leaves_at s s' tail most room bytes (Paused place) few fitting k = record {
  within = k.within;
  goes = λ l. k.goes (fitting_some s.pending (length tail) room most fitting few l);
  some_left = fitting_left s.pending (length tail) room most fitting k.some_left;
  after_is = k.after_is;
  rest_is = k.rest_is;
  none_left_over = k.none_left_over;
}
leaves_at s s' tail most room bytes (Ended place) few fitting k = k

-- Bodies

-- a body ends at a place in the rest of its tail
pub ends_at : (b : Body) (place : ℕ) → IsBodyEnd (drop b.place b.tail.now) place → EndsAt b (b.place + place)
ends_at b place h = elim (cases_lt place (length (drop b.place b.tail.now))) [
  | inl l ↦
      let hash = hash_at h (λ e. absurd (omega arith)) in
      record {
        forward = omega arith;
        fragment_is = rw hash.2 (omega (arith, length-drop b.place b.tail.now), grind (arith, drop-drop));
      }
  | inr l ↦
      let none : after number_sign (drop b.place b.tail.now) ≡ None =
      h.after_is ∙ ap rest_fragment (drop_all place (drop b.place b.tail.now) l) in
      record {
        forward = omega arith;
        fragment_is = rw none (omega (arith, b.within, h.within, length-drop b.place b.tail.now));
      }
]

-- what is known where decoding ended
pub stops_ended : (flag : Bool) (s s' : LeftOver) {tail rest : List ℕ} (Could Left : Type 0) {bytes : List ℕ}
    {r : Result Stop Kind} {place : ℕ} → LeavesAt flag s tail Could Left bytes s' r → r ≡ Ok (Ended place) → tail ≡ rest
    → (body_after flag s rest ≡ Good bytes) × IsBodyEnd rest place
stops_ended flag s s' Could Left h e same = rw (e, same) at h
