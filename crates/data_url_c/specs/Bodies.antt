-- Bodies: what decoding one into an output does.
use Rattle.std.specs.Prelude.{◌+◌, ◌++◌, ◌<◌, ◌==◌, ◌≡◌, ◌≤◌, Bool, List, MatchOption, drop, length, not, true, ℕ}
use Rattle.data_url.specs.Fetch.{Bad, Good, Outcome, outcome, plain_body}
use Rattle.data_url.specs.Parts.{prepend}
use Rattle.data_url.specs.Url.{after, number_sign}
use Rattle.data_url_c.specs.Answers.{status_of_kind}
use Rattle.data_url_c.specs.Parts.{DoesNothing, is_good_state, waiting_text}
use Rattle.data_url.specs.Parts.{WritesFront}
use Rattle.data_url_c.specs.declared.body.DataUrlBody.{DataUrlBody}
use Rattle.data_url_c.specs.declared.answer.DataUrlStep.{DataUrlStep}

-- a body was written to the start of the output. For a bad body, the bytes before its fault were
-- written, and the status is that of the fault.
abbrev pub EndsAs : Outcome → List ℕ → List ℕ → ℕ → ℕ → Type 0
EndsAs (Good bytes) before after status len = (status ≡ 0) × WritesFront bytes before after len
EndsAs (Bad bytes kind) before after status len =
    (status ≡ status_of_kind kind) × WritesFront bytes before after len

-- A body in parts

-- whether the body is base64
abbrev pub flag_of : DataUrlBody → Bool
flag_of s = not (s.is_base64 == 0)

-- the rest of the body: what is left over in the state, and then the body of the rest of the tail
abbrev pub body_left : List ℕ → DataUrlBody → Outcome
body_left tail s = outcome (flag_of s) (waiting_text s.left ++ plain_body (drop s.from tail))

-- a state that a call can return: it goes on within the tail, and if the body is not base64, nothing is left over
pub record IsGoodBody (tail : List ℕ) (s : DataUrlBody) : Type 0 where
  pub left : is_good_state s.left ≡ true
  pub within : s.from ≤ length tail
  pub none_left_over : s.is_base64 ≡ 0 → (s.left.pending ≡ 0) × (s.left.padding ≡ 0)

-- a body that goes on from an index of its tail ends at another one: the tail ends there, or '#'
-- and the fragment follow
abbrev pub IsEnd : List ℕ → ℕ → ℕ → Type 0
IsEnd tail from end = MatchOption (after number_sign (drop from tail)) (end ≡ length tail)
    (λ fragment. (end < length tail) × (fragment ≡ drop (end + 1) tail))

-- what a call with a good state does, for each status
pub data ContinuesOrEnds (tail : List ℕ) (old new : DataUrlBody) (before after : List ℕ) (len : ℕ)
    : ℕ → Type 0 where
  -- bytes were written, and the rest of the body is left
  more : {bytes : List ℕ} → WritesFront bytes before after len → IsGoodBody tail new
      → new.is_base64 ≡ old.is_base64 → old.from < new.from
      → body_left tail old ≡ prepend bytes (body_left tail new)
      → ContinuesOrEnds tail old new before after len 11
  -- the body ended, or its base64 has a fault; later calls reject the state
  ended : {status : ℕ} → EndsAs (body_left tail old) before after status len
      → (status ≡ 0 → IsEnd tail old.from new.from) → (IsGoodBody tail new → ⊥)
      → ContinuesOrEnds tail old new before after len status

-- what a call does: a state that is not good gives status 12, and an output of less than eight
-- bytes status 5
pub record StepsBody (tail : List ℕ) (old new : DataUrlBody) (before after : List ℕ)
    (r : DataUrlStep) : Type 0 where
  pub bad : (IsGoodBody tail old → ⊥)
      → DoesNothing old new before after × (r.status ≡ 12) × (r.len ≡ 0)
  pub small : IsGoodBody tail old → length before < 8
      → DoesNothing old new before after × (r.status ≡ 5) × (r.len ≡ 0)
  pub goes : IsGoodBody tail old → 8 ≤ length before
      → ContinuesOrEnds tail old new before after r.len r.status
