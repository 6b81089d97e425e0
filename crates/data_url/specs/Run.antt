-- The calls of a closure.
use Rattle.std.specs.Option.{option_or}
use Rattle.std.specs.Result.{result_err}
use Rattle.std.specs.Prelude.{[], ◌++◌, ◌∷◌, ◌≡◌, IsErr, List, None, Option, Result, ℕ}

-- one call of a closure: its argument, its result, and the state of the closure after it
pub record Call (F : Type 0) (E : Type 0) : Type 0 where
  pub piece : List ℕ
  pub answer : Result (Unit {0}) E
  pub after : F

-- the calls take the closure from state f to state g; after a call that returns an error there is no
-- further call
abbrev pub IsRun : {F E : Type 0} → (F → List ℕ → Result (Unit {0}) E → F → Type 0) → F
    → List (Call F E) → F → Type 0
IsRun step f [] g = f ≡ g
IsRun step f (c ∷ cs) g = step f c.piece c.answer c.after × (IsErr c.answer → cs ≡ [])
    × IsRun step c.after cs g

-- the concatenation of the pieces of a run; if the last call returned an error, its piece is included
abbrev pub joined_pieces : {F E : Type 0} → List (Call F E) → List ℕ
joined_pieces [] = []
joined_pieces (c ∷ cs) = c.piece ++ joined_pieces cs

-- the error that ended a run, if there was one
abbrev pub refusal : {F E : Type 0} → List (Call F E) → Option E
refusal [] = None
refusal (c ∷ cs) = option_or (result_err c.answer) (refusal cs)

-- the second text begins with the first, which may be empty or the whole
abbrev pub IsPrefix : List ℕ → List ℕ → Type 0
IsPrefix xs ys = (more : List ℕ) × (ys ≡ xs ++ more)
