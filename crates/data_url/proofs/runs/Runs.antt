-- Runs of a closure, one after another.
use Rattle.std.proofs.Common.{List, [], ◌∷◌, ◌++◌, Option, None, Some, is_some, Result, Ok, Err, refl, ap, sym}
use Rattle.std.proofs.Common.{◌∙◌, append_assoc, true, inl, inr, ◌⊎◌, arith, append-nil, IsErr, MatchOption, ◌≡◌, ℕ}
use Rattle.std.proofs.Common.{◌+◌, ◌≤◌, length, length-append, min}
use Rattle.std.{proofs.lemmas.Bool.{false≢true, true≢false}, specs.Option.{option_or}, specs.Result.{result_err}}
use Rattle.data_url.specs.Run.{Call, IsPrefix, IsRun, joined_pieces, refusal}
use Rattle.data_url.proofs.forgiving_base64.Padding.{some_not_none}

-- if the error of a result, or else o, is `None`, the result is not an error
ok_is_no_error : {E : Type 0} (r : Result (Unit {0}) E) (o : Option E) → option_or (result_err r) o ≡ None → IsErr r → ⊥
ok_is_no_error (Ok x) o h e = false≢true e
ok_is_no_error (Err x) o h e = some_not_none x h

-- if the error of a result, or else o, is `None`, then o is `None`
pub later_none : {E : Type 0} (r : Result (Unit {0}) E) (o : Option E) → option_or (result_err r) o ≡ None → o ≡ None
later_none (Ok x) o h = h
later_none (Err x) o h = absurd (some_not_none x h)

module _ {F E : Type 0} (step : F → List ℕ → Result (Unit {0}) E → F → Type 0) where
  -- a run from f to g without an error, and then a run from g to h, are together a run from f to h
  pub run-append : (xs ys : List (Call F E)) (f g h : F) → IsRun step f xs g → refusal xs ≡ None → IsRun step g ys h
      → IsRun step f (xs ++ ys) h
  run-append [] ys f g h x n y = rw x y
  run-append (c ∷ cs) ys f g h x n y =
      grind (arith, run-append cs ys c.after g h x.2 (later_none c.answer (refusal cs) n) y, later_none, ok_is_no_error)

-- if xs ends without an error, the error that ends xs ++ ys is the one that ends ys
pub refusal-append : {F E : Type 0} (xs ys : List (Call F E)) → refusal xs ≡ None → refusal (xs ++ ys) ≡ refusal ys
refusal-append [] ys n = refl
refusal-append (c ∷ cs) ys n = grind (arith, later_none, refusal-append cs ys)

-- the pieces of xs ++ ys, joined, are those of xs, then those of ys
pub joined_pieces-append : {F E : Type 0} (xs ys : List (Call F E))
    → joined_pieces (xs ++ ys) ≡ joined_pieces xs ++ joined_pieces ys
joined_pieces-append [] ys = refl
joined_pieces-append (c ∷ cs) ys = grind (arith, append_assoc, joined_pieces-append cs ys)

-- an option is `None`, or `Some` of a value
pub none_or_some : {A : Type 0} (o : Option A) → (o ≡ None) ⊎ ((x : A) × (o ≡ Some x))
none_or_some None = inl refl
none_or_some (Some x) = inr (x, refl)

-- if o is `None`, P implies `MatchOption o P Q`
pub match_none : {A : Type 0} (o : Option A) (P : Type 0) (Q : A → Type 0) → o ≡ None → P → MatchOption o P Q
match_none None P Q e p = p
match_none (Some x) P Q e p = absurd (some_not_none x e)

-- if o is a `Some`, Q implies `MatchOption o P (λ x. Q)`
pub match_some : {A : Type 0} (o : Option A) (P Q : Type 0) → is_some o ≡ true → Q → MatchOption o P (λ x. Q)
match_some None P Q e q = absurd (false≢true e)
match_some (Some x) P Q e q = q

-- if o is `None`, `MatchOption o P Q` implies P
pub match_at_none : {A : Type 0} (o : Option A) (P : Type 0) (Q : A → Type 0) → o ≡ None → MatchOption o P Q → P
match_at_none None P Q e h = h
match_at_none (Some x) P Q e h = absurd (some_not_none x e)

-- if two options are both `Some` or both `None`, a match on one implies a match on the other of which both cases are
-- implied
pub match_alike : {A B : Type 0} (o : Option A) (o' : Option B) (P P' Q Q' : Type 0) → is_some o ≡ is_some o' → (P → P')
    → (Q → Q') → MatchOption o P (λ x. Q) → MatchOption o' P' (λ x. Q')
match_alike None None P P' Q Q' e f g h = f h
match_alike None (Some y) P P' Q Q' e f g h = absurd (false≢true e)
match_alike (Some x) None P P' Q Q' e f g h = absurd (true≢false e)
match_alike (Some x) (Some y) P P' Q Q' e f g h = g h

-- a match on an option implies a match on the same option of which both cases are implied
pub match_map : {A : Type 0} (o : Option A) (P P' : Type 0) (Q Q' : A → Type 0) → (P → P') → ((x : A) → Q x → Q' x)
    → MatchOption o P Q → MatchOption o P' Q'
match_map None P P' Q Q' f g h = f h
match_map (Some x) P P' Q Q' f g h = g x h

-- a match on an option implies the same match on an equal option
pub match_at : {A : Type 0} (o o' : Option A) (P : Type 0) (Q : A → Type 0) → o' ≡ o → MatchOption o P Q
    → MatchOption o' P Q
match_at o o' P Q e h = rw e h

-- the empty text is a prefix of each text
pub prefix_none : (xs : List ℕ) → IsPrefix [] xs
prefix_none xs = (xs, refl)

-- a text is a prefix of each text that is equal to it
pub prefix_all : (xs ys : List ℕ) → xs ≡ ys → IsPrefix xs ys
prefix_all xs ys e = ([], sym e ∙ sym (append-nil xs))

-- if xs is a prefix of ys, then front ++ xs is a prefix of front ++ ys
pub prefix_after : (front xs ys : List ℕ) → IsPrefix xs ys → IsPrefix (front ++ xs) (front ++ ys)
prefix_after front xs ys p = (p.0, ap (λ z. front ++ z) p.1 ∙ sym (append_assoc front xs p.0))

-- if xs is a prefix of ys, and ys of zs, then xs is a prefix of zs
pub prefix_trans : (xs ys zs : List ℕ) → IsPrefix xs ys → IsPrefix ys zs → IsPrefix xs zs
prefix_trans xs ys zs p q = (p.0 ++ q.0, q.1 ∙ ap (λ z. z ++ q.0) p.1 ∙ append_assoc xs p.0 q.0)

-- What is true after a run

module _ {F E : Type 0} (step : F → List ℕ → Result (Unit {0}) E → F → Type 0)
    (kept : List ℕ → F → Type 0) (stopped : List ℕ → E → F → Type 0)
    (accepts : (bytes : List ℕ) (f : F) (piece : List ℕ) (g : F) → kept bytes f → step f piece (Ok tt) g
    → kept (bytes ++ piece) g)
    (refuses : (bytes : List ℕ) (f : F) (piece : List ℕ) (e : E) (g : F) → kept bytes f → step f piece (Err e) g
    → stopped (bytes ++ piece) e g) where
  -- after one call and those that follow it
  one_more : (r : Result (Unit {0}) E) (bytes piece : List ℕ) (f after g : F) (cs : List (Call F E)) → kept bytes f
      → step f piece r after → (IsErr r → cs ≡ []) → IsRun step after cs g
      → (kept (bytes ++ piece) after → MatchOption (refusal cs) (kept ((bytes ++ piece) ++ joined_pieces cs) g)
      (λ e. stopped ((bytes ++ piece) ++ joined_pieces cs) e g))
      → MatchOption (option_or (result_err r) (refusal cs)) (kept (bytes ++ (piece ++ joined_pieces cs)) g)
      (λ e. stopped (bytes ++ (piece ++ joined_pieces cs)) e g)
  one_more (Ok tt) bytes piece f after g cs k s last ran more = grind (arith, append_assoc)
  one_more (Err e) bytes piece f after g cs k s last ran more = grind (arith, append-nil)

  -- a run from a state with `kept` ends with `kept` if no call returned an error, and otherwise with `stopped`
  run_ends_from : (cs : List (Call F E)) (bytes : List ℕ) (f g : F) → kept bytes f → IsRun step f cs g
      → MatchOption (refusal cs) (kept (bytes ++ joined_pieces cs) g) (λ e. stopped (bytes ++ joined_pieces cs) e g)
  run_ends_from [] bytes f g k ran = grind (arith, append-nil)
  run_ends_from (c ∷ cs) bytes f g k ran = one_more c.answer bytes c.piece f c.after g cs k ran.0 ran.1 ran.2
      (λ more. run_ends_from cs (bytes ++ c.piece) c.after g more ran.2)

-- if each call that succeeds preserves `kept`, a property of the bytes so far and the state, then `kept` is true after
-- a run without an error; if a call that fails makes `stopped` true, then `stopped` is true after a run with an error
pub run_ends : {F E : Type 0} (step : F → List ℕ → Result (Unit {0}) E → F → Type 0) (cs : List (Call F E)) (f g : F)
    → IsRun step f cs g → (kept : List ℕ → F → Type 0) (stopped : List ℕ → E → F → Type 0)
    → ((bytes : List ℕ) (p : F) (piece : List ℕ) (q : F) → kept bytes p → step p piece (Ok tt) q
    → kept (bytes ++ piece) q)
    → ((bytes : List ℕ) (p : F) (piece : List ℕ) (e : E) (q : F) → kept bytes p → step p piece (Err e) q
    → stopped (bytes ++ piece) e q)
    → kept [] f → MatchOption (refusal cs) (kept (joined_pieces cs) g) (λ e. stopped (joined_pieces cs) e g)
run_ends step cs f g ran kept stopped accepts refuses start =
    run_ends_from step kept stopped accepts refuses cs [] f g start ran

-- what each call that succeeds preserves, a property of the bytes so far and the state, is true after a run without an
-- error
pub run_kept : {F E : Type 0} (step : F → List ℕ → Result (Unit {0}) E → F → Type 0) (cs : List (Call F E)) (f g : F)
    → IsRun step f cs g → refusal cs ≡ None → (kept : List ℕ → F → Type 0)
    → ((bytes : List ℕ) (p : F) (piece : List ℕ) (q : F) → kept bytes p → step p piece (Ok tt) q
    → kept (bytes ++ piece) q) → kept [] f → kept (joined_pieces cs) g
run_kept step cs f g ran n kept accepts start =
    match_at_none (refusal cs) _ _ n (run_ends step cs f g ran kept (λ bytes e p. Unit {0}) accepts
    (λ bytes p piece e q k s. tt) start)

-- what each call that succeeds preserves is true after a run without an error
pub run_preserves : {F E : Type 0} (step : F → List ℕ → Result (Unit {0}) E → F → Type 0) (K : F → Type 0)
    → ((p : F) (piece : List ℕ) (q : F) → K p → step p piece (Ok tt) q → K q)
    → (cs : List (Call F E)) (f g : F) → IsRun step f cs g → refusal cs ≡ None → K f → K g
run_preserves step K keeps cs f g ran n k = run_kept step cs f g ran n (λ bytes. K) (λ bytes. keeps) k

-- if neither a call nor those after it returned an error, the call returned `Ok`
accepted_call : {E : Type 0} (r : Result (Unit {0}) E) (o : Option E) → option_or (result_err r) o ≡ None → r ≡ Ok tt
accepted_call (Ok tt) o h = refl
accepted_call (Err e) o h = absurd (some_not_none e h)

-- after a run without an error, all bytes of the run are appended to it
pub run_reads : {F E : Type 0} (step : F → List ℕ → Result (Unit {0}) E → F → Type 0) (J : F → List ℕ)
    → ((g : F) (piece : List ℕ) (g' : F) → step g piece (Ok tt) g' → J g' ≡ J g ++ piece)
    → (cs : List (Call F E)) (f f' : F) → IsRun step f cs f' → refusal cs ≡ None → J f' ≡ J f ++ joined_pieces cs
run_reads step J keeps [] f f' ran n = ap J (sym ran) ∙ sym (append-nil (J f))
run_reads step J keeps (c ∷ cs) f f' ran n =
    grind (
      arith,
      run_reads step J keeps cs c.after f' ran.2 (later_none c.answer (refusal cs) n),
      accepted_call,
      append_assoc,
    )

-- what each call preserves, a run preserves
pub run_keeps : {F E A : Type 0} (step : F → List ℕ → Result (Unit {0}) E → F → Type 0) (K : F → A)
    → ((g : F) (piece : List ℕ) (r : Result (Unit {0}) E) (g' : F) → step g piece r g' → K g ≡ K g')
    → (cs : List (Call F E)) (f f' : F) → IsRun step f cs f' → K f ≡ K f'
run_keeps step K keeps [] f f' ran = ap K ran
run_keeps step K keeps (c ∷ cs) f f' ran = grind (arith, run_keeps step K keeps cs c.after f' ran.2)

-- if each call that succeeds extends a measure by its piece, a run without an error extends it by all its bytes
pub run_extends : {F E : Type 0} (step : F → List ℕ → Result (Unit {0}) E → F → Type 0) (cs : List (Call F E)) (f g : F)
    → IsRun step f cs g → refusal cs ≡ None → (measure : F → List ℕ)
    → ((p : F) (piece : List ℕ) (q : F) → step p piece (Ok tt) q → measure q ≡ measure p ++ piece)
    → measure g ≡ measure f ++ joined_pieces cs
run_extends step cs f g ran n measure extends = grind (arith, run_reads)

-- if each call that succeeds adds the length of its piece to a count, a run without an error adds the length of all its
-- bytes
pub run_counts : {F E : Type 0} (step : F → List ℕ → Result (Unit {0}) E → F → Type 0) (cs : List (Call F E)) (f g : F)
    → IsRun step f cs g → refusal cs ≡ None → (count : F → ℕ)
    → ((p : F) (piece : List ℕ) (q : F) → step p piece (Ok tt) q → count q ≡ count p + length piece)
    → count g ≡ count f + length (joined_pieces cs)
run_counts {F = F} step cs f g ran n count adds =
    let P : List ℕ → F → Type 0 = λ bytes p. count p ≡ count f + length bytes in
    run_kept step cs f g ran n P (λ bytes p piece q k s. grind (arith, adds p piece q, length-append)) (omega arith)

-- if each call that succeeds adds the length of its piece to a count that stops at `most`, a run without an error adds
-- the length of all its bytes, up to `most`
pub run_counts_up_to : {F E : Type 0} (step : F → List ℕ → Result (Unit {0}) E → F → Type 0) (cs : List (Call F E))
    (f g : F) (most : ℕ) → IsRun step f cs g → refusal cs ≡ None → (count : F → ℕ) → count f ≤ most
    → ((p : F) (piece : List ℕ) (q : F) → step p piece (Ok tt) q → count q ≡ min (count p + length piece) most)
    → count g ≡ min (count f + length (joined_pieces cs)) most
run_counts_up_to {F = F} step cs f g most ran n count few adds =
    let P : List ℕ → F → Type 0 = λ bytes p. count p ≡ min (count f + length bytes) most in
    run_kept step cs f g ran n P (λ bytes p piece q k s. grind (arith, adds p piece q, length-append)) (omega arith)
