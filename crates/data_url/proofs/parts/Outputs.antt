-- What the calls of a closure write to an output.
use Rattle.std.proofs.Common.{◌≡◌, ◌≤◌, List, None, Ok, Option, Result, Some, [], ap, append_assoc, arith, drop, length}
use Rattle.std.proofs.Common.{length-append, length-drop, refl, sym, ◌++◌, ◌∷◌, ◌∙◌, ℕ}
use Rattle.std.proofs.lemmas.Slice.{drop-append-drop}
use Rattle.std.proofs.Math.Seq.{drop-append_seam, take-append_seam}
use Rattle.std.specs.declared.convert.Infallible.{Infallible}
use Rattle.data_url.specs.Parts.{WritesFront}
use Rattle.data_url.specs.Run.{Call, IsRun, joined_pieces, refusal}
use Rattle.data_url.specs.Steps.Parts.{DecodesPart, DecodesPartOf, Writes}
use Rattle.data_url.specs.declared.body.Stop.{Stop}
use Rattle.data_url.specs.declared.forgiving_base64.DecodeError.{DecodeError}
use Rattle.data_url.specs.declared.forgiving_base64.left_over.LeftOver.{LeftOver}
use Rattle.std.specs.Option.{option_or}
use Rattle.std.specs.Result.{result_err}
use Rattle.data_url.proofs.runs.Runs.{run_keeps, run_kept}

-- a run of calls of a closure, none of which returns an error, with these bytes
pub record Passes {F E : Type 0} (step : F → List ℕ → Result (Unit {0}) E → F → Type 0) (f : F) (bytes : List ℕ) (g : F)
    : Type 0 where
  pub run : List (Call F E)
  pub ran : IsRun step f run g
  pub accepted : refusal run ≡ None
  pub bytes_are : joined_pieces run ≡ bytes

-- a run that no error ended
pub passes_of : {F E : Type 0} {step : F → List ℕ → Result (Unit {0}) E → F → Type 0} {f g : F}
    (run : List (Call F E)) → IsRun step f run g → refusal run ≡ None → Passes step f (joined_pieces run) g
passes_of run ran accepted = record { run = run; ran = ran; accepted = accepted; bytes_are = refl }

-- a closure that cannot fail returns no error
pub no_refusal : (o : Option Infallible) → o ≡ None
no_refusal None = refl
no_refusal (Some e) = elim e [ ]

-- the bytes so far are at the start of an output, if they fit
abbrev pub Reaches : List ℕ → List ℕ → List ℕ → ℕ → Type 0
Reaches out b bytes len = length b ≤ length out → (len ≡ length b) × (bytes ≡ b ++ drop (length b) out)

-- one piece more
pub reaches_more : (out b bytes piece bytes' : List ℕ) (len len' : ℕ) → Reaches out b bytes len
    → Writes piece bytes len bytes' len' → Reaches out (b ++ piece) bytes' len'
reaches_more out b bytes piece bytes' len len' h w fits =
    grind (arith, length-append, length-drop, take-append_seam, drop-append-drop, append_assoc)

-- bytes at the start of an output were written there
front_written : {all out out' : List ℕ} {len : ℕ} → len ≡ length all → out' ≡ all ++ drop (length all) out
    → length all ≤ length out → WritesFront all out out' len
front_written {all} {out} {out'} {len} l o fits = grind (arith, take-append_seam, drop-append_seam)

module _ {F E : Type 0} {step : F → List ℕ → Result (Unit {0}) E → F → Type 0} {f g : F} {all : List ℕ} where
  -- if each call writes its piece to an output, all bytes are written, if they fit
  pub passes_written : {out out' : List ℕ} {len' : ℕ} → Passes step f all g → (bytes : F → List ℕ) (len : F → ℕ)
      → ((p : F) (piece : List ℕ) (q : F) → step p piece (Ok tt) q → Writes piece (bytes p) (len p) (bytes q) (len q))
      → bytes f ≡ out → len f ≡ 0 → out' ≡ bytes g → len' ≡ len g → length all ≤ length out
      → WritesFront all out out' len'
  passes_written {out} {out'} {len'} h bytes len writes b l b' l' fits =
      let P : List ℕ → F → Type 0 = λ x p. Reaches out x (bytes p) (len p) in
      let first : P [] f = λ k. (l, b) in
      let last = run_kept step h.run f g h.ran h.accepted P
      (λ x p piece q k s. reaches_more out x (bytes p) piece (bytes q) (len p) (len q) k (writes p piece q s)) first in
      let k = last (omega (arith, fits, ap length h.bytes_are)) in
      front_written (l' ∙ k.0 ∙ ap length h.bytes_are)
      (b' ∙ k.1 ∙ ap (λ x. x ++ drop (length x) out) h.bytes_are) fits

  -- what each call preserves, all calls preserve
  pub passes_keeps : {A : Type 0} → Passes step f all g → (K : F → A)
      → ((p : F) (piece : List ℕ) (r : Result (Unit {0}) E) (q : F) → step p piece r q → K p ≡ K q) → K f ≡ K g
  passes_keeps h K keeps = run_keeps step K keeps h.run f g h.ran

-- A closure that calls another one

module _ {F G E : Type 0} (inner : G → List ℕ → Result (Unit {0}) E → G → Type 0) (outer : F → List ℕ
    → Result (Unit {0}) E → F → Type 0) (K : G → F) (calls : (g : G) (piece : List ℕ) (r : Result (Unit {0}) E) (g' : G)
    → inner g piece r g' → outer (K g) piece r (K g')) where
  -- the calls of the other closure
  passed : List (Call G E) → List (Call F E)
  passed [] = []
  passed (c ∷ cs) = record { piece = c.piece; answer = c.answer; after = K c.after } ∷ passed cs

  -- they are a run of it
  passed_ran : (cs : List (Call G E)) (f g : G) → IsRun inner f cs g → IsRun outer (K f) (passed cs) (K g)
  unfolding passed
  passed_ran [] f g ran = ap K ran
  passed_ran (c ∷ cs) f g ran = grind (arith, passed_ran cs c.after g ran.2)

  -- they have the same pieces
  passed_joined : (cs : List (Call G E)) → joined_pieces (passed cs) ≡ joined_pieces cs
  unfolding passed
  passed_joined [] = refl
  passed_joined (c ∷ cs) = ap (λ x. c.piece ++ x) (passed_joined cs)

  -- the same error ends them
  passed_refusal : (cs : List (Call G E)) → refusal (passed cs) ≡ refusal cs
  unfolding passed
  passed_refusal [] = refl
  passed_refusal (c ∷ cs) = ap (λ x. option_or (result_err c.answer) x) (passed_refusal cs)

  -- decoding a body with the closure that calls the other one is decoding it with that one
  pub body_through : {f g : G} {w w' : F} {s s' : LeftOver} {tail : List ℕ} {most : ℕ} {r : Result Stop (DecodeError E)}
      → DecodesPartOf inner f s tail most s' r g → K f ≡ w → w' ≡ K g → DecodesPartOf outer w s tail most s' r w'
  body_through {f} {g} h a b = rw (sym a, b) (record {
    run = passed h.run;
    ran = passed_ran h.run f g h.ran;
    gave = rw (passed_refusal h.run, passed_joined h.run) h.gave;
  })

  -- decoding a part with the closure that calls the other one is decoding it with that one
  pub part_through : {f g : G} {w w' : F} {u : List ℕ} {s : LeftOver} {r : Result (Unit {0}) (DecodeError E)}
      → DecodesPart inner f u s r g → K f ≡ w → w' ≡ K g → DecodesPart outer w u s r w'
  part_through {f} {g} h a b = rw (sym a, b) (record {
    run = passed h.run;
    ran = passed_ran h.run f g h.ran;
    gave = rw (passed_refusal h.run, passed_joined h.run) h.gave;
  })

-- what each call preserves, decoding a part preserves
pub part_keeps : {F E A : Type 0} {step : F → List ℕ → Result (Unit {0}) E → F → Type 0} {f g : F} {u : List ℕ}
    {s : LeftOver} {r : Result (Unit {0}) (DecodeError E)} → DecodesPart step f u s r g → (K : F → A)
    → ((p : F) (piece : List ℕ) (r : Result (Unit {0}) E) (q : F) → step p piece r q → K p ≡ K q) → K f ≡ K g
part_keeps {step = step} {f = f} {g = g} h K keeps = run_keeps step K keeps h.run f g h.ran

-- what each call preserves, decoding a body preserves
pub body_keeps : {F E A : Type 0} {step : F → List ℕ → Result (Unit {0}) E → F → Type 0} {f g : F} {s s' : LeftOver}
    {tail : List ℕ} {most : ℕ} {r : Result Stop (DecodeError E)} → DecodesPartOf step f s tail most s' r g → (K : F → A)
    → ((p : F) (piece : List ℕ) (r : Result (Unit {0}) E) (q : F) → step p piece r q → K p ≡ K q) → K f ≡ K g
body_keeps {step = step} {f = f} {g = g} h K keeps = run_keeps step K keeps h.run f g h.ran
