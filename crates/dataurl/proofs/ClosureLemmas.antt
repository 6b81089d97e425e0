-- What a closure that gathers its pieces is called with.
use Rattle.std.proofs.Common.{◌≡◌, ℕ, List, [], ◌++◌, Option, None, Some, Result, Ok, Err, sym, ◌∙◌, subst}
use Rattle.std.specs.Prelude.{MatchOption}
use Rattle.std.proofs.lemmas.List.{append-nil}
use Rattle.data_url.specs.DataUrl.{Decodes, HandsOut}
use Rattle.data_url.specs.Errors.{IsRefused}
use Rattle.data_url.specs.Fetch.{Bad, Good, Outcome, outcome_bytes}
use Rattle.data_url.specs.Run.{Call, IsRun, joined_pieces, refusal}
use Rattle.data_url.specs.declared.forgiving_base64.DecodeError.{DecodeError}
use Rattle.data_url.proofs.api.{run_keeps}
use Rattle.dataurl.specs.Output.{End, IsBodyOutput, bad_body, good_body}
use Rattle.dataurl.specs.Steps.Parts.{AnyAnswer}
use Rattle.dataurl.specs.Steps.Gathering.{Gathers, IsFlushed, IsSettled, IsStreamed, Settles, Streams, all_streamed}
use Rattle.dataurl.specs.Steps.Gathering.{cut_short, flushed, not_flushed}
use Rattle.dataurl.specs.Runs.{IsProperPrefix}
use Rattle.dataurl.specs.declared.fault.Fault.TheVariants.{Base64, Write}
use Rattle.dataurl.specs.declared.fault.WriteFailed.{WriteFailed}
use Rattle.dataurl.proofs.GatherLemmas.{run_gathers}
use Rattle.dataurl.proofs.OutputLemmas.{appends_then, beginning_after, beginning_of}

-- Outputs

-- a part of an output was written, and then the buffer
pub output_flushed : (P : List ℕ → End → Type 0) (bytes after w k : List ℕ) (good end : End) → P bytes good
    → bytes ≡ w ++ after → IsFlushed after good k end → IsStreamed P (w ++ k) end
output_flushed P bytes after w k good end p e flushed =
    let Q : List ℕ → Type 0 = λ s. P s good in
    all_streamed (subst Q e p)
output_flushed P bytes after w k good end p e (not_flushed b) =
    let Q : List ℕ → Type 0 = λ s. IsProperPrefix (w ++ k) s in
    cut_short p (subst Q (sym e) (beginning_after w k after b))

-- a write failed before the end
pub output_stopped : (P : List ℕ → End → Type 0) (whole w k : List ℕ) (whole_end end : End) → P whole whole_end
    → IsProperPrefix w whole → k ≡ [] → end ≡ Err Write → IsStreamed P (w ++ k) end
output_stopped P whole w k whole_end end p b e q =
    let Q : List ℕ → Type 0 = λ s. IsProperPrefix (w ++ s) whole in
    let R : List ℕ → Type 0 = λ s. IsProperPrefix s whole in
    let S : End → Type 0 = λ x. IsStreamed P (w ++ k) x in
    subst S (sym q) (cut_short p (subst Q (sym e) (subst R (sym (append-nil w)) b)))

-- Bodies

-- each body has an output, which is the bytes of its outcome, with an end
body_output : (body : Outcome) → (end : End) × IsBodyOutput body (outcome_bytes body) end
body_output (Good bytes) = (Ok tt, good_body)
body_output (Bad bytes kind) = (Err (Base64 kind), bad_body)

-- if a body was handed out, and then the buffer was settled, the output of the body was streamed
body_handed : (body : Outcome) (bytes after w k : List ℕ) (r : Result (Unit {0}) (DecodeError WriteFailed)) (end : End)
    → HandsOut body AnyAnswer bytes r → bytes ≡ w ++ after → IsSettled r after k end
    → IsStreamed (IsBodyOutput body) (w ++ k) end
body_handed (Good all) bytes after w k (Ok x) end h e s = output_flushed (IsBodyOutput (Good all)) all after w k
    (Ok tt) end good_body (sym h.bytes_are ∙ e) s
body_handed (Good all) bytes after w k (Err error) end h e s = absurd h.answer
body_handed (Bad all kind) bytes after w k r end h e s =
    let P : Result (Unit {0}) (DecodeError WriteFailed) → Type 0 = λ x. IsSettled x after k end in
    output_flushed (IsBodyOutput (Bad all kind)) all after w k (Err (Base64 kind)) end bad_body (sym h.bytes_are ∙ e)
    (subst P h.answer s)

-- if a body was handed out, or a write failed, and then the buffer was settled, its output was streamed
body_ended : (refused : Option WriteFailed) (body : Outcome) (bytes after w k : List ℕ)
    (r : Result (Unit {0}) (DecodeError WriteFailed)) (end : End)
    → MatchOption refused (HandsOut body AnyAnswer bytes r) (λ failed. IsRefused (outcome_bytes body) bytes failed r)
    → MatchOption refused (bytes ≡ w ++ after) (λ failed. IsProperPrefix w bytes) → IsSettled r after k end
    → IsStreamed (IsBodyOutput body) (w ++ k) end
body_ended None body bytes after w k r end h e s = body_handed body bytes after w k r end h e s
body_ended (Some failed) body bytes after w k r end h b s =
    let P : Result (Unit {0}) (DecodeError WriteFailed) → Type 0 = λ x. IsSettled x after k end in
    let stopped = subst P h.answer s in
    output_stopped (IsBodyOutput body) (outcome_bytes body) w k (body_output body).0 end (body_output body).1
    (beginning_of w bytes (outcome_bytes body) b h.bytes_begin) stopped.0 stopped.1

-- Closures

module _ {F : Type 0} (step : F → List ℕ → Result (Unit {0}) WriteFailed → F → Type 0) (holds : F → Option (List ℕ))
    (waits : F → List ℕ) (gathers : (p : F) (piece : List ℕ) (s : Result (Unit {0}) WriteFailed) (q : F)
    → step p piece s q → Gathers piece (waits p) (waits q) (holds p) (holds q) s) where
  -- pieces that a closure with an empty buffer gathered, and the end of the output
  streams_by : (P : List ℕ → End → Type 0) (cs : List (Call F WriteFailed)) (f g : F)
      (r : Result (Unit {0}) (DecodeError WriteFailed)) (now : Option (List ℕ)) (end : End) → IsRun step f cs g
      → waits f ≡ [] → Settles r (waits g) (holds g) now end
      → ((w k : List ℕ) → MatchOption (refusal cs) (joined_pieces cs ≡ w ++ waits g)
      (λ failed. IsProperPrefix w (joined_pieces cs)) → IsSettled r (waits g) k end → IsStreamed P (w ++ k) end)
      → Streams P (holds f) now end
  streams_by P cs f g r now end ran e s ends =
      let w = run_gathers step holds waits gathers cs f g ran in
      let Q : List ℕ → Type 0 = λ before. MatchOption (refusal cs) (before ++ joined_pieces cs ≡ w.written ++ waits g)
      (λ failed. IsProperPrefix w.written (before ++ joined_pieces cs)) in
      record {
        written = w.written ++ s.written;
        appended = appends_then (holds f) (holds g) now w.written s.written w.appended s.appended;
        is_streamed = ends w.written s.written (subst Q e w.took) s.is_settled;
      }

module _ {F : Type 0} {step : F → List ℕ → Result (Unit {0}) WriteFailed → F
    → Type 0} {f g : F} {r : Result (Unit {0}) (DecodeError WriteFailed)} {now : Option (List ℕ)} {end : End} where
  -- a body
  pub body_streams : {most : ℕ} {body : Outcome} → Decodes step f most body AnyAnswer r g
      → (holds : F → Option (List ℕ)) (waits : F → List ℕ)
      → ((p : F) (piece : List ℕ) (s : Result (Unit {0}) WriteFailed) (q : F) → step p piece s q
      → Gathers piece (waits p) (waits q) (holds p) (holds q) s) → waits f ≡ [] → Settles r (waits g) (holds g) now end
      → Streams (IsBodyOutput body) (holds f) now end
  body_streams {body = body} d holds waits gathers e s =
      streams_by step holds waits gathers (IsBodyOutput body) d.run f g r now end d.ran e s
      (λ w k took settled. body_ended (refusal d.run) body (joined_pieces d.run) (waits g) w k r end d.gave took
      settled)

module _ {F : Type 0} {step : F → List ℕ → Result (Unit {0}) WriteFailed → F
    → Type 0} {f g : F} {r : Result (Unit {0}) (DecodeError WriteFailed)} where
  -- what each call preserves, all calls preserve
  pub body_keeps : {B : Type 0} {most : ℕ} {body : Outcome} → Decodes step f most body AnyAnswer r g → (kept : F → B)
      → ((p : F) (piece : List ℕ) (s : Result (Unit {0}) WriteFailed) (q : F) → step p piece s q → kept p ≡ kept q)
      → kept f ≡ kept g
  body_keeps d kept keeps = run_keeps step kept keeps d.run f g d.ran
