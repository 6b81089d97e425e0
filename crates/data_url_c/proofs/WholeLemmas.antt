-- Whole bodies, decoded into an output.
use Rattle.std.proofs.Common.{◌≡◌, ℕ, ◌<◌, ◌≤◌, ◌^◌, List, length, Ok, Err, refl}
use Rattle.std.proofs.Common.{arith, take}
use Rattle.std.specs.Global.{Global}
use Rattle.std.specs.Prelude.{IsUtf8}
use Rattle.std.proofs.lemmas.List.{length-take-le, take-append-drop}
use Rattle.data_url.specs.DataUrl.{IsUrlOf, url_body}
use Rattle.data_url.specs.Fetch.{Bad, Good, Outcome, outcome_bytes}
use Rattle.data_url.specs.declared.DataUrl.{DataUrl}
use Rattle.data_url_c.specs.Answers.{Answers, Shows, status_of_kind}
use Rattle.data_url_c.specs.Bodies.{EndsAs}
use Rattle.data_url_c.specs.Gives.{GivesBody}
use Rattle.data_url.specs.Parts.{WritesFront}
use Rattle.data_url_c.specs.declared.answer.DataUrlAnswer.{DataUrlAnswer}
use Rattle.data_url_c.specs.declared.answer.Refusal.TheVariants.{InvalidBase64}
use Rattle.data_url_c.proofs.GivenLemmas.{url_with, vec_of}

-- the result shows a body, or the bytes before its fault
abbrev ShowsBody : Outcome → List ℕ → List ℕ → DataUrlAnswer → Type 0
ShowsBody (Good bytes) old new r = Shows 0 bytes old new r
ShowsBody (Bad bytes kind) old new r = Shows (status_of_kind kind) bytes old new r

-- if bytes were written to the start of the output, the result shows them
shows_front : {bytes old new : List ℕ} {status status' len : ℕ} → status' ≡ status → length new ≡ length old
    → WritesFront bytes old new len
    → Shows status bytes old new (record { status = status'; len = len })
shows_front {bytes} {old} {new} {status} {status'} {len} e size w = grind (arith, length-take-le, take-append-drop)

-- a body that was decoded into an output is shown
shows_into : (o : Outcome) (old new : List ℕ) (status len : ℕ) → length new ≡ length old → EndsAs o old new status len
    → ShowsBody o old new (record { status = status; len = len })
shows_into (Good bytes) old new status len size h = shows_front h.0 size h.1
shows_into (Bad bytes kind) old new status len size h = shows_front h.0 size h.1

-- a body that was decoded into a vector is shown, if the bytes of the vector are
shows_by : (o : Outcome) (before after : List ℕ) {old new : List ℕ} {status : ℕ} (len : ℕ) {r : DataUrlAnswer}
    → EndsAs o before after status len → Shows status (take len after) old new r → ShowsBody o old new r
shows_by (Good bytes) before after len h s = rw (h.0, h.1.bytes_are) at s
shows_by (Bad bytes kind) before after len h s = rw (h.0, h.1.bytes_are) at s

-- the bytes of a body that was decoded into an output fit it
bytes_fit : (o : Outcome) (before after : List ℕ) (status len : ℕ) → length after ≡ length before
    → EndsAs o before after status len → length (outcome_bytes o) ≤ length before
bytes_fit (Good bytes) before after status len size h =
    let w = h.1 in grind (arith, length-take-le, w.within, w.bytes_are)
bytes_fit (Bad bytes kind) before after status len size h =
    let w = h.1 in grind (arith, length-take-le, w.within, w.bytes_are)

-- if the result shows the body of a URL, it is the answer for the text of that URL
answers_shown : {x : List ℕ} (url : DataUrl) {old new : List ℕ} {r : DataUrlAnswer} → Global → IsUtf8 x → IsUrlOf x url
    → (o : Outcome) → url_body url ≡ o → length (outcome_bytes o) < 2 ^ 63 → ShowsBody o old new r
    → Answers (GivesBody x) old new r
answers_shown url memory t u (Good bytes) e small shown = record {
  given = Ok (vec_of memory bytes small);
  is_given = (_, url_with url t u e refl);
  crosses = shown;
}
answers_shown url memory t u (Bad bytes kind) e small shown = record {
  given = Err (InvalidBase64 kind (vec_of memory bytes small));
  is_given = (_, url_with url t u e refl);
  crosses = shown;
}

-- if the body of a URL was decoded into the output, the answer is that of the body
pub answers_into : {x : List ℕ} (url : DataUrl) (old new : List ℕ) (status len : ℕ) → Global → IsUtf8 x
    → IsUrlOf x url → length old < 2 ^ 63 → length new ≡ length old → EndsAs (url_body url) old new status len
    → Answers (GivesBody x) old new (record { status = status; len = len })
answers_into url old new status len memory t u small size h =
    let fit = bytes_fit (url_body url) old new status len size h in
    answers_shown url memory t u (url_body url) refl (omega (arith, fit, small))
    (shows_into (url_body url) old new status len size h)

-- if it was decoded into a vector, whose bytes are shown, the answer is that of the body
pub answers_by : {x : List ℕ} (url : DataUrl) (before after : List ℕ) {old new : List ℕ} (status len : ℕ)
    {r : DataUrlAnswer} → Global → IsUtf8 x → IsUrlOf x url → length before < 2 ^ 63 → length after ≡ length before
    → EndsAs (url_body url) before after status len → Shows status (take len after) old new r
    → Answers (GivesBody x) old new r
answers_by url before after status len memory t u small size h shown =
    let fit = bytes_fit (url_body url) before after status len size h in
    answers_shown url memory t u (url_body url) refl (omega (arith, fit, small))
    (shows_by (url_body url) before after len h shown)
