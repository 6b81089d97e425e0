-- Gathering the pieces of an output, and runs of a closure that gathers them.
use Rattle.std.proofs.Common.{◌≡◌, ℕ, List, [], ◌∷◌, ◌++◌, take, Option, None, Some, Result, Ok, Err, refl, sym, ap}
use Rattle.std.proofs.Common.{append_assoc, subst}
use Rattle.std.specs.Prelude.{IsErr, MatchOption, MatchResult}
use Rattle.std.specs.Io.KnownBytes.{Appends}
use Rattle.std.proofs.lemmas.List.{append-nil}
use Rattle.data_url.specs.Run.{Call, IsRun, joined_pieces, refusal}
use Rattle.std.specs.Option.{option_or}
use Rattle.std.specs.Result.{result_err}
use Rattle.dataurl.specs.Output.{End}
use Rattle.dataurl.specs.Steps.Gathering.{Flushes, Gathers, IsFlushed, flushed, not_flushed}
use Rattle.dataurl.specs.Runs.{IsProperPrefix}
use Rattle.dataurl.specs.Steps.Writing.{IsWritten, Writes}
use Rattle.dataurl.specs.declared.fault.Fault.TheVariants.{Write}
use Rattle.dataurl.specs.declared.fault.WriteFailed.{WriteFailed}
use Rattle.dataurl.proofs.OutputLemmas.{appends_none, appends_then, beginning_after, beginning_of, written_all}
use Rattle.dataurl.proofs.OutputLemmas.{written_some}

-- One piece

-- after the buffer was written, writing a piece writes all of both, or fails after a proper prefix of both
by_one : (before piece w k after : List ℕ) (r : Result (Unit {0}) WriteFailed) → w ≡ before → after ≡ []
    → IsWritten piece k r → MatchResult r (λ x. before ++ piece ≡ (w ++ k) ++ after)
    (λ failed. IsProperPrefix (w ++ k) (before ++ piece))
by_one before piece w k after (Ok tt) e z h = cc (written_all piece k (Ok tt) refl h, append-nil (w ++ k))
by_one before piece w k after (Err failed) e z h =
    let P : List ℕ → Type 0 = λ s. IsProperPrefix (w ++ k) (s ++ piece) in
    subst P e (beginning_after w k piece (written_some piece k (Err failed) failed refl h))

-- the buffer was written, and then the piece; the buffer is empty now
pub gathers_long : {before piece : List ℕ} {a b d : Option (List ℕ)} {r : Result (Unit {0}) WriteFailed} (n : ℕ)
    (bytes : List ℕ) → n ≡ 0 → Writes before a b (Ok tt) → Writes piece b d r
    → Gathers piece before (take n bytes) a d r
gathers_long {before} {piece} {a} {b} {d} {r} n bytes z w k = record {
  written = w.written ++ k.written;
  appended = appends_then a b d w.written k.written w.appended k.appended;
  took = by_one before piece w.written k.written (take n bytes) r
      (written_all before w.written (Ok tt) refl w.is_written) (ap (λ m. take m bytes) z) k.is_written;
}

-- the buffer was not written completely
pub gathers_none : {before piece : List ℕ} {a b : Option (List ℕ)} {failed : WriteFailed} (after : List ℕ)
    → Writes before a b (Err failed) → Gathers piece before after a b (Err failed)
gathers_none {before} {piece} {failed = failed} after w = record {
  written = w.written;
  appended = w.appended;
  took = beginning_of w.written before (before ++ piece)
      (written_some before w.written (Err failed) failed refl w.is_written) (piece, refl);
}

-- The end

-- if the bytes written are those in the buffer, the buffer is flushed
flush_whole : (bytes w : List ℕ) (end : End) → w ≡ bytes → IsFlushed bytes end w end
flush_whole bytes w end e = let P : List ℕ → Type 0 = λ s. IsFlushed bytes end s end in subst P (sym e) flushed

-- if the bytes in the buffer are all written, the end stays as it is
pub flushes_all : {bytes : List ℕ} {a b : Option (List ℕ)} (end : End) → Writes bytes a b (Ok tt)
    → Flushes bytes end a b end
flushes_all {bytes} end w = record {
  written = w.written;
  appended = w.appended;
  is_flushed = flush_whole bytes w.written end (written_all bytes w.written (Ok tt) refl w.is_written);
}

-- if the bytes in the buffer are not all written, the end is a failed write
pub flushes_some : {bytes : List ℕ} {a b : Option (List ℕ)} {failed : WriteFailed} (end : End)
    → Writes bytes a b (Err failed) → Flushes bytes end a b (Err Write)
flushes_some {bytes} {failed = failed} end w = record {
  written = w.written;
  appended = w.appended;
  is_flushed = not_flushed (written_some bytes w.written (Err failed) failed refl w.is_written);
}

-- Runs

-- the pieces of a run: all of them were written or are in the buffer, in order; or a call returned an error, and a
-- prefix of them was written
pub record RunGathers (held now : Option (List ℕ)) (before after bytes : List ℕ) (refused : Option WriteFailed) : Type 0
  where
    pub written : List ℕ
    pub appended : Appends held now written
    pub took : MatchOption refused (before ++ bytes ≡ written ++ after)
        (λ failed. IsProperPrefix written (before ++ bytes))

-- first one piece, and then more
then_more : (later : Option WriteFailed) (before piece rest mid after w k : List ℕ) → before ++ piece ≡ w ++ mid
    → MatchOption later (mid ++ rest ≡ k ++ after) (λ failed. IsProperPrefix k (mid ++ rest))
    → MatchOption later (before ++ (piece ++ rest) ≡ (w ++ k) ++ after)
    (λ failed. IsProperPrefix (w ++ k) (before ++ (piece ++ rest)))
then_more None before piece rest mid after w k e h =
    cc (append_assoc before piece rest, append_assoc w mid rest, append_assoc w k after)
then_more (Some failed) before piece rest mid after w k e h =
    let same : w ++ (mid ++ rest) ≡ before ++ (piece ++ rest) = cc (
      append_assoc w mid rest,
      append_assoc before piece rest,
    ) in
    let P : List ℕ → Type 0 = λ s. IsProperPrefix (w ++ k) s in
    subst P same (beginning_after w k (mid ++ rest) h)

-- a piece that is gathered, and then a run that gathers the rest, gather the piece and the rest
gather_more : (r : Result (Unit {0}) WriteFailed) (piece rest before mid after : List ℕ) (later : Option WriteFailed)
    (a b d : Option (List ℕ)) → Gathers piece before mid a b r → (IsErr r → b ≡ d) → RunGathers b d mid after rest later
    → RunGathers a d before after (piece ++ rest) (option_or (result_err r) later)
gather_more (Ok tt) piece rest before mid after later a b d g last k = record {
  written = g.written ++ k.written;
  appended = appends_then a b d g.written k.written g.appended k.appended;
  took = then_more later before piece rest mid after g.written k.written g.took k.took;
}
gather_more (Err failed) piece rest before mid after later a b d g last k =
    let P : Option (List ℕ) → Type 0 = λ x. Appends a x g.written in
    record {
      written = g.written;
      appended = subst P (last refl) g.appended;
      took = beginning_of g.written (before ++ piece) (before ++ (piece ++ rest)) g.took
          (rest, sym (append_assoc before piece rest));
    }

module _ {F : Type 0} (step : F → List ℕ → Result (Unit {0}) WriteFailed → F → Type 0) (holds : F → Option (List ℕ))
    (waits : F → List ℕ) (gathers : (f : F) (piece : List ℕ) (r : Result (Unit {0}) WriteFailed) (g : F)
    → step f piece r g → Gathers piece (waits f) (waits g) (holds f) (holds g) r) where
  -- a run of no calls does not change the closure
  run_stops : (cs : List (Call F WriteFailed)) (f g : F) → cs ≡ [] → IsRun step f cs g → f ≡ g
  run_stops [] f g e ran = ran
  run_stops (c ∷ cs) f g e ran = absurd (let k = e in cc)

  -- if each call gathers its piece, a run gathers the pieces of all its calls
  pub run_gathers : (cs : List (Call F WriteFailed)) (f g : F) → IsRun step f cs g
      → RunGathers (holds f) (holds g) (waits f) (waits g) (joined_pieces cs) (refusal cs)
  run_gathers [] f g ran =
      let P : F → Type 0 = λ s. Appends (holds f) (holds s) [] in
      record { written = []; appended = subst P ran (appends_none (holds f)); took = cc (append-nil (waits f)) }
  run_gathers (c ∷ cs) f g ran =
      gather_more c.answer c.piece (joined_pieces cs) (waits f) (waits c.after) (waits g) (refusal cs) (holds f)
      (holds c.after) (holds g) (gathers f c.piece c.answer c.after ran.0)
      (λ e. ap holds (run_stops cs c.after g (ran.1 e) ran.2)) (run_gathers cs c.after g ran.2)
