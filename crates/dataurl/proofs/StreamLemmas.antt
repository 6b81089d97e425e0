-- Base64 that is decoded as it is read, for the contract of `run` with the command `base64`.
use Rattle.std.proofs.Common.{◌≡◌, ◌≤◌, ◌⊎◌, inl, inr, ℕ, Bool, true, false, cond, List, [], ◌++◌, length, Option, None}
use Rattle.std.proofs.Common.{Some, is_some, Result, Ok, Err, refl, sym, ap, ◌∙◌, subst, arith}
use Rattle.std.specs.Io.KnownBytes.{Appends, Consumes, IsAtEnd, Keeps}
use Rattle.std.specs.Prelude.{MatchBool, MatchOption}
use Rattle.std.proofs.lemmas.List.{append-nil}
use Rattle.data_url.specs.Base64.{decoded, complete_bytes, first_fault, is_valid, kind_of}
use Rattle.data_url.specs.Decoder.{Feeds, Finishes, IsTaken, State, start}
use Rattle.data_url.specs.Errors.{IsRefused}
use Rattle.data_url.specs.Run.{Call, IsRun, joined_pieces, refusal}
use Rattle.data_url.proofs.api.{DecodesText, decodes_finished, fed_nothing, feeds_then, feeds_took, match_at_none}
use Rattle.data_url.proofs.api.{run_keeps}
use Rattle.data_url.specs.declared.forgiving_base64.DecodeError.{DecodeError}
use Rattle.data_url.specs.declared.forgiving_base64.DecodeError.TheVariants.{InvalidBase64}
use Rattle.dataurl.specs.Output.{End, IsOutput, of_base64, of_no_base64}
use Rattle.dataurl.specs.Runs.{IsProperPrefix, IsResult, IsSoundBeforeLastPiece, Runs, base64_not_read}
use Rattle.dataurl.specs.Runs.{base64_not_written, complete, not_written, stopped as stopped_at_fault}
use Rattle.dataurl.specs.Steps.Base64.{DecodesReader, FeedsText, IsDecoded, finished, not_read, stopped}
use Rattle.dataurl.specs.Steps.Gathering.{Flushes, Gathers, IsFlushed, IsSettled, Settles, flushed, not_flushed}
use Rattle.dataurl.specs.declared.command.Command.TheVariants.{Base64 as base64}
use Rattle.dataurl.specs.declared.fault.Fault.TheVariants.{Base64, Read, Write}
use Rattle.dataurl.specs.declared.fault.WriteFailed.{WriteFailed}
use Rattle.dataurl.specs.declared.stream.Ended.TheVariants.{Decoded, ReadFailed}
use Rattle.dataurl.specs.declared.stream.Ended.{Ended}
use Rattle.dataurl.proofs.GatherLemmas.{run_gathers}
use Rattle.dataurl.proofs.InputLemmas.{consumes_kept, consumes_none, consumes_then}
use Rattle.dataurl.proofs.OutputLemmas.{appends_then, beginning_after, beginning_of}

-- Reading

module _ {F : Type 0} (step : F → List ℕ → Result (Unit {0}) WriteFailed → F → Type 0) where
  -- what was read so far has no fault, and was fed to the decoder
  pub record Reading (f : F) (unread now : Option (List ℕ)) (d : State F) : Type 0 where
    pub input : List ℕ
    pub consumed : Consumes unread now input
    pub fed : Feeds step (start f) input (Ok tt) d

  -- a new decoder has read nothing
  pub reading_none : {f : F} {d : State F} (unread : Option (List ℕ)) → d ≡ start f → Reading f unread unread d
  reading_none unread e = record { input = []; consumed = consumes_none unread; fed = fed_nothing step e }

  -- if feeding an input to a new decoder returned `Ok`, the input has no fault
  no_fault : {f : F} {d : State F} {input : List ℕ} → Feeds step (start f) input (Ok tt) d → first_fault input ≡ None
  no_fault fed = (feeds_took step fed).1.no_fault

  module _ {f : F} {unread now left : Option (List ℕ)} {d : State F} where
    -- one more piece
    pub reading_more : {d' : State F} (piece : List ℕ) → Reading f unread now d → Consumes now left piece
        → Feeds step d piece (Ok tt) d' → Reading f unread left d'
    reading_more piece h c more = grind (arith, consumes_then, feeds_then)

    -- a piece with a fault, or for whose bytes the closure returned an error
    pub reading_stops : {d' : State F} {g : F} {error : DecodeError WriteFailed} (piece : List ℕ)
        → Reading f unread now d → Consumes now left piece → length piece ≤ 4096
        → Feeds step d piece (Err error) d' → g ≡ d'.closure
        → DecodesReader step f unread left (Decoded (Err error)) g
    reading_stops {d'} piece h c few more e = record {
      input = h.input ++ piece;
      consumed = consumes_then unread now left h.input piece h.consumed c;
      is_decoded = stopped
          (record { earlier = h.input; last = piece; joined = refl; is_sound = no_fault h.fed; is_piece = few })
          (record { state = d'; fed = feeds_then step h.fed more; closure_is = sym e });
    }

    -- the end of the input
    pub reading_ends : {r : Result (Unit {0}) (DecodeError WriteFailed)} {g : F} (piece : List ℕ)
        → Reading f unread now d → Consumes now left piece → piece ≡ [] → IsAtEnd left
        → Finishes step d r g → DecodesReader step f unread left (Decoded r) g
    reading_ends piece h c z over ends =
        let same : h.input ++ piece ≡ h.input = ap (λ s. h.input ++ s) z ∙ append-nil h.input in
        let P : List ℕ → Type 0 = λ s. Consumes unread left s in
        record {
          input = h.input;
          consumed = subst P same (consumes_then unread now left h.input piece h.consumed c);
          is_decoded = finished over (no_fault h.fed) (decodes_finished step refl h.fed ends);
        }

    -- a failed read
    pub reading_fails : {g : F} → Reading f unread now d → Keeps now left → g ≡ d.closure
        → DecodesReader step f unread left ReadFailed g
    reading_fails h k e = record {
      input = h.input;
      consumed = consumes_kept unread now left h.input h.consumed k;
      is_decoded = not_read (record { state = d; fed = h.fed; closure_is = sym e });
    }

  -- too many reads
  pub reading_too_long : {f g : F} {unread now : Option (List ℕ)} {d : State F} → Reading f unread now d → g ≡ d.closure
      → DecodesReader step f unread now ReadFailed g
  reading_too_long {d = d} h e = record {
    input = h.input;
    consumed = h.consumed;
    is_decoded = not_read (record { state = d; fed = h.fed; closure_is = sym e });
  }

-- Results: w was written before the last flush, and k by the last flush

-- all the base64 that was read has no fault
sound_of : (x : List ℕ) → first_fault x ≡ None → IsSoundBeforeLastPiece x
sound_of x n = record { earlier = x; last = []; joined = sym (append-nil x); is_sound = n; is_piece = omega arith }

-- the last flush, at the end of a whole output
flush_ends : (x : List ℕ) (left : Option (List ℕ)) (all after w k : List ℕ) (whole end : End) → IsAtEnd left
    → IsOutput x base64 all whole → all ≡ w ++ after → IsFlushed after whole k end
    → IsResult x left base64 (w ++ k) end
flush_ends x left all after w k whole end over p e flushed =
    let P : List ℕ → Type 0 = λ s. IsOutput x base64 s whole in
    complete over (subst P e p)
flush_ends x left all after w k whole end over p e (not_flushed b) =
    let P : List ℕ → Type 0 = λ s. IsProperPrefix (w ++ k) s in
    not_written over p (subst P (sym e) (beginning_after w k after b))

-- the last flush, of the groups before another end
flush_stops : (x : List ℕ) (left : Option (List ℕ)) (after w k : List ℕ) (last end : End)
    → IsSoundBeforeLastPiece x → IsResult x left base64 (complete_bytes x) last
    → complete_bytes x ≡ w ++ after → IsFlushed after last k end → IsResult x left base64 (w ++ k) end
flush_stops x left after w k last end sound p e flushed = grind arith
flush_stops x left after w k last end sound p e (not_flushed b) =
    let P : List ℕ → Type 0 = λ s. IsProperPrefix (w ++ k) s in
    base64_not_written sound (subst P (sym e) (beginning_after w k after b))

-- the output for a text without a fault, for a valid one and for one that is not
whole_output : (x : List ℕ) (v : Bool) → is_valid x ≡ v → first_fault x ≡ None
    → (end : End) × IsOutput x base64 (cond v (decoded x) (complete_bytes x)) end
whole_output x true v n = (Ok tt, of_base64 v)
whole_output x false v n = (Err (Base64 (kind_of x)), of_no_base64 n v)

-- if an input was decoded to its end, valid or not, what was written is the result of `base64`
finished_ends : (x : List ℕ) (left : Option (List ℕ)) (bytes after w k : List ℕ)
    (r : Result (Unit {0}) (DecodeError WriteFailed)) (end : End) (v : Bool) → is_valid x ≡ v
    → IsAtEnd left → first_fault x ≡ None
    → MatchBool v ((bytes ≡ decoded x) × (r ≡ Ok tt)) ((bytes ≡ complete_bytes x)
    × (r ≡ Err (InvalidBase64 (kind_of x))))
    → bytes ≡ w ++ after → IsSettled r after k end → IsResult x left base64 (w ++ k) end
finished_ends x left bytes after w k r end true v over n h e s =
    let P : Result (Unit {0}) (DecodeError WriteFailed) → Type 0 = λ x. IsSettled x after k end in
    flush_ends x left (decoded x) after w k (Ok tt) end over (of_base64 v) (sym h.0 ∙ e) (subst P h.1 s)
finished_ends x left bytes after w k r end false v over n h e s =
    let P : Result (Unit {0}) (DecodeError WriteFailed) → Type 0 = λ x. IsSettled x after k end in
    flush_ends x left (complete_bytes x) after w k (Err (Base64 (kind_of x))) end over (of_no_base64 n v) (sym h.0 ∙ e)
    (subst P h.1 s)

-- if the closure returned an error, a write failed: the bytes written are a proper prefix
refused_write : {all bytes : List ℕ} (after w k : List ℕ) (r : Result (Unit {0}) (DecodeError WriteFailed)) (end : End)
    (failed : WriteFailed) → IsRefused all bytes failed r → IsProperPrefix w bytes → IsSettled r after k end
    → IsProperPrefix (w ++ k) all × (end ≡ Err Write)
refused_write {all} {bytes} after w k r end failed h b s =
    let P : Result (Unit {0}) (DecodeError WriteFailed) → Type 0 = λ x. IsSettled x after k end in
    let Q : List ℕ → Type 0 = λ s. IsProperPrefix s all in
    let q = subst P h.answer s in
    (subst Q (sym (ap (λ s. w ++ s) q.0 ∙ append-nil w)) (beginning_of w bytes all b h.bytes_begin), q.1)

-- if an input was decoded to its end, or a write failed, what was written is the result of `base64`
finished_result : (refused : Option WriteFailed) (x : List ℕ) (left : Option (List ℕ)) (bytes after w k : List ℕ)
    (r : Result (Unit {0}) (DecodeError WriteFailed)) (end : End) → IsAtEnd left → first_fault x ≡ None
    → MatchOption refused
    (MatchBool (is_valid x) ((bytes ≡ decoded x) × (r ≡ Ok tt)) ((bytes ≡ complete_bytes x)
    × (r ≡ Err (InvalidBase64 (kind_of x)))))
    (λ failed. IsRefused (cond (is_valid x) (decoded x) (complete_bytes x)) bytes failed r)
    → MatchOption refused (bytes ≡ w ++ after) (λ failed. IsProperPrefix w bytes)
    → IsSettled r after k end → IsResult x left base64 (w ++ k) end
finished_result None x left bytes after w k r end over n h e s = grind (arith, finished_ends)
finished_result (Some failed) x left bytes after w k r end over n h b s =
    let q = refused_write after w k r end failed h b s in
    let P : End → Type 0 = λ e. IsResult x left base64 (w ++ k) e in
    subst P (sym q.1) (not_written over (whole_output x (is_valid x) refl n).1 q.0)

-- if decoding stopped at a fault, what was written is the result of `base64`
stopped_ends : (x : List ℕ) (left : Option (List ℕ)) (bytes after w k : List ℕ)
    (r : Result (Unit {0}) (DecodeError WriteFailed)) (error : DecodeError WriteFailed) (end : End) (P : Type 0)
    (o : Option ℕ) → first_fault x ≡ o → r ≡ Err error → IsSoundBeforeLastPiece x → bytes ≡ complete_bytes x
    → MatchOption o ((r ≡ Ok tt) × P) (λ place. r ≡ Err (InvalidBase64 (kind_of x))) → bytes ≡ w ++ after
    → IsSettled r after k end → IsResult x left base64 (w ++ k) end
stopped_ends x left bytes after w k r error end P None f q sound b h e s = absurd (let k = h.0 in cc)
stopped_ends x left bytes after w k r error end P (Some place) f q sound b h e s =
    let Q : Result (Unit {0}) (DecodeError WriteFailed) → Type 0 = λ x. IsSettled x after k end in
    flush_stops x left after w k (Err (Base64 (kind_of x))) end sound (stopped_at_fault sound (ap is_some f)) (cc)
    (subst Q h s)

-- if decoding stopped at a fault or at a failed write, what was written is the result of `base64`
stopped_result : {F : Type 0} (refused : Option WriteFailed) (x : List ℕ) (left : Option (List ℕ))
    (bytes after w k : List ℕ) (r : Result (Unit {0}) (DecodeError WriteFailed)) (error : DecodeError WriteFailed)
    (d : State F) (end : End) → r ≡ Err error → IsSoundBeforeLastPiece x
    → MatchOption refused (IsTaken x bytes r d) (λ failed. IsRefused (complete_bytes x) bytes failed r)
    → MatchOption refused (bytes ≡ w ++ after) (λ failed. IsProperPrefix w bytes)
    → IsSettled r after k end → IsResult x left base64 (w ++ k) end
stopped_result None x left bytes after w k r error d end q sound h e s =
    stopped_ends x left bytes after w k r error end _ (first_fault x) refl q sound h.bytes_are h.answer e s
stopped_result (Some failed) x left bytes after w k r error d end q sound h b s =
    let q = refused_write after w k r end failed h b s in
    let P : End → Type 0 = λ e. IsResult x left base64 (w ++ k) e in
    subst P (sym q.1) (base64_not_written sound q.0)

-- Closures that gather

module _ {F : Type 0} {step : F → List ℕ → Result (Unit {0}) WriteFailed → F → Type 0} where
  -- an input that was decoded was decoded to its end without a fault, or up to an error in its last piece
  decoded_or : {f : F} {x : List ℕ} {left : Option (List ℕ)} {ended : Ended} {g : F}
      (r : Result (Unit {0}) (DecodeError WriteFailed)) → ended ≡ Decoded r → IsDecoded step f x left ended g
      → (IsAtEnd left × (first_fault x ≡ None) × DecodesText step f x r g)
      ⊎ ((error : DecodeError WriteFailed) × (r ≡ Err error) × IsSoundBeforeLastPiece x × FeedsText step f x r g)
  decoded_or {f} {x} {left} {ended} {g} r e (finished {r = s} over n d) = grind arith
  decoded_or {f} {x} {left} {ended} {g} r e (stopped {error = error} sound d) = grind arith
  decoded_or {f} {x} {left} {ended} {g} r e (not_read d) = absurd (let k = e in cc)

  -- if a read failed, the bytes read before it were fed to a new decoder without an error
  unread_fed : {f : F} {x : List ℕ} {left : Option (List ℕ)} {ended : Ended} {g : F} → ended ≡ ReadFailed
      → IsDecoded step f x left ended g → FeedsText step f x (Ok tt) g
  unread_fed e (finished over n d) = absurd (let k = e in cc)
  unread_fed e (stopped sound d) = absurd (let k = e in cc)
  unread_fed e (not_read d) = d

  -- what each call preserves, all calls preserve
  decoded_keeps : {B : Type 0} {f : F} {x : List ℕ} {left : Option (List ℕ)} {ended : Ended} {g : F} (kept : F → B)
      → ((p : F) (piece : List ℕ) (s : Result (Unit {0}) WriteFailed) (q : F) → step p piece s q → kept p ≡ kept q)
      → IsDecoded step f x left ended g → kept f ≡ kept g
  decoded_keeps {f = f} {g = g} kept keeps (finished over n d) = run_keeps step kept keeps d.run f g d.ran
  decoded_keeps {f = f} kept keeps (stopped sound d) = run_keeps step kept keeps d.fed.run f d.state.closure d.fed.ran
      ∙ ap kept d.closure_is
  decoded_keeps {f = f} kept keeps (not_read d) = run_keeps step kept keeps d.fed.run f d.state.closure d.fed.ran
      ∙ ap kept d.closure_is

  -- what each call preserves, decoding from a reader preserves
  pub reader_keeps : {B : Type 0} {f g : F} {unread left : Option (List ℕ)} {ended : Ended}
      → DecodesReader step f unread left ended g → (kept : F → B)
      → ((p : F) (piece : List ℕ) (s : Result (Unit {0}) WriteFailed) (q : F) → step p piece s q → kept p ≡ kept q)
      → kept f ≡ kept g
  reader_keeps d kept keeps = decoded_keeps kept keeps d.is_decoded

  -- pieces that a closure with an empty buffer gathered, and then the last flush
  runs_by : {f g : F} {unread left now : Option (List ℕ)} {end : End} (holds : F → Option (List ℕ)) (waits : F → List ℕ)
      → ((p : F) (piece : List ℕ) (s : Result (Unit {0}) WriteFailed) (q : F) → step p piece s q
      → Gathers piece (waits p) (waits q) (holds p) (holds q) s)
      → (cs : List (Call F WriteFailed)) (h : F) (x k : List ℕ) → IsRun step f cs h → h ≡ g → waits f ≡ []
      → Consumes unread left x → Appends (holds g) now k
      → ((w : List ℕ) → MatchOption (refusal cs) (joined_pieces cs ≡ w ++ waits g)
      (λ failed. IsProperPrefix w (joined_pieces cs)) → IsResult x left base64 (w ++ k) end)
      → Runs base64 unread left (holds f) now end
  runs_by {f} {g} {now = now} holds waits gathers cs h x k ran same e c a ends =
      let P : F → Type 0 = λ s. IsRun step f cs s in
      let w = run_gathers step holds waits gathers cs f g (subst P same ran) in
      let Q : List ℕ → Type 0 = λ before. MatchOption (refusal cs) (before ++ joined_pieces cs ≡ w.written ++ waits g)
      (λ failed. IsProperPrefix w.written (before ++ joined_pieces cs)) in
      record {
        input = x;
        written = w.written ++ k;
        consumed = c;
        appended = appends_then (holds f) (holds g) now w.written k w.appended a;
        is_run = ends w.written (subst Q e w.took);
      }

  -- the input that was read was decoded
  pub decoded_runs : {f g : F} {unread left now : Option (List ℕ)} {ended : Ended} {end : End}
      {r : Result (Unit {0}) (DecodeError WriteFailed)}
      → DecodesReader step f unread left ended g → ended ≡ Decoded r
      → (holds : F → Option (List ℕ)) (waits : F → List ℕ)
      → ((p : F) (piece : List ℕ) (s : Result (Unit {0}) WriteFailed) (q : F) → step p piece s q
      → Gathers piece (waits p) (waits q) (holds p) (holds q) s)
      → waits f ≡ [] → Settles r (waits g) (holds g) now end → Runs base64 unread left (holds f) now end
  decoded_runs {f} {g} {unread} {left} {now} {ended} {end} {r} d e holds waits gathers z s =
      elim (decoded_or r e d.is_decoded) [
        | inl h ↦
            runs_by holds waits gathers h.2.run g d.input s.written h.2.ran refl z d.consumed s.appended
            (λ w took. finished_result (refusal h.2.run) d.input left (joined_pieces h.2.run) (waits g) w s.written r
            end
            h.0 h.1 h.2.gave took s.is_settled)
        | inr h ↦
            let fed = h.3.fed in
            runs_by holds waits gathers fed.run h.3.state.closure d.input s.written fed.ran h.3.closure_is z d.consumed
            s.appended
            (λ w took. stopped_result (refusal fed.run) d.input left (joined_pieces fed.run) (waits g) w s.written r h.0
            h.3.state end h.1 h.2 fed.gave took s.is_settled)
      ]

  -- a read failed
  pub unread_runs : {f g : F} {unread left now : Option (List ℕ)} {ended : Ended} {end : End}
      → DecodesReader step f unread left ended g → ended ≡ ReadFailed
      → (holds : F → Option (List ℕ)) (waits : F → List ℕ)
      → ((p : F) (piece : List ℕ) (s : Result (Unit {0}) WriteFailed) (q : F) → step p piece s q
      → Gathers piece (waits p) (waits q) (holds p) (holds q) s)
      → waits f ≡ [] → Flushes (waits g) (Err Read) (holds g) now end → Runs base64 unread left (holds f) now end
  unread_runs {f} {g} {unread} {left} {now} {ended} {end} d e holds waits gathers z s =
      let h = unread_fed e d.is_decoded in
      let t = feeds_took step h.fed in
      runs_by holds waits gathers h.fed.run h.state.closure d.input s.written h.fed.ran h.closure_is z d.consumed
      s.appended
      (λ w took. flush_stops d.input left (waits g) w s.written (Err Read) end (sound_of d.input t.1.no_fault)
      (base64_not_read t.1.no_fault) (sym t.1.bytes_are ∙ match_at_none (refusal h.fed.run) _ _ t.0 took)
      s.is_flushed)
