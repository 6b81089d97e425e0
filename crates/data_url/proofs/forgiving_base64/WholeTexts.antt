-- A whole text, fed and finished. For `decode_whole` and `decode_to_vec`.
use Rattle.std.proofs.Common.{Err, refl, ap, sym, ◌∙◌, subst, inl, inr, arith, append_assoc, length-append, MatchBool}
use Rattle.std.{proofs.Common.{append-nil}, proofs.lemmas.Bool.{cases_Bool}}
use Rattle.std.proofs.Common.{◌≡◌, ◌⊎◌, ℕ, Bool, true, false, cond, List, [], ◌++◌, Option, None, Some, Result, Ok}
use Rattle.data_url.specs.Base64.{decoded, complete_bytes, is_valid, kind_of, left_padding, left_symbols, left_text}
use Rattle.data_url.specs.Decoder.{Feeds, Finishes, IsTaken, State, left_over, start}
use Rattle.data_url.specs.{Laws.{GoesOn}, declared.forgiving_base64.DecodeError.{DecodeError}}
use Rattle.data_url.specs.Run.{IsPrefix, joined_pieces, refusal}
use Rattle.data_url.specs.{Steps.Whole.{DecodesText}, declared.forgiving_base64.DecodeError.TheVariants.{InvalidBase64}}
use Rattle.data_url.proofs.{forgiving_base64.Groups.{two_feeds}, runs.Runs.{prefix_trans, refusal-append, run-append}}
use Rattle.data_url.proofs.forgiving_base64.Padding.{fault_byte, fault_invalid, none_fault, valid_no_fault}
use Rattle.data_url.proofs.forgiving_base64.Steps.{bool_at_false, bool_at_true, feeds_none, feeds_goes_on, feeds_took}
use Rattle.data_url.proofs.runs.Runs.{joined_pieces-append, match_at, match_map, match_none, prefix_all, run_keeps}
use Rattle.data_url.proofs.runs.Runs.{run_reads}

-- `MatchBool b P Q` gives that b is true, with P, or that b is false, with Q
split_bool : (b : Bool) (P Q : Type 0) → MatchBool b P Q → ((b ≡ true) × P) ⊎ ((b ≡ false) × Q)
split_bool true P Q h = inl (refl, h)
split_bool false P Q h = inr (refl, h)

-- all bytes that the closure is called with, if it returns no error
abbrev pub whole_bytes : List ℕ → List ℕ
whole_bytes u = cond (is_valid u) (decoded u) (complete_bytes u)

-- the complete bytes of a text are a prefix of all its bytes
pub done_whole : (u : List ℕ) → IsPrefix (complete_bytes u) (whole_bytes u)
done_whole u = elim (cases_Bool (is_valid u)) [
  | inl e ↦
      let g = two_feeds u [] (none_fault u (valid_no_fault u e)) in
      (decoded (left_text (left_symbols u) (left_padding u) ++ []), cc (e, append-nil u, g.decoded_is))
  | inr e ↦ prefix_all (complete_bytes u) (whole_bytes u) (cc e)
]

-- a text that has a fault while it is fed is not valid
taken_invalid : {F E : Type 0} (u bytes : List ℕ) (r : Result (Unit {0}) (DecodeError E)) (x : DecodeError E)
    (d : State F) (o : Option ℕ) → r ≡ Err x → fault_byte false u ≡ o → IsTaken u bytes r d
    → MatchBool (is_valid u) ((bytes ≡ decoded u) × (r ≡ Ok tt)) ((bytes ≡ complete_bytes u)
    × (r ≡ Err (InvalidBase64 (kind_of u))))
taken_invalid u bytes r x d None q h t = grind (arith, none_fault)
taken_invalid u bytes r x d (Some c) q h t = grind (arith, fault_invalid)

module _ {F E : Type 0} (step : F → List ℕ → Result (Unit {0}) E → F → Type 0) where
  -- an error while a text is fed after what was left over
  pub refused_after : {d d' : State F} {a : List ℕ} {x : DecodeError E} → Feeds step d a (Err x) d'
      → DecodesText step d.closure (left_over d ++ a) (Err x) d'.closure
  refused_after {d} {d'} {a} {x} f =
      let u : List ℕ = left_over d ++ a in
      record {
        run = f.run;
        ran = f.ran;
        calls = omega (arith, f.calls, length-append (left_over d) a);
        gave = match_map (refusal f.run) _ _ _ _
            (taken_invalid u (joined_pieces f.run) (Err x) x d' (fault_byte false u) refl refl)
            (λ e h. record {
              bytes_begin = prefix_trans (joined_pieces f.run) (complete_bytes u)
                  (whole_bytes u) h.bytes_begin (done_whole u);
              answer = h.answer;
            })
            f.gave;
      }

  -- a text is fed after what was left over, and finished
  pub finished_after : {d d' : State F} {a : List ℕ} {r : Result (Unit {0}) (DecodeError E)} {f' : F}
      → Feeds step d a (Ok tt) d' → Finishes step d' r f' → DecodesText step d.closure (left_over d ++ a) r f'
  finished_after {d} {d'} {a} {r} {f'} f g =
      let u : List ℕ = left_over d ++ a in
      let k = feeds_took step f in
      let taken : joined_pieces f.run ≡ complete_bytes u = k.1.bytes_are in
      let on : GoesOn u [] (left_over d' ++ []) = feeds_goes_on step [] f in
      let valid : is_valid u ≡ is_valid (left_over d') = cc (append-nil u, append-nil (left_over d')) in
      let kind : kind_of u ≡ kind_of (left_over d') = cc (append-nil u, append-nil (left_over d')) in
      let all : decoded u ≡ complete_bytes u ++ decoded (left_over d') = cc (append-nil u, append-nil (left_over d')) in
      let bytes : joined_pieces (f.run ++ g.run) ≡ complete_bytes u ++ joined_pieces g.run =
      joined_pieces-append f.run g.run ∙ ap (λ x. x ++ joined_pieces g.run) taken in
      record {
        run = f.run ++ g.run;
        ran = run-append step f.run g.run d.closure d'.closure f' f.ran k.0 g.ran;
        calls = omega (arith, f.calls, g.calls, length-append f.run g.run, length-append (left_over d) a);
        gave = match_at (refusal g.run) (refusal (f.run ++ g.run)) _ _ (refusal-append f.run g.run k.0)
            (elim (split_bool (is_valid (left_over d')) _ _ g.gave) [
              | inl (v, h) ↦
                  let good : is_valid u ≡ true = valid ∙ v in
                  match_map (refusal g.run) _ _ _ _
                  (λ w. bool_at_true (is_valid u) _ _ good (bytes ∙ ap (λ x. complete_bytes u ++ x) w.0 ∙ sym all, w.1))
                  (λ e w. record {
                    bytes_begin = (
                      w.bytes_begin.0,
                      cc (append_assoc (complete_bytes u) (joined_pieces g.run) w.bytes_begin.0),
                    );
                    answer = w.answer;
                  })
                  h
              | inr (v, h) ↦ grind (arith, match_none, bool_at_false, append-nil)
            ]);
      }

  -- a new decoder is fed nothing
  pub fed_nothing : {d : State F} {f : F} → d ≡ start f → Feeds step (start f) [] (Ok tt) d
  fed_nothing {d} {f} e = grind (arith, feeds_none)

  -- if feeding a new decoder the text u returns an error, decoding u returns it
  pub decodes_refused : {d d' : State F} {f : F} {u : List ℕ} {x : DecodeError E} → d ≡ start f
      → Feeds step d u (Err x) d' → DecodesText step f u (Err x) d'.closure
  decodes_refused {d} {d'} {f} {u} {x} e g =
      let P : State F → Type 0 = λ s. Feeds step s u (Err x) d' in refused_after (subst P e g)

  -- feeding a new decoder the text u and then finishing it decodes u
  pub decodes_finished : {d d' : State F} {f f' : F} {u : List ℕ} {r : Result (Unit {0}) (DecodeError E)} → d ≡ start f
      → Feeds step d u (Ok tt) d' → Finishes step d' r f' → DecodesText step f u r f'
  decodes_finished {d} {d'} {f} {f'} {u} e g h =
      let P : State F → Type 0 = λ s. Feeds step s u (Ok tt) d' in
      finished_after (subst P e g) h

-- A closure that appends its bytes

-- what a closure that appends its bytes holds after a text was decoded
pub decodes_reads : {F E : Type 0} {step : F → List ℕ → Result (Unit {0}) E → F → Type 0} {f f' : F} {u : List ℕ}
    {r : Result (Unit {0}) (DecodeError E)} → DecodesText step f u r f' → r ≡ Ok tt → (J : F → List ℕ)
    → ((g : F) (piece : List ℕ) (g' : F) → step g piece (Ok tt) g' → J g' ≡ J g ++ piece) → J f' ≡ J f ++ decoded u
decodes_reads {F} {E} {step} {f} {f'} {u} {r} h q J keeps = grind (arith, run_reads)

-- what each call preserves, decoding a text preserves
pub decodes_keeps : {F E A : Type 0} {step : F → List ℕ → Result (Unit {0}) E → F → Type 0} {f f' : F} {u : List ℕ}
    {r : Result (Unit {0}) (DecodeError E)} → DecodesText step f u r f' → (K : F → A)
    → ((g : F) (piece : List ℕ) (r : Result (Unit {0}) E) (g' : F) → step g piece r g' → K g ≡ K g') → K f ≡ K f'
decodes_keeps {step = step} {f = f} {f' = f'} h K keeps = run_keeps step K keeps h.run f f' h.ran
