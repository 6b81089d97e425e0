-- A decoder that goes on after what a text has left over. For `decode_part` and the calls in parts.
use Rattle.std.proofs.Common.{◌≡◌, Err, List, None, Ok, Option, Result, ap, arith, length, length-append}
use Rattle.std.proofs.Common.{Bool, MatchBool, MatchOption, Some, drop, false, length-take, refl, subst, sym, take}
use Rattle.std.proofs.Common.{true, ◌*◌, ◌+◌, ◌++◌, ◌/◌, ◌∙◌, ◌≤◌, ℕ}
use Rattle.std.proofs.lemmas.List.{length-map, take-append-drop}
use Rattle.std.proofs.lemmas.List.Elements.{filter-append}
use Rattle.std.specs.List.{filter}
use Rattle.data_url.specs.Base64.{Kind, before_place, complete_bytes, decoded, first_fault, is_symbol}
use Rattle.data_url.specs.Base64.{is_valid, kind_of, values}
use Rattle.data_url.specs.Decoder.{Feeds, IsLeft, IsTaken, State, left_over}
use Rattle.data_url.specs.Errors.{IsRefused}
use Rattle.data_url.specs.Run.{IsRun, joined_pieces, refusal}
use Rattle.data_url.specs.Parts.{IsFed, IsLeftOver, left_over_text}
use Rattle.data_url.specs.Steps.Parts.{DecodesPart, FinishesPart, HoldsLeft, IsResumed}
use Rattle.data_url.specs.declared.forgiving_base64.DecodeError.{DecodeError}
use Rattle.data_url.specs.declared.forgiving_base64.DecodeError.TheVariants.{InvalidBase64}
use Rattle.data_url.specs.declared.forgiving_base64.left_over.LeftOver.{LeftOver}
use Rattle.data_url.proofs.forgiving_base64.Groups.{filter_length, groups_size}
use Rattle.data_url.proofs.forgiving_base64.Padding.{every_list_all}
use Rattle.data_url.proofs.forgiving_base64.Steps.{after_few, decoded_left, groups_few, symbols_more}
use Rattle.data_url.proofs.runs.Runs.{match_at_none, match_map}
use Rattle.data_url.proofs.parts.Outputs.{Passes, no_refusal}
use Rattle.std.specs.declared.convert.Infallible.{Infallible}

-- a resumed decoder was fed a text
pub part_fed : {F E : Type 0} (step : F → List ℕ → Result (Unit {0}) E → F → Type 0) {s s' : LeftOver} {f : F}
    {d d' : State F} {text : List ℕ} {r : Result (Unit {0}) (DecodeError E)} → IsResumed s f d
    → Feeds step d text r d' → HoldsLeft s' d'
    → DecodesPart step f (left_over_text s ++ text) s' r d'.closure
part_fed step {s} {s'} {f} {d} {d'} {text} {r} h k left =
    let same : left_over d ++ text ≡ left_over_text s ++ text = cc (h.holds.symbols_are, h.holds.padding_is) in
    let u = left_over_text s ++ text in
    let bytes = joined_pieces k.run in
    let P : List ℕ → Type 0 = λ v. MatchOption (refusal k.run) (IsTaken v bytes r d')
    (λ e. IsRefused (complete_bytes v) bytes e r) in
    let Q : Type 0 = MatchOption (first_fault u) ((r ≡ Ok tt) × IsLeftOver u s')
    (λ place. r ≡ Err (InvalidBase64 (kind_of u))) in
    let left_of : IsLeft u d' → IsLeftOver u s' = λ l. record {
      symbols_are = sym left.symbols_are ∙ l.symbols_are;
      padding_is = sym left.padding_is ∙ l.padding_is;
    } in
    let ended : IsTaken u bytes r d' → Q = λ t.
    match_map (first_fault u) _ _ _ _ (λ l. (l.0, left_of l.1)) (λ place e. e) t.answer in
    record {
      run = k.run;
      ran = subst (λ x. IsRun step x k.run d'.closure) h.closure_is k.ran;
      gave = match_map (refusal k.run) _ _ _ _ (λ t. (t.bytes_are, ended t)) (λ e t. t.answer) (subst P same k.gave);
    }

-- a prefix has at most as many symbols as the whole
pub before_length : (u : List ℕ) (o : Option ℕ)
    → length (filter is_symbol (before_place u o)) ≤ length (filter is_symbol u)
before_length u None = omega arith
before_length u (Some i) =
    let whole : filter is_symbol u ≡ filter is_symbol (take i u) ++ filter is_symbol (drop i u) =
    ap (filter is_symbol) (sym (take-append-drop i u)) ∙ filter-append is_symbol (take i u) (drop i u) in
    omega (arith, ap length whole, length-append (filter is_symbol (take i u)) (filter is_symbol (drop i u)))

-- a text with so few symbols completes as many bytes as fit
complete_fits : (u : List ℕ) (room : ℕ) → length (filter is_symbol u) ≤ room / 3 * 4 + 3
    → length (complete_bytes u) ≤ room
unfolding complete_bytes values
complete_fits u room h = grind (arith, groups_size, length-map, before_length)

-- what is fed after what is left over completes as many bytes as fit
pub part_fits : (s : LeftOver) (text : List ℕ) (room : ℕ) → s.pending + length text ≤ room / 3 * 4 + 3
    → length (complete_bytes (left_over_text s ++ text)) ≤ room
part_fits s text room h =
    grind (arith, complete_fits, symbols_more, every_list_all, length-append, length-take, filter_length)

module _ {F : Type 0} {step : F → List ℕ → Result (Unit {0}) Infallible → F → Type 0} {f g : F} {u : List ℕ}
    {s : LeftOver} {r : Result (Unit {0}) (DecodeError Infallible)} where
  -- a closure that cannot fail was called with the bytes of the groups that a text completes
  pub part_passes : DecodesPart step f u s r g → Passes step f (complete_bytes u) g
  part_passes h =
      let none = no_refusal (refusal h.run) in
      record { run = h.run; ran = h.ran; accepted = none; bytes_are = (match_at_none _ _ _ none h.gave).0 }

  -- what feeding a part returns, from what decoding it returned
  pub part_fed_answer : {r' : Result LeftOver Kind} → DecodesPart step f u s r g → (r ≡ Ok tt → r' ≡ Ok s)
      → (r ≡ Err (InvalidBase64 (kind_of u)) → r' ≡ Err (kind_of u)) → IsFed u r'
  part_fed_answer h good bad =
      match_map (first_fault u) _ _ _ _ (λ k. (s, good k.0, k.1)) (λ place. bad)
      (match_at_none _ _ _ (no_refusal (refusal h.run)) h.gave).1

-- the last bytes of what is left over are at most two
pub end_fits : (s : LeftOver) → length (decoded (left_over_text s)) ≤ 2
end_fits s = grind (arith, length-map, after_few, decoded_left, every_list_all, groups_few, length-take)

-- what a match on a test gives if its other case is refuted
given_true : (v : Bool) (P Q : Type 0) → MatchBool v P Q → (Q → ⊥) → (v ≡ true) × P
given_true true P Q h never = (refl, h)
given_true false P Q h never = absurd (never h)

given_false : (v : Bool) (P Q : Type 0) → MatchBool v P Q → (P → ⊥) → (v ≡ false) × Q
given_false true P Q h never = absurd (never h)
given_false false P Q h never = (refl, h)

module _ {F : Type 0} {step : F → List ℕ → Result (Unit {0}) Infallible → F → Type 0} {f g : F} {s : LeftOver}
    {r : Result (Unit {0}) (DecodeError Infallible)} where
  -- if finishing succeeds, a closure that cannot fail was called with the last bytes of a valid text
  pub end_valid : FinishesPart step f s r g → r ≡ Ok tt
      → (is_valid (left_over_text s) ≡ true) × Passes step f (decoded (left_over_text s)) g
  end_valid h e =
      let none = no_refusal (refusal h.2.run) in
      let same : left_over h.0 ≡ left_over_text s = cc (h.1.holds.symbols_are, h.1.holds.padding_is) in
      let ran = subst (λ x. IsRun step x h.2.run g) h.1.closure_is h.2.ran in
      let k = given_true _ _ _ h.2.gave (λ k. absurd (let x = k.1 in cc)) in
      let gave = match_at_none _ _ _ none k.1 in
      let bytes = gave.0 ∙ ap decoded same in
      (ap is_valid (sym same) ∙ k.0, record { run = h.2.run; ran = ran; accepted = none; bytes_are = bytes })

  -- if it returns a fault, the text is not valid, and the closure was not called
  pub end_invalid : {kind : Kind} → FinishesPart step f s r g → r ≡ Err (InvalidBase64 kind)
      → (is_valid (left_over_text s) ≡ false) × (kind ≡ kind_of (left_over_text s)) × (f ≡ g)
  end_invalid {kind} h e =
      let none = no_refusal (refusal h.2.run) in
      let same : left_over h.0 ≡ left_over_text s = cc (h.1.holds.symbols_are, h.1.holds.padding_is) in
      let ran = subst (λ x. IsRun step x h.2.run g) h.1.closure_is h.2.ran in
      let k = given_false _ _ _ h.2.gave (λ k.
      let x : (joined_pieces h.2.run ≡ decoded (left_over h.0)) × (r ≡ Ok tt) = match_at_none _ _ _ none k in
      absurd (let y = x.1 in cc)) in
      (ap is_valid (sym same) ∙ k.0, cc (e, k.1.1, same), subst (λ x. IsRun step f x g) k.1.0 ran)
