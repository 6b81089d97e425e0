-- What a decoder does with more bytes, and at its end. For `Decoder`.
use Rattle.std.proofs.Common.{append_assoc, MatchOption, MatchBool, MatchResult, append-nil, take-append-drop}
use Rattle.std.proofs.Common.{◌∷◌, ◌++◌, length, map, min, replicate, None, Some, Result, Ok, Err, refl, ap, ap₂, sym}
use Rattle.std.proofs.Common.{◌≡◌, ℕ, suc, zero, ◌+◌, ◌%◌, ◌≤◌, Bool, true, false, cond, eqb, get_or, take, List, []}
use Rattle.std.proofs.Common.{◌≢◌, ◌⊎◌, inl, inr, ◌∙◌, subst, arith, length-append, length-take, drop, Option}
use Rattle.std.{proofs.lemmas.Bool.{false≢true, true≢false}, specs.List.{filter, list_any}}
use Rattle.std.specs.Result.{result_err}
use Rattle.std.{proofs.lemmas.List.Elements.{filter-append}, specs.Char.{is_ascii_whitespace}, specs.Option.{option_or}}
use Rattle.std.proofs.lemmas.List.{length-map, length-replicate, nil_from_length}
use Rattle.data_url.specs.Base64.{after_groups, decoded, complete_bytes, first_fault, group_bytes, group_number, groups}
use Rattle.data_url.specs.Base64.{is_symbol, is_valid, kind_of, left_padding, left_symbols, left_text, rest_bytes}
use Rattle.data_url.specs.{Base64.{symbol_value, values}, Mime.{Every}, Run.{IsRun, IsPrefix, joined_pieces, refusal}}
use Rattle.data_url.specs.Decoder.{Feeds, Finishes, State, left_over, IsLeft, IsTaken}
use Rattle.data_url.specs.{Errors.{IsRefused}, Laws.{GoesOn}, declared.forgiving_base64.DecodeError.{DecodeError}}
use Rattle.data_url.specs.Steps.Holding.{CallsOnce, Completes, Refuses}
use Rattle.data_url.specs.declared.forgiving_base64.left_over.LeftOver as left
use Rattle.data_url.specs.declared.forgiving_base64.DecodeError.TheVariants.{WriteError, InvalidBase64}
use Rattle.data_url.specs.declared.forgiving_base64.InvalidBase64Details.TheVariants.{AlphabetSymbolAfterPadding}
use Rattle.data_url.specs.declared.forgiving_base64.InvalidBase64Details.TheVariants.{LoneAlphabetSymbol, Padding}
use Rattle.data_url.specs.declared.forgiving_base64.InvalidBase64Details.TheVariants.{UnexpectedSymbol}
use Rattle.data_url.proofs.forgiving_base64.Groups.{filter_length, groups_size, two_feeds}
use Rattle.data_url.proofs.forgiving_base64.Padding.{any_of_text, before-append, before_fault, before_none, classes}
use Rattle.data_url.proofs.forgiving_base64.Padding.{every_list_all, done_is, fault-append, fault_byte, fault_pads}
use Rattle.data_url.proofs.forgiving_base64.Padding.{fault_some, fault_text, is_pad, kind_is, no_fault_valid}
use Rattle.data_url.proofs.{forgiving_base64.Padding.{kind_stays}, runs.Runs.{refusal-append, run-append}}
use Rattle.data_url.proofs.forgiving_base64.Padding.{none_fault, pads_of_text, symbols_of_text, fits_with, bad}
use Rattle.data_url.proofs.forgiving_base64.Padding.{space_alone, symbol_alone, done_stays, fault-append_some}
use Rattle.data_url.proofs.runs.Runs.{prefix_all, joined_pieces-append, match_alike, match_map, prefix_trans}

-- What a short text does after what is left over in a decoder, and what the end of the input does.

-- at most three values have no complete group
pub groups_few : (x : List ℕ) → length x ≤ 3 → groups x ≡ []
unfolding groups
groups_few [] h = refl
groups_few (a ∷ []) h = refl
groups_few (a ∷ b ∷ []) h = refl
groups_few (a ∷ b ∷ c ∷ []) h = refl
groups_few (a ∷ b ∷ c ∷ e ∷ t) h = absurd (omega arith)

-- at most three values are all left over after the groups
pub after_few : (x : List ℕ) → length x ≤ 3 → after_groups x ≡ x
unfolding after_groups
after_few [] h = refl
after_few (a ∷ []) h = refl
after_few (a ∷ b ∷ []) h = refl
after_few (a ∷ b ∷ c ∷ []) h = refl
after_few (a ∷ b ∷ c ∷ e ∷ t) h = absurd (omega arith)

-- a bad byte is where the text stops
before_one : (c : ℕ) (s : Bool) → fault_byte s (c ∷ []) ≡ Some c → before_fault s (c ∷ []) ≡ []
unfolding fault_byte before_fault
before_one c s h = grind arith

-- whether there is padding among p times '='
abbrev pub has_pad : ℕ → Bool
has_pad p = list_any is_pad (replicate p 61)

module _ (q : List ℕ) (p : ℕ) (every : Every is_symbol q) where
  -- the fault of q, p times '=' and then t is that of t, where the '=' count as padding before t
  pub fault_more : (t : List ℕ) → fault_byte false (left_text q p ++ t) ≡ fault_byte (has_pad p) t
  fault_more t = grind (arith, fault-append, fault_text, any_of_text)

  -- the symbols of q, p times '=' and then t are q and those of t
  pub symbols_more : (t : List ℕ) → filter is_symbol (left_text q p ++ t) ≡ q ++ filter is_symbol t
  symbols_more t = grind (arith, filter-append, symbols_of_text)

  -- the number of '=' in q, p times '=' and then t is p more than in t
  pub pads_more : (t : List ℕ) → length (filter is_pad (left_text q p ++ t)) ≡ p + length (filter is_pad t)
  pads_more t = grind (arith, filter-append, length-append, pads_of_text, length-replicate)

  -- the values of q and p times '=' are those of q
  pub values_left : values (left_text q p) ≡ map symbol_value q
  unfolding values
  values_left = grind (arith, symbols_of_text)

  -- if t has no fault, the complete bytes of q, p times '=' and then t are those of q and the symbols of t
  pub done_more : (t : List ℕ) → fault_byte (has_pad p) t ≡ None → complete_bytes (left_text q p ++ t) ≡ groups
      (map symbol_value (q ++ filter is_symbol t))
  unfolding values
  done_more t h = grind (arith, done_is, before_none, fault_more, symbols_more)

  -- the symbols left over of q, p times '=' and then t are those of q and t after their complete groups
  pub left_more : (t : List ℕ) → left_symbols (left_text q p ++ t) ≡ after_groups (q ++ filter is_symbol t)
  unfolding left_symbols
  left_more t = ap after_groups (symbols_more t)

  -- the padding left over of q, p times '=' and then t is p and the number of '=' in t, but at most 3
  pub padding_more : (t : List ℕ) → left_padding (left_text q p ++ t) ≡ min (p + length (filter is_pad t)) 3
  unfolding left_padding
  padding_more t = ap (λ x. min x 3) (pads_more t)

  -- q and p times '=' are valid exactly if p fits the number of symbols
  pub valid_left : is_valid (left_text q p) ≡ fits_with (length q % 4) p
  valid_left = grind (arith, no_fault_valid, fault_text, symbols_of_text, pads_of_text)

  -- if there is no lone symbol, q and p times '=' are valid without '=', or if these complete a group
  pub valid_ends : length q ≤ 3 → p ≤ 3 → length q ≢ 1 → (p ≡ 0) ⊎ (length q + p ≡ 4)
      → is_valid (left_text q p) ≡ true
  valid_ends few pads some (inl e) = valid_left ∙ rw e (grind arith)
  valid_ends few pads some (inr e) = valid_left ∙ grind arith

  -- q and p times '=' decode to the bytes of the groups of q and those of the values after them
  pub decoded_left : decoded (left_text q p) ≡ groups (map symbol_value q) ++ rest_bytes
      (after_groups (map symbol_value q))
  unfolding decoded
  decoded_left = grind (arith, values_left)

  -- the kind of q and p times '=' is a lone symbol if the length of q modulo four is one, and padding otherwise
  pub kind_left : kind_of (left_text q p) ≡ cond (eqb (length q % 4) 1) LoneAlphabetSymbol Padding
  kind_left = grind (arith, kind_is, fault_text, values_left, length-map)

-- One byte, by its class

-- whether one byte alone is a fault follows from its classes, and from whether there is padding before it
fault_one : (c : ℕ) (s x y z : Bool) → is_ascii_whitespace c ≡ x → is_pad c ≡ y → is_symbol c ≡ z
    → fault_byte s (c ∷ []) ≡ cond (bad x y z s) (Some c) None
unfolding fault_byte
fault_one c s x y z e f g = grind arith

-- a filter keeps the one item of a list exactly if the item passes
filter_one : (p : ℕ → Bool) (c : ℕ) (v : Bool) → p c ≡ v → filter p (c ∷ []) ≡ cond v (c ∷ []) []
filter_one p c v e = grind arith

-- whitespace is no fault, with or without padding before it
pub fault_space : (c : ℕ) (s : Bool) → is_ascii_whitespace c ≡ true → fault_byte s (c ∷ []) ≡ None
fault_space c s e = let k = space_alone (classes c) e in fault_one c s true false false e k.0 k.1

-- a byte of whitespace has no symbols
pub symbols_space : (c : ℕ) → is_ascii_whitespace c ≡ true → filter is_symbol (c ∷ []) ≡ []
symbols_space c e = filter_one is_symbol c false (space_alone (classes c) e).1

-- a byte of whitespace has no '='
pub pads_space : (c : ℕ) → is_ascii_whitespace c ≡ true → filter is_pad (c ∷ []) ≡ []
pads_space c e = filter_one is_pad c false (space_alone (classes c) e).0

-- a symbol without padding before it is no fault
pub fault_symbol : (c : ℕ) → is_symbol c ≡ true → fault_byte false (c ∷ []) ≡ None
fault_symbol c e = let k = symbol_alone (classes c) e in fault_one c false false false true k.0 k.1 e

-- a symbol after padding is a fault
pub fault_after : (c : ℕ) → is_symbol c ≡ true → fault_byte true (c ∷ []) ≡ Some c
fault_after c e = let k = symbol_alone (classes c) e in fault_one c true false false true k.0 k.1 e

-- a byte that is neither whitespace nor '=' nor a symbol is a fault
pub fault_other : (c : ℕ) (s : Bool) → is_ascii_whitespace c ≡ false → is_pad c ≡ false → is_symbol c ≡ false
    → fault_byte s (c ∷ []) ≡ Some c
fault_other c s e f g = fault_one c s false false false e f g

-- if p is at least one, there is padding among p times '='
pub has_pad_some : (p : ℕ) → 1 ≤ p → has_pad p ≡ true
has_pad_some zero h = absurd (omega arith)
has_pad_some (suc p) h = refl

-- Groups of four and what is left over, written out

-- the byte of two symbols left over is the first byte of the group that they begin
pub decoded_two : (s : List ℕ) (n p : ℕ) → n ≡ 2 → 2 ≤ length s → Every is_symbol (take n s)
    → decoded (left_text (take n s) p) ≡ take 1 (group_bytes
    (group_number (symbol_value (get_or s 0 0)) (symbol_value (get_or s 1 0)) 0 0))
unfolding groups after_groups
decoded_two (a ∷ b ∷ s) (suc (suc zero)) p two long every =
    decoded_left (a ∷ b ∷ []) p every ∙ ap (λ x. x ∷ []) (omega arith)
decoded_two s n p two long every = absurd (omega arith)

-- the bytes of three symbols left over are the first two bytes of the group that they begin
pub decoded_three : (s : List ℕ) (n p : ℕ) → n ≡ 3 → 3 ≤ length s → Every is_symbol (take n s)
    → decoded (left_text (take n s) p) ≡ take 2 (group_bytes (group_number (symbol_value (get_or s 0 0))
    (symbol_value (get_or s 1 0)) (symbol_value (get_or s 2 0)) 0))
unfolding groups after_groups
decoded_three (a ∷ b ∷ c ∷ s) (suc (suc (suc zero))) p three long every =
    decoded_left (a ∷ b ∷ c ∷ []) p every ∙ ap₂ (λ x y. x ∷ y ∷ []) (omega arith) (omega arith)
decoded_three s n p three long every = absurd (omega arith)

-- What one call returns

-- if b is true, P is enough for `MatchBool b P Q`
pub bool_at_true : (b : Bool) (P Q : Type 0) → b ≡ true → P → MatchBool b P Q
bool_at_true true P Q e h = h
bool_at_true false P Q e h = absurd (false≢true e)

-- if b is false, Q is enough for `MatchBool b P Q`
pub bool_at_false : (b : Bool) (P Q : Type 0) → b ≡ false → Q → MatchBool b P Q
bool_at_false true P Q e h = absurd (true≢false e)
bool_at_false false P Q e h = h

-- after a last call: P if it returned no error, and otherwise r is its error
pub told_call : {E : Type 0} (answer : Result (Unit {0}) E) (r : Result (Unit {0}) (DecodeError E)) (P : Type 0)
    (all bytes : List ℕ) → IsPrefix bytes all → (r ≡ Ok tt → P)
    → MatchResult answer (λ u. r ≡ Ok tt) (λ e. r ≡ Err (WriteError e))
    → MatchOption (option_or (result_err answer) None) P (λ e. IsRefused all bytes e r)
told_call (Ok x) r P all bytes q f h = f h
told_call (Err e) r P all bytes q f h = grind arith

-- A decoder that is fed a short text

-- what holds of the symbols and the padding that a text leaves over
pub record IsSound (q : List ℕ) (p : ℕ) : Type 0 where
  pub every : Every is_symbol q
  pub few : length q ≤ 3
  pub few_padding : p ≤ 3

-- it holds of each state, by its invariants
pub sound : (s : left.LeftOver) → IsSound (take s.pending s.symbols) s.padding
sound s = grind (arith, every_list_all, length-take)

module _ {F : Type 0} where
  -- how long groups, values and symbols are
  ruleset sizes = (groups_size, length-map, length-append, filter_length)

  -- d reads a text t without a fault that has the symbols k and n times '=', if the fields of d' are what is left over
  pub completes_text : {d d' : State F} (t k bytes : List ℕ) (n : ℕ) → IsSound d.symbols d.padding
      → fault_byte (has_pad d.padding) t ≡ None → filter is_symbol t ≡ k → length (filter is_pad t) ≡ n
      → bytes ≡ groups (map symbol_value (d.symbols ++ k)) → d'.closure ≡ d.closure
      → d'.symbols ≡ after_groups (d.symbols ++ k) → d'.padding ≡ min (d.padding + n) 3 → d'.failed ≡ false
      → Completes d t bytes d'
  completes_text {d} {d'} t k bytes n s good is_k is_n is_bytes same symbols padding failed =
      grind (arith, sizes, none_fault, fault_more, done_more, left_more, padding_more)

  -- the text completes no group
  completes_quiet : {d d' : State F} (t k : List ℕ) (n : ℕ) → IsSound d.symbols d.padding
      → fault_byte (has_pad d.padding) t ≡ None → filter is_symbol t ≡ k → length (filter is_pad t) ≡ n
      → length (d.symbols ++ k) ≤ 3 → d'.closure ≡ d.closure → d'.symbols ≡ d.symbols ++ k
      → d'.padding ≡ min (d.padding + n) 3 → d'.failed ≡ false → Completes d t [] d'
  completes_quiet {d} t k n s good is_k is_n few same symbols padding failed =
      search (arith, completes_text, groups_few, length-map, after_few)

  -- d reads a byte of whitespace, and does not change
  pub completes_space : {d : State F} (c : ℕ) → IsSound d.symbols d.padding
      → is_ascii_whitespace c ≡ true → d.failed ≡ false → Completes d (c ∷ []) [] d
  completes_space {d} c s space going =
      let same : d.padding ≡ min (d.padding + 0) 3 = omega (arith, s.few_padding) in
      search (arith, completes_quiet, fault_space, symbols_space, pads_space, append-nil, same)

  -- d reads the empty text, and does not change
  pub completes_none : {d : State F} → IsSound d.symbols d.padding → d.failed ≡ false → Completes d [] [] d
  unfolding fault_byte
  completes_none {d} s going =
      completes_quiet [] [] 0 s refl refl refl (rw append-nil s.few) refl (sym (append-nil d.symbols))
      (omega (arith, s.few_padding)) going

  -- d reads a '=': it counts it, up to three
  pub completes_pad : {d d' : State F} (c : ℕ) → c ≡ 61 → IsSound d.symbols d.padding → d.failed ≡ false
      → d' ≡ record d { padding = min (d.padding + 1) 3 } → Completes d (c ∷ []) [] d'
  completes_pad {d} {d'} c e s going same =
      rw (e, same) (completes_quiet (61 ∷ []) [] 1 s (fault_pads 1 (has_pad d.padding)) refl refl
      (rw append-nil s.few) refl
      (sym (append-nil d.symbols)) refl going)

  -- what a byte that is a fault leaves of what was left over
  ruleset refusing = (fault_some, fault_more, kind_is, done_is, before-append, fault_text, before_one)

  -- that what was left over has no complete group
  ruleset incomplete = (append-nil, values_left, groups_few, length-map)

  -- if d has padding, it refuses a symbol
  pub refuses_after : {d d' : State F} (c : ℕ) → IsSound d.symbols d.padding → 1 ≤ d.padding
      → is_symbol c ≡ true → d' ≡ d → Refuses d c AlphabetSymbolAfterPadding d'
  refuses_after {d} c s pads symbol same = grind (arith, refusing, incomplete, has_pad_some, fault_after, any_of_text)

  -- d refuses a byte that is neither whitespace nor '=' nor a symbol
  pub refuses_other : {d d' : State F} (c : ℕ) → IsSound d.symbols d.padding
      → is_ascii_whitespace c ≡ false → is_pad c ≡ false → is_symbol c ≡ false → d' ≡ d
      → Refuses d c (UnexpectedSymbol c) d'
  refuses_other {d} c s space pad symbol same = grind (arith, refusing, incomplete, fault_other)

module _ {F E : Type 0} (step : F → List ℕ → Result (Unit {0}) E → F → Type 0) where
  -- feeding the empty text returns `Ok`, and d does not change
  pub feeds_none : {d d' : State F} → IsSound d.symbols d.padding
      → d.failed ≡ false → d' ≡ d → Feeds step d [] (Ok tt) d'
  feeds_none {d} {d'} s going same = grind (arith, completes_none {d = d} s going)

  -- One call

  -- a run of one call
  pub one_call : (f g : F) (piece : List ℕ) (answer : Result (Unit {0}) E) → step f piece answer g
      → IsRun step f (record { piece = piece; answer = answer; after = g } ∷ []) g
  one_call f g piece answer s = (s, λ e. refl, refl)

  -- The end

  -- if what is left over is valid and has at most one symbol, it decodes to no bytes: d finishes without a call
  pub finishes_nothing : (d : State F) (k : ℕ) → Every is_symbol d.symbols → length d.symbols ≡ k → k ≤ 1
      → is_valid (left_over d) ≡ true → Finishes step d (Ok tt) d.closure
  finishes_nothing d zero every count few valid =
      grind (arith, decoded_left, groups_few, after_few, nil_from_length, bool_at_true)
  finishes_nothing d (suc zero) every count few valid = grind (arith, valid_left)
  finishes_nothing d (suc (suc k)) every count few valid = absurd (omega arith)

  -- if what is left over is valid, a call with the bytes that it decodes to finishes d
  pub finishes_called : (d d' : State F) {r : Result (Unit {0}) (DecodeError E)} (bytes : List ℕ)
      → decoded (left_over d) ≡ bytes → is_valid (left_over d) ≡ true → CallsOnce step d bytes r d'
      → Finishes step d r d'.closure
  finishes_called d d' {r} bytes e valid w =
      let whole : bytes ++ [] ≡ decoded (left_over d) = append-nil bytes ∙ sym e in
      record {
        run = record { piece = bytes; answer = w.told; after = d'.closure } ∷ [];
        ran = one_call d.closure d'.closure bytes w.told w.called;
        calls = omega arith;
        gave = grind (arith, bool_at_true, told_call, prefix_all _ _ whole);
      }

  -- if what is left over is not valid, finishing d returns its error without a call
  pub finishes_refused : (d : State F) {r : Result (Unit {0}) (DecodeError E)} {f : F} → is_valid (left_over d) ≡ false
      → f ≡ d.closure → r ≡ Err (InvalidBase64 (kind_of (left_over d))) → Finishes step d r f
  finishes_refused d v same e =
      record { run = []; ran = sym same; calls = omega arith; gave = bool_at_false _ _ _ v (refl, e) }

-- Feeding a decoder, piece by piece.

-- Feeding a without an error, and then b

-- what feeding a without an error shows, for the text u, which is what was left over and then a
pub record Took {F : Type 0} (u bytes : List ℕ) (d : State F) : Type 0 where
  pub no_fault : first_fault u ≡ None
  pub bytes_are : bytes ≡ complete_bytes u
  pub left : IsLeft u d

-- An error in a, whatever follows

-- with or without a fault in u, the complete bytes of u are a prefix of those of u ++ b
done_cases : (u b : List ℕ) (o : Option ℕ) → fault_byte false u ≡ o
    → IsPrefix (complete_bytes u) (complete_bytes (u ++ b))
done_cases u b None h = grind (arith, two_feeds u b (none_fault u h), none_fault u h)
done_cases u b (Some c) h = grind (arith, prefix_all, done_stays)

-- the complete bytes of a text are a prefix of those of a longer text
pub done_begins : (u b : List ℕ) → IsPrefix (complete_bytes u) (complete_bytes (u ++ b))
done_begins u b = done_cases u b (fault_byte false u) refl

-- if the bytes and the error are those of a fault in u, they are those of the fault in u ++ b
taken_cases : {F E : Type 0} (u b bytes : List ℕ) (x : DecodeError E) (d : State F) (o : Option ℕ)
    → fault_byte false u ≡ o → IsTaken u bytes (Err x) d → IsTaken (u ++ b) bytes (Err x) d
taken_cases u b bytes x d None h t = grind (arith, none_fault)
taken_cases u b bytes x d (Some c) h t = record {
  bytes_are = t.bytes_are ∙ sym (done_stays u b c h);
  answer =
      match_alike (first_fault u) (first_fault (u ++ b)) _ _ _ _
      (cc (fault_some u, fault-append_some u b false c h, fault_some (u ++ b)))
      (λ k. absurd (let e = k.0 in cc))
      (λ k. k ∙ ap (λ z. Err (InvalidBase64 z)) (kind_stays u b c h))
      t.answer;
}

-- if a decoder holds what is left over of u, its left-over text is the left-over symbols and padding of u
left_over_is : {F : Type 0} {d : State F} (u : List ℕ) → IsLeft u d
    → left_over d ≡ left_text (left_symbols u) (left_padding u)
left_over_is {d = d} u h = grind arith

-- decoding b after a text without a fault is the same as decoding it after what is left over of the text
pub left_goes_on : {F : Type 0} {d : State F} (u b : List ℕ) → first_fault u ≡ None → IsLeft u d
    → GoesOn u b (left_over d ++ b)
left_goes_on u b none left = search (arith, left_over_is, left, two_feeds)

module _ {F E : Type 0} (step : F → List ℕ → Result (Unit {0}) E → F → Type 0) where
  -- if feeding a returns `Ok`, no call returned an error, and the closure got all complete bytes
  pub feeds_took : {d d' : State F} {a : List ℕ} (f : Feeds step d a (Ok tt) d') → (refusal f.run ≡ None)
      × Took (left_over d ++ a) (joined_pieces f.run) d'
  feeds_took {d} {d'} {a} f = grind arith

  -- if a was fed without an error, decoding b goes on as in the whole text
  pub feeds_goes_on : {d d' : State F} {a : List ℕ} (b : List ℕ) (f : Feeds step d a (Ok tt) d')
      → GoesOn (left_over d ++ a) b (left_over d' ++ b)
  feeds_goes_on {d} {d'} {a} b f = let t = (feeds_took f).1 in left_goes_on (left_over d ++ a) b t.no_fault t.left

  -- what the closure is called with for u
  abbrev Gives : List ℕ → Option E → List ℕ → Result (Unit {0}) (DecodeError E) → State F → Type 0
  Gives u o bytes r d = MatchOption o (IsTaken u bytes r d) (λ e. IsRefused (complete_bytes u) bytes e r)

  -- feeding a without an error and then b is feeding a followed by b
  pub feeds_then : {d d1 d2 : State F} {a b : List ℕ} {r : Result (Unit {0}) (DecodeError E)}
      → Feeds step d a (Ok tt) d1 → Feeds step d1 b r d2 → Feeds step d (a ++ b) r d2
  feeds_then {d} {d1} {d2} {a} {b} {r} f g =
      search (arith, feeds_goes_on, joined_pieces-append, run-append, length-append, append_assoc, refusal-append)

  -- an error in a is an error in a followed by b
  pub feeds_err : {d d' : State F} {a : List ℕ} {x : DecodeError E} (b : List ℕ) → Feeds step d a (Err x) d'
      → Feeds step d (a ++ b) (Err x) d'
  feeds_err {d} {d'} {a} {x} b f =
      let N : List ℕ → Type 0 = λ u. Gives u (refusal f.run) (joined_pieces f.run) (Err x) d' in
      record {
        run = f.run;
        ran = f.ran;
        calls = omega (arith, f.calls, length-append a b);
        failed = f.failed;
        gave =
            subst N (append_assoc (left_over d) a b)
            (match_map (refusal f.run) _ _ _ _
            (taken_cases (left_over d ++ a) b (joined_pieces f.run) x d' (fault_byte false (left_over d ++ a)) refl)
            (λ e h. record {
              bytes_begin = prefix_trans (joined_pieces f.run) (complete_bytes (left_over d ++ a))
                  (complete_bytes ((left_over d ++ a) ++ b)) h.bytes_begin (done_begins (left_over d ++ a) b);
              answer = h.answer;
            })
            f.gave);
      }

  -- A text, byte by byte

  -- if feeding the first i bytes of s returns an error, feeding s returns it
  pub feeds_stop : {d d' : State F} {x : DecodeError E} (s : List ℕ) (i : ℕ) → Feeds step d (take i s) (Err x) d'
      → Feeds step d s (Err x) d'
  feeds_stop {d} {d'} {x} s i f = grind (arith, take-append-drop i s, feeds_err (drop i s) f)
