-- Feeding while decoded bytes are held. For the functions of `Decoder` that feed.
use Rattle.data_url.proofs.forgiving_base64.Steps.{completes_none, completes_space, completes_text, fault_space}
use Rattle.data_url.proofs.forgiving_base64.Steps.{fault_symbol, feeds_then, has_pad, left_goes_on, one_call, told_call}
use Rattle.std.proofs.Common.{Option, None, Some, is_some, Result, Ok, Err, refl, ap, sym, ◌∙◌, subst, arith}
use Rattle.std.proofs.Common.{append_assoc, drop-drop, length-append, take-append-drop, append-nil, false, cond, min}
use Rattle.std.proofs.Common.{◌&&◌, ◌||◌, List, [], ◌∷◌, ◌++◌, length, map, drop, get_or, take, take-add, get_or-drop}
use Rattle.std.proofs.Common.{length-drop, MatchResult, eqb, eqb-true, inl, inr, slice_index, ◌≡◌, ℕ, ◌+◌, ◌-◌, ◌/◌}
use Rattle.std.proofs.Common.{◌<◌, ◌≤◌, length-take, length-take-le, take-take, Bool, true}
use Rattle.std.proofs.lemmas.Bool.{and_parts, cases_Bool}
use Rattle.std.{proofs.lemmas.Bool.{true≢false}, proofs.lemmas.List.{length-map, nil_from_length, take_more, take_rest}}
use Rattle.std.{proofs.lemmas.List.Folds.{list_all-append, list_all_more}, specs.List.{filter, list_all}}
use Rattle.std.specs.{Char.{is_ascii_whitespace}, List.{prefix_len}, Option.{option_or}, Result.{result_err}}
use Rattle.data_url.specs.Base64.{Kind, after_groups, first_fault, groups, is_symbol, left_padding, left_symbols}
use Rattle.data_url.specs.{Base64.{symbol_value}, Decoder.{Feeds, IsLeft, State, left_over}, Mime.{Every}, Run.{IsRun}}
use Rattle.data_url.specs.Run.{joined_pieces}
use Rattle.data_url.specs.Steps.Groups.{AddsGroups, IsOverGap, IsWholeGroups, held_bytes, is_symbol_or_space}
use Rattle.data_url.specs.Steps.Holding.{CallsOnce, Completes, EndsWithin, FeedsFront, Gains, IsBetweenGroups}
use Rattle.data_url.specs.Steps.Holding.{ReadsHolding}
use Rattle.data_url.specs.{Steps.Holding.{ReadsTo, Refuses}, Steps.Window.{is_no_hash_or_percent}}
use Rattle.data_url.specs.declared.forgiving_base64.DecodeError.{DecodeError}
use Rattle.data_url.specs.declared.forgiving_base64.DecodeError.TheVariants.{InvalidBase64, WriteError}
use Rattle.data_url.specs.declared.forgiving_base64.held.HeldGroups.{HeldGroups}
use Rattle.data_url.proofs.forgiving_base64.Groups.{groups_size, part_taken, prefix_passes}
use Rattle.data_url.proofs.forgiving_base64.Padding.{fault-append, fault_byte, fault_none, is_pad, is_bad}
use Rattle.data_url.proofs.{forgiving_base64.Padding.{length-after_groups, passed}, forgiving_base64.Steps.{IsSound}}
use Rattle.data_url.proofs.runs.Runs.{joined_pieces-append, match_at, match_none, refusal-append, run-append}

-- A text of symbols and white space has no fault and no padding

-- a symbol or a byte of whitespace, alone, has no fault and is not '='
one_allowed : (c : ℕ) → is_symbol_or_space c ≡ true → (fault_byte false (c ∷ []) ≡ None) × (is_pad c ≡ false)
one_allowed c h = grind (arith, fault_symbol, fault_space)

-- a text of symbols and whitespace has no fault
allowed_fault : (t : List ℕ) → list_all is_symbol_or_space t ≡ true → fault_byte false t ≡ None
unfolding fault_byte
allowed_fault [] h = refl
allowed_fault (c ∷ t) h =
    let p = and_parts (is_symbol_or_space c) (list_all is_symbol_or_space t) h in
    let one = one_allowed c p.0 in
    fault-append (c ∷ []) t false one.0 ∙ ap (λ s. fault_byte s t) (nothing one.1) ∙ allowed_fault t p.1
  where
    -- if s is false, the disjunction of s with false on both sides is false
    nothing : {s : Bool} → s ≡ false → (false || (s || false)) ≡ false
    nothing e = rw e refl

-- a text of symbols and whitespace has no padding
allowed_pads : (t : List ℕ) → list_all is_symbol_or_space t ≡ true → filter is_pad t ≡ []
allowed_pads [] h = refl
allowed_pads (c ∷ t) h =
    let p = and_parts (is_symbol_or_space c) (list_all is_symbol_or_space t) h in
    ap (λ s. cond s (c ∷ filter is_pad t) (filter is_pad t)) (one_allowed c p.0).1 ∙ allowed_pads t p.1

-- a byte that is no fault is neither '#' nor '%'
unmarked : (seen : Bool) (c : ℕ) → is_bad seen c ≡ false → is_no_hash_or_percent c ≡ true
unmarked seen c h = elim (cases_Bool (eqb c 35)) [
  | inl e ↦ absurd (true≢false (rw (eqb-true c 35 e) at h))
  | inr e ↦ elim (cases_Bool (eqb c 37)) [
    | inl f ↦ absurd (true≢false (rw (eqb-true c 37 f) at h))
    | inr f ↦ cc (e, f)
  ]
]

-- a text without a fault has no '#' and no '%'
no_hash_byte : (t : List ℕ) (seen : Bool) → fault_byte seen t ≡ None → list_all is_no_hash_or_percent t ≡ true
unfolding fault_byte
no_hash_byte [] seen h = refl
no_hash_byte (c ∷ t) seen h =
    let k = passed (is_bad seen c) c (fault_byte (seen || is_pad c) t) h in
    ap (λ x. x && list_all is_no_hash_or_percent t) (unmarked seen c k.0) ∙ no_hash_byte t (seen || is_pad c) k.1

-- if the text after u has no fault, it has no '#' and no '%'
pub no_hash_after : (u t : List ℕ) → first_fault (u ++ t) ≡ None → list_all is_no_hash_or_percent t ≡ true
no_hash_after u t h =
    let all = sym (list_all-append is_no_hash_or_percent u t) ∙ no_hash_byte (u ++ t) false (fault_none (u ++ t) h) in
    (and_parts (list_all is_no_hash_or_percent u) (list_all is_no_hash_or_percent t) all).1

-- one more byte that is neither '#' nor '%'
pub no_hash_more : (t : List ℕ) (at : ℕ) → at < length t → list_all is_no_hash_or_percent (take at t) ≡ true
    → is_no_hash_or_percent (get_or t at 0) ≡ true → list_all is_no_hash_or_percent (take (at + 1) t) ≡ true
no_hash_more t at l h k = list_all_more is_no_hash_or_percent t at 0 l
    ∙ ap (λ x. x && is_no_hash_or_percent (get_or t at 0)) h ∙ k

-- Text that is read without a call

-- the state of a decoder, by its closure, whether it has failed, and a state with what is left over
abbrev pub with_closure : {F : Type 0} → F → Bool → State (Unit {0}) → State F
with_closure f failed s = record { closure = f; symbols = s.symbols; padding = s.padding; failed = failed }

-- an option that is not `Some` is `None`
none_from : {A : Type 0} (o : Option A) → is_some o ≡ false → o ≡ None
none_from None e = refl
none_from (Some x) e = absurd (true≢false e)

-- the first bytes of s, and then n of those after them
pub taken_more : (s : List ℕ) (at n : ℕ) → take at s ++ take n (take (length s - at) (drop at s)) ≡ take (at + n) s
taken_more s at n = cc (take-add at n s, take_rest s at)

module _ {F : Type 0} where
  -- if d has no padding, a text of symbols and white space completes the groups of its symbols, after those left over
  -- in d
  pub completes_spaced : {d d' : State F} (t k : List ℕ) {bytes : List ℕ} → IsSound d.symbols d.padding → d.padding ≡ 0
      → list_all is_symbol_or_space t ≡ true → k ≡ filter is_symbol t
      → bytes ≡ groups (map symbol_value (d.symbols ++ k)) → d'.closure ≡ d.closure
      → d'.symbols ≡ after_groups (d.symbols ++ k) → d'.padding ≡ 0 → d'.failed ≡ false → Completes d t bytes d'
  completes_spaced {d} t k {bytes} s none alone is_k is same symbols padding failed =
      completes_text t k bytes 0 s
      (ap (λ p. fault_byte (has_pad p) t) none ∙ allowed_fault t alone)
      (sym is_k) (ap length (allowed_pads t alone)) is same symbols
      (padding ∙ ap (λ p. min (p + 0) 3) (sym none)) failed

  -- if d is between groups, whole groups add their bytes
  pub completes_whole : {d : State F} (t : List ℕ) {bytes : List ℕ} → IsBetweenGroups d → d.failed ≡ false
      → IsWholeGroups t
      → bytes ≡ groups (map symbol_value (filter is_symbol t)) → Completes d t bytes d
  completes_whole {d} t {bytes} none going w is =
      let k = filter is_symbol t in
      let P : List ℕ → Type 0 = λ q. (bytes ≡ groups (map symbol_value (q ++ k))) × (q ≡ after_groups (q ++ k)) in
      let parts = subst P (sym none.0) (is, sym (nil_from_length (after_groups k) (length-after_groups k ∙ w.whole))) in
      completes_spaced t k (record {
        every = subst (Every is_symbol) (sym none.0) tt;
        few = omega (arith, ap length none.0);
        few_padding = omega (arith, none.1);
      })
      none.1 w.spaced refl parts.0 refl parts.1 none.1 going

  -- whole groups at the start of the text
  pub gains_groups : {d : State F} {held text held' : List ℕ} (taken : ℕ) → 0 < taken → taken ≤ length text
      → IsBetweenGroups d → d.failed ≡ false → AddsGroups held (take taken text) held' → Gains d held text taken d held'
  gains_groups taken some within none going f = record {
    some = some;
    within = within;
    more = _;
    completes = completes_whole _ none going f.whole refl;
    held_are = f.held_are;
  }

  -- what is read of the start of a text, and written after the bytes that are held
  pub gains_part : {d d' : State F} (text old part rest : List ℕ) (cut n at k : ℕ) → at ≤ length old → k ≤ length part
      → Gains d [] (take cut text) n d' (take k part)
      → Gains d (take at old) text n d' (take (at + k) (take at old ++ (part ++ rest)))
  gains_part text old part rest cut n at k within few g =
      let front = length-take cut text in
      record {
        some = g.some;
        within = omega (arith, g.within, front);
        more = g.more;
        completes = rw (take-take n cut text (omega (arith, g.within, front))) at g.completes;
        held_are = part_taken old part rest at k within few ∙ ap (λ t. take at old ++ t) g.held_are;
      }

  -- the first byte of a text, which completes no group
  pub gains_none : {d d' : State F} {held held' : List ℕ} (text : List ℕ) → 1 ≤ length text
      → Completes d (get_or text 0 0 ∷ []) [] d' → held' ≡ held → Gains d held text 1 d' held'
  gains_none [] some a e = absurd (omega arith)
  gains_none {held = held} (c ∷ t) some a e =
      let same = e ∙ sym (append-nil held) in grind arith

  -- a text is read, and then another one
  completes_then : {d d1 d2 : State F} {t u a b : List ℕ} → Completes d t a d1 → Completes d1 u b d2
      → Completes d (t ++ u) (a ++ b) d2
  completes_then {d} {d1} {d2} {t} {u} {a} {b} f g =
      let on = left_goes_on (left_over d ++ t) u f.no_fault f.left in
      let same = append_assoc (left_over d) t u in
      record {
        no_fault = ap first_fault (sym same) ∙ none_from _ (on.fault_is ∙ ap is_some g.no_fault);
        bytes_are = cc (f.bytes_are, g.bytes_are, on.done_is, same);
        left = record {
          symbols_are = g.left.symbols_are ∙ sym on.symbols_left ∙ ap left_symbols same;
          padding_is = g.left.padding_is ∙ sym on.padding_left ∙ ap left_padding same;
        };
        few = omega (arith, f.few, g.few, length-append t u, length-append a b);
        closure_stays = g.closure_stays ∙ f.closure_stays;
        going = g.going;
      }

  -- the first `at` bytes of a text are read, and then n bytes of the others
  pub completes_more : {d d1 d2 : State F} {a b : List ℕ} (s : List ℕ) (at n : ℕ) → Completes d (take at s) a d1
      → Completes d1 (take n (take (length s - at) (drop at s))) b d2 → Completes d (take (at + n) s) (a ++ b) d2
  completes_more s at n f g = rw (sym (taken_more s at n)) (completes_then f g)

  -- so it is with one byte more that completes no group
  pub completes_byte : {d d1 d2 : State F} {a : List ℕ} (s : List ℕ) (at : ℕ) → at < length s
      → Completes d (take at s) a d1 → Completes d1 (get_or s at 0 ∷ []) [] d2 → Completes d (take (at + 1) s) a d2
  completes_byte {a = a} s at within f g =
      rw (take_more s at 0 within) (rw (append-nil a) at (completes_then f g))

  -- white space is read
  completes_spaces : {d : State F} (u : List ℕ) → list_all is_ascii_whitespace u ≡ true
      → IsSound d.symbols d.padding → d.failed ≡ false → Completes d u [] d
  completes_spaces [] all s going = completes_none s going
  completes_spaces (c ∷ u) all s going =
      let p = and_parts (is_ascii_whitespace c) (list_all is_ascii_whitespace u) all in
      completes_then (completes_space c s p.0 going) (completes_spaces u p.1 s going)

  -- the white space that a text begins with is read
  completes_ahead : {d : State F} (u : List ℕ) {k : ℕ} → k ≡ prefix_len is_ascii_whitespace u
      → IsSound d.symbols d.padding → d.failed ≡ false → Completes d (take k u) [] d
  completes_ahead u is = completes_spaces (take _ u)
      (ap (λ n. list_all is_ascii_whitespace (take n u)) is ∙ prefix_passes is_ascii_whitespace u)

-- `len` is the number of bytes that are held
pub held_len : (p : HeldGroups) → length (held_bytes p) ≡ p.len
held_len p = grind (arith, length-take-le)

-- Calls of the closure

-- a call that is answered by `Ok` returned no error
accepted_call : {E : Type 0} (told : Result (Unit {0}) E) {r : Result (Unit {0}) (DecodeError E)} → r ≡ Ok tt
    → MatchResult told (λ u. r ≡ Ok tt) (λ e. r ≡ Err (WriteError e)) → option_or (result_err told) None ≡ None
accepted_call (Ok x) e h = refl
accepted_call (Err x) e h = grind arith

-- the first byte of the text from an index on is the byte at that index
pub byte_at : (s : List ℕ) (at : ℕ) → at < length s → get_or (take (length s - at) (drop at s)) 0 0 ≡ get_or s at 0
byte_at s at h = grind (arith, get_or, take_rest, get_or-drop)

-- the bytes of s from `at` on, and b, are those up to `end`, and then the others and b
pub held_cut : (s b : List ℕ) (at end : ℕ) → at ≤ end
    → take (end - at) (drop at s) ++ (drop end s ++ b) ≡ drop at s ++ b
held_cut s b at end h =
    let e : at + (end - at) ≡ end = omega arith in
    cc (
      take-append-drop (end - at) (drop at s),
      append_assoc (take (end - at) (drop at s)) (drop end s) b,
      drop-drop (end - at) at s,
      e,
    )

module _ {F E : Type 0} (step : F → List ℕ → Result (Unit {0}) E → F → Type 0) where
  -- if c is a fault and completes no group, feeding c returns its error without a call, and d has failed
  refuses_feeds : {d d' : State F} {c : ℕ} {kind : Kind} → Refuses d c kind d → d' ≡ record d { failed = true }
      → Feeds step d (c ∷ []) (Err (InvalidBase64 kind)) d'
  refuses_feeds {d} {d'} {c} f same = grind arith

  -- what is left over stays if the symbols and the padding do
  left_stays : {d d' : State F} {u : List ℕ} → IsLeft u d → d'.symbols ≡ d.symbols → d'.padding ≡ d.padding
      → IsLeft u d'
  left_stays l e f = grind arith

  -- Text that is read

  -- nothing was read
  pub reads_none : {d : State F} → IsSound d.symbols d.padding → d.failed ≡ false → ReadsHolding step d [] [] d
  reads_none s going = let a = completes_none s going in record {
    run = [];
    ran = refl;
    accepted = refl;
    calls = omega arith;
    no_fault = a.no_fault;
    bytes_are = a.bytes_are;
    left = a.left;
    going = going;
  }

  -- some more text is read
  reads_then : {d d1 d2 : State F} {t u held more : List ℕ} → ReadsHolding step d t held d1 → Completes d1 u more d2
      → ReadsHolding step d (t ++ u) (held ++ more) d2
  reads_then {d} {d1} {d2} {t} {u} {held} {more} r a =
      let on = left_goes_on (left_over d ++ t) u r.no_fault r.left in
      let same = append_assoc (left_over d) t u in
      record {
        run = r.run;
        ran = subst (IsRun step d.closure r.run) (sym a.closure_stays) r.ran;
        accepted = r.accepted;
        calls = omega (arith, r.calls, a.few, length-append t u, length-append held more);
        no_fault = ap first_fault (sym same) ∙ none_from _ (on.fault_is ∙ ap is_some a.no_fault);
        bytes_are = cc (append_assoc (joined_pieces r.run) held more, r.bytes_are, a.bytes_are, on.done_is, same);
        left = record {
          symbols_are = a.left.symbols_are ∙ sym on.symbols_left ∙ ap left_symbols same;
          padding_is = a.left.padding_is ∙ sym on.padding_left ∙ ap left_padding same;
        };
        going = a.going;
      }

  -- some more of s is read
  pub reads_more : {d d1 d2 : State F} {held more : List ℕ} (s : List ℕ) (at n : ℕ)
      → ReadsHolding step d (take at s) held d1 → Completes d1 (take n (take (length s - at) (drop at s))) more d2
      → ReadsHolding step d (take (at + n) s) (held ++ more) d2
  reads_more s at n r a = rw (sym (taken_more s at n)) (reads_then r a)

  -- what is read without the closure is read with it
  completes_lifted : {f : F} {failed : Bool} {d d' : State (Unit {0})} {t bytes : List ℕ} → failed ≡ false
      → Completes d t bytes d' → Completes (with_closure f failed d) t bytes (with_closure f failed d')
  completes_lifted going a = grind arith

  -- the first `at` bytes of a text are read, and then the white space that follows
  pub reads_on_spaces : {d d1 : State F} {held : List ℕ} (s : List ℕ) (at k : ℕ) → IsSound d1.symbols d1.padding
      → ReadsHolding step d (take at s) held d1 → k ≡ prefix_len is_ascii_whitespace (take (length s - at) (drop at s))
      → ReadsHolding step d (take (at + k) s) held d1
  reads_on_spaces {held = held} s at k sound r is =
      rw (append-nil held) at (reads_more s at k r (completes_ahead _ is sound r.going))

  -- some text is read without the closure
  pub reads_whole : {f : F} {failed : Bool} {d d' : State (Unit {0})} {t bytes : List ℕ} → IsSound d.symbols d.padding
      → failed ≡ false → Completes d t bytes d'
      → ReadsHolding step (with_closure f failed d) t bytes (with_closure f failed d')
  reads_whole s going a = reads_then (reads_none s going) (completes_lifted going a)

  -- the bytes of one more group of steps
  pub reads_gained : {d : State F} {f : F} {failed : Bool} {d1 d2 : State (Unit {0})} {held held' : List ℕ} (s : List ℕ)
      (at n : ℕ) → ReadsHolding step d (take at s) held (with_closure f failed d1)
      → Gains d1 held (take (length s - at) (drop at s)) n d2 held'
      → ReadsHolding step d (take (at + n) s) held' (with_closure f failed d2)
  reads_gained s at n r g = rw g.held_are (reads_more s at n r (completes_lifted r.going g.completes))

  -- the closure accepts a front of the bytes that are held
  pub reads_called : {d d1 d2 : State F} {t : List ℕ} (a b : List ℕ) → (length b + 2) / 3 < (length a + length b + 2)
      / 3
      → ReadsHolding step d t (a ++ b) d1 → CallsOnce step d1 a (Ok tt) d2 → ReadsHolding step d t b d2
  reads_called {d} {d1} {d2} a b some r c =
      let call = record { piece = a; answer = c.told; after = d2.closure } ∷ [] in
      record {
        run = r.run ++ call;
        ran = run-append step r.run call d.closure d1.closure d2.closure r.ran r.accepted
            (one_call step _ _ a _ c.called);
        accepted = refusal-append r.run call r.accepted ∙ accepted_call c.told refl c.answer;
        calls = omega (arith, r.calls, some, length-append a b, length-append r.run call);
        no_fault = r.no_fault;
        bytes_are = cc (
          joined_pieces-append r.run call,
          append_assoc (joined_pieces r.run) a b,
          append-nil a,
          r.bytes_are,
        );
        left = left_stays r.left c.symbols_stay c.padding_stays;
        going = c.failed;
      }

  -- if the closure refuses a front of the bytes that are held, its error ends the feeding
  pub reads_refused : {d d1 d2 : State F} {t : List ℕ} {x : DecodeError E} (a b : List ℕ)
      → (length b + 2) / 3 < (length a + length b + 2) / 3
      → ReadsHolding step d t (a ++ b) d1 → CallsOnce step d1 a (Err x) d2 → Feeds step d t (Err x) d2
  reads_refused {d} {d1} {d2} {t} {x} a b some h c =
      let call = record { piece = a; answer = c.told; after = d2.closure } ∷ [] in
      let joined : joined_pieces (h.run ++ call) ≡ joined_pieces h.run ++ a =
      joined_pieces-append h.run call ∙ ap (λ x. joined_pieces h.run ++ x) (append-nil a) in
      record {
        run = h.run ++ call;
        ran = run-append step h.run call d.closure d1.closure d2.closure h.ran h.accepted
            (one_call step _ _ a _ c.called);
        calls = omega (arith, h.calls, some, length-append a b, length-append h.run call);
        failed = c.failed;
        gave = match_at _ _ _ _ (refusal-append h.run call h.accepted) (told_call c.told (Err x) _ _ _
            (b, cc (joined, append_assoc (joined_pieces h.run) a b, h.bytes_are)) (λ e. absurd cc) c.answer);
      }

  -- the closure is called with a front of the bytes that are held
  pub reads_passed : {d d1 d2 : State F} {t : List ℕ} (r : Result (Unit {0}) (DecodeError E)) (a b : List ℕ)
      → (length b + 2) / 3 < (length a + length b + 2) / 3 → ReadsHolding step d t (a ++ b) d1
      → CallsOnce step d1 a r d2
      → MatchResult r (λ u. ReadsHolding step d t b d2) (λ e. Feeds step d t (Err e) d2)
  reads_passed (Ok u) a b some h c = reads_called a b some h c
  reads_passed (Err e) a b some h c = reads_refused a b some h c

  -- a text was fed if it was read and no bytes are held
  pub reads_feeds : {d d1 : State F} {t : List ℕ} → ReadsHolding step d t [] d1 → Feeds step d t (Ok tt) d1
  reads_feeds {d} {d1} {t} h = record {
    run = h.run;
    ran = h.ran;
    calls = omega (arith, h.calls);
    failed = h.going;
    gave = match_none _ _ _ h.accepted (record {
      bytes_are = sym (append-nil (joined_pieces h.run)) ∙ h.bytes_are;
      answer = match_none _ _ _ h.no_fault (refl, h.left);
    });
  }

  -- what is said of a decoder after a byte is said of each one that has the same left over
  refuses_alike : {G H : Type 0} {d1 d2 : State G} {d : State H} {c : ℕ} {kind : Kind} → left_over d ≡ left_over d1
      → Refuses d1 c kind d2 → Refuses d c kind d
  refuses_alike e f = grind arith

  -- the text before a fault is read
  pub reads_to : {d d3 : State F} {g : F} {failed : Bool} {d1 d2 : State (Unit {0})} {held : List ℕ} {kind : Kind}
      (s : List ℕ) (at : ℕ) → at < length s → ReadsHolding step d (take at s) held (with_closure g failed d1)
      → ReadsHolding step d (take at s) [] d3 → Refuses d1 (slice_index (take (length s - at) (drop at s)) 0) kind d2
      → ReadsTo step d s at (Some kind) d3
  reads_to {d} {d3} {d1 = d1} {kind = kind} s at inside before after is =
      let left : left_over d3 ≡ left_over d1 = cc (
        before.left.symbols_are,
        before.left.padding_is,
        after.left.symbols_are,
        after.left.padding_is,
      ) in
      record {
        within = omega arith;
        reads = after;
        ends = (inside, rw (sym (byte_at s at inside)) (refuses_alike left is));
      }

  -- feeding a text with a fault returns its error after the bytes before it
  pub reads_fault : {d d3 d4 : State F} {kind : Kind} (s : List ℕ) (at : ℕ) → ReadsTo step d s at (Some kind) d3
      → d4 ≡ record d3 { failed = true } → Feeds step d (take (at + 1) s) (Err (InvalidBase64 kind)) d4
  reads_fault {d} {d3} {d4} {kind = kind} s at r same =
      let P : List ℕ → Type 0 = λ t. Feeds step d t (Err (InvalidBase64 kind)) d4 in
      let more : take at s ++ get_or s at 0 ∷ [] ≡ take (at + 1) s = cc (take_more s at 0 r.ends.0) in
      subst P more (feeds_then step (reads_feeds r.reads) (refuses_feeds r.ends.1 same))

  -- the text of a tail that was read has no '#' and no '%'
  pub reads_no_hash : {d d' : State F} {t held : List ℕ} → ReadsHolding step d t held d'
      → list_all is_no_hash_or_percent t ≡ true
  reads_no_hash {d} {t = t} r = no_hash_after (left_over d) t r.no_fault

  -- the front of a tail was read
  pub reads_front : {d d' : State F} {tail : List ℕ} {place : ℕ} → place ≤ length tail
      → ReadsHolding step d (take place tail) [] d' → FeedsFront step d tail place (Ok tt) d'
  reads_front l r = record { within = l; no_hash_or_percent = reads_no_hash r; feeds = reads_feeds r }

  -- an error of the closure ends the feeding of a text that has no fault up to an index
  pub ends_within : {d d1 d2 : State F} {s held : List ℕ} {x : DecodeError E} (at : ℕ) → at ≤ length s
      → ReadsHolding step d (take at s) held d1 → Feeds step d (take at s) (Err x) d2 → EndsWithin step d s x d2
  ends_within at l r f = record { at = at; within = l; no_fault = r.no_fault; feeds = f }

  -- a text is read, and then another one
  reads_both : {d d1 d2 : State F} {t u held : List ℕ} → ReadsHolding step d t [] d1 → ReadsHolding step d1 u held d2
      → ReadsHolding step d (t ++ u) held d2
  reads_both {d} {d1} {d2} {t} {u} {held} r a =
      let on = left_goes_on (left_over d ++ t) u r.no_fault r.left in
      let same = append_assoc (left_over d) t u in
      record {
        run = r.run ++ a.run;
        ran = run-append step r.run a.run d.closure d1.closure d2.closure r.ran r.accepted a.ran;
        accepted = refusal-append r.run a.run r.accepted ∙ a.accepted;
        calls = omega (arith, r.calls, a.calls, length-append t u, length-append r.run a.run);
        no_fault = ap first_fault (sym same) ∙ none_from _ (on.fault_is ∙ ap is_some a.no_fault);
        bytes_are = cc (
          joined_pieces-append r.run a.run,
          append_assoc (joined_pieces r.run) (joined_pieces a.run) held,
          append-nil (joined_pieces r.run),
          r.bytes_are,
          a.bytes_are,
          on.done_is,
          same,
        );
        left = record {
          symbols_are = a.left.symbols_are ∙ sym on.symbols_left ∙ ap left_symbols same;
          padding_is = a.left.padding_is ∙ sym on.padding_left ∙ ap left_padding same;
        };
        going = a.going;
      }

  -- the first `at` bytes of a text are read, and then n bytes of the others
  pub reads_on : {d d1 d2 : State F} {held : List ℕ} (s : List ℕ) (at n : ℕ) → ReadsHolding step d (take at s) [] d1
      → ReadsHolding step d1 (take n (take (length s - at) (drop at s))) held d2
      → ReadsHolding step d (take (at + n) s) held d2
  reads_on s at n r a = rw (sym (taken_more s at n)) (reads_both r a)

  -- the first `at` bytes of a text are read, and an error of the closure ends the feeding of the others
  pub ends_on : {d d1 d2 : State F} {x : DecodeError E} (s : List ℕ) (at : ℕ) → at ≤ length s
      → ReadsHolding step d (take at s) [] d1 → EndsWithin step d1 (take (length s - at) (drop at s)) x d2
      → EndsWithin step d s x d2
  ends_on {d} s at l r e =
      let rest = take (length s - at) (drop at s) in
      let on = left_goes_on (left_over d ++ take at s) (take e.at rest) r.no_fault r.left in
      let same = append_assoc (left_over d) (take at s) (take e.at rest) in
      let no_fault = ap first_fault (sym same) ∙ none_from _ (on.fault_is ∙ ap is_some e.no_fault) in
      let more = taken_more s at e.at in
      record {
        at = at + e.at;
        within = omega (arith, e.within, l, ap length (take_rest s at), length-drop at s);
        no_fault = rw more at no_fault;
        feeds = rw more at (feeds_then step (reads_feeds r) e.feeds);
      }

  -- the first `at` bytes of a text are read, and the others up to their first fault
  pub reads_to_on : {d d1 d2 : State F} {place : ℕ} {fault : Option Kind} (s : List ℕ) (at : ℕ) → at ≤ length s
      → ReadsHolding step d (take at s) [] d1 → ReadsTo step d1 (take (length s - at) (drop at s)) place fault d2
      → ReadsTo step d s (at + place) fault d2
  reads_to_on {place = place} {fault = None} s at l r t = record {
    within = omega (arith, t.within, l, ap length (take_rest s at), length-drop at s);
    reads = reads_on s at place r t.reads;
    ends = omega (arith, t.ends, l, ap length (take_rest s at), length-drop at s);
  }
  reads_to_on {place = place} {fault = Some kind} s at l r t = record {
    within = omega (arith, t.within, l, ap length (take_rest s at), length-drop at s);
    reads = reads_on s at place r t.reads;
    ends = (
      omega (arith, t.ends.0, l, ap length (take_rest s at), length-drop at s),
      rw (get_or-drop at s place 0) at (rw (take_rest s at) at t.ends.1),
    );
  }

  -- a block of symbols is read, with a gap
  block_reads : {d d1 : State F} {symbols : List ℕ} {k : ℕ} (s : List ℕ) (at : ℕ) → IsBetweenGroups d1
      → IsOverGap 64 (take (length s - at) (drop at s)) symbols k → ReadsHolding step d (take at s) [] d1
      → ReadsHolding step d (take (at + (64 + k)) s) (groups (map symbol_value symbols)) d1
  block_reads {k = k} s at none gap r = reads_more s at (64 + k) r (completes_whole _ none r.going (record {
    spaced = gap.spaced;
    whole = omega (arith, gap.long, ap length gap.symbols_are);
  }) (ap (λ x. groups (map symbol_value x)) (sym gap.symbols_are)))

  -- a block has bytes
  block_some : (symbols : List ℕ) → length symbols ≡ 64 → 1 ≤ length (groups (map symbol_value symbols))
  block_some symbols long =
      omega (arith, groups_size (map symbol_value symbols), length-map symbols symbol_value, long)

  -- the closure accepts the bytes of a block
  pub block_called : {d d1 d2 : State F} {symbols : List ℕ} {k : ℕ} (s : List ℕ) (at : ℕ) → IsBetweenGroups d1
      → IsOverGap 64 (take (length s - at) (drop at s)) symbols k → ReadsHolding step d (take at s) [] d1
      → CallsOnce step d1 (groups (map symbol_value symbols)) (Ok tt) d2
      → ReadsHolding step d (take (at + (64 + k)) s) [] d2
  block_called {symbols = symbols} s at none gap r c =
      let bytes = groups (map symbol_value symbols) in
      reads_called bytes [] (omega (arith, block_some symbols gap.long))
      (rw (append-nil bytes) (block_reads s at none gap r)) c

  -- the closure refuses the bytes of a block
  pub block_refused : {d d1 d2 : State F} {symbols : List ℕ} {k : ℕ} {x : DecodeError E} (s : List ℕ) (at : ℕ)
      → at ≤ length s → IsBetweenGroups d1 → IsOverGap 64 (take (length s - at) (drop at s)) symbols k
      → ReadsHolding step d (take at s) [] d1
      → CallsOnce step d1 (groups (map symbol_value symbols)) (Err x) d2 → EndsWithin step d s x d2
  block_refused {symbols = symbols} {k = k} s at within none gap r c =
      let bytes = groups (map symbol_value symbols) in
      let reads = block_reads s at none gap r in
      ends_within (at + (64 + k))
      (omega (arith, gap.within, within, ap length (take_rest s at), length-drop at s)) reads
      (reads_refused bytes [] (omega (arith, block_some symbols gap.long)) (rw (append-nil bytes) reads) c)
