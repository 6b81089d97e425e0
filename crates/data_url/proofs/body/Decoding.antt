-- A closure or a decoder that gets a body piece by piece. For `take_within`, `take_after`, `decode_base64`,
-- `decode_percent_encoded` and their callers.
use Rattle.std.proofs.Common.{Result, Ok, Err, refl, sym, ap, ◌∙◌, append_assoc, arith, length-append, Bool}
use Rattle.std.proofs.Common.{Some, false, cond, length-drop, length-take, MatchOption, true, append-nil}
use Rattle.std.proofs.Common.{◌≡◌, ℕ, ◌+◌, ◌≤◌, List, [], ◌∷◌, ◌++◌, Bor, length, Option, None, drop, take, inl, inr}
use Rattle.std.proofs.Common.{max, ◌⊎◌}
use Rattle.std.proofs.Common.{◌==◌, not, length-take-le, take-append-drop, take-take, take-add, ◌-◌, ◌<◌, ◌&&◌, ap₂}
use Rattle.std.proofs.Common.{get_or, get_or-take, get_or-drop, subst}
use Rattle.std.proofs.lemmas.Bool.{and_parts, cases_Bool, cases_lt}
use Rattle.std.{proofs.lemmas.List.{length-map}, proofs.lemmas.List.Folds.{list_all-append}}
use Rattle.std.{specs.Char.{is_ascii_whitespace}, specs.Fn.{CalledAt, Mut, always_mut}, specs.List.{list_all}}
use Rattle.data_url.specs.Base64.{decoded, complete_bytes, after_groups, groups, rest_bytes, values}
use Rattle.data_url.specs.{Base64.{without_whitespace}, DataUrl.{Decodes, HandsOut, IsUrlOf, url_body, url_tail}}
use Rattle.data_url.specs.{Decoder.{Feeds, State, start}, Errors.{IsRefused}, Fetch.{Good, outcome_bytes}}
use Rattle.data_url.specs.{Fetch.{plain_body, Bad, outcome, Outcome, tail_of}, Pieces.{Walk, walk_at_start}, Run.{Call}}
use Rattle.data_url.specs.{Run.{joined_pieces, refusal, IsPrefix}, Steps.Chunks.{IsBodyPrefix}}
use Rattle.data_url.specs.{Steps.Chunks.{IsCallableUntilError, IsOver, Takes, TakesOn, TakesPart}}
use Rattle.data_url.specs.{Steps.Chunks.{TakesUntil, TakesWithin}, Steps.Digits.{cleaned}}
use Rattle.data_url.specs.{Steps.Holding.{FeedsFront}, Steps.Tail.{IsBodyEnd}}
use Rattle.data_url.specs.Steps.Window.{is_no_hash_or_percent}
use Rattle.data_url.specs.Url.{is_tab_or_newline, number_sign, after, trimmed_text}
use Rattle.data_url.specs.{declared.DataUrl.{DataUrl}, declared.forgiving_base64.DecodeError.{DecodeError}}
use Rattle.data_url.specs.declared.forgiving_base64.DecodeError.TheVariants.{WriteError, InvalidBase64}
use Rattle.data_url.proofs.escapes.EscapeDigits.{begins_other, cleaned_keeps, cleaned_passes}
use Rattle.data_url.proofs.{escapes.Reading.{decoded_byte, plain_is}, forgiving_base64.Groups.{groups_length}}
use Rattle.data_url.proofs.{forgiving_base64.Groups.{filter_length}, forgiving_base64.Padding.{decoded_alike}}
use Rattle.data_url.proofs.forgiving_base64.Padding.{done_alike, kind_alike, valid_alike}
use Rattle.data_url.proofs.forgiving_base64.Steps.{feeds_then}
use Rattle.data_url.proofs.{runs.Runs.{run-append}}
use Rattle.data_url.proofs.runs.Runs.{run_ends, run_keeps, run_preserves, prefix_after, joined_pieces-append, match_at}
use Rattle.data_url.proofs.{runs.Runs.{refusal-append}, texts.Bytes.{after_other, is_cut}}
use denote.Param.Always.{mut_next}
pub use Rattle.data_url.proofs.escapes.Reading.{body_shorter}

module _ {F E : Type 0} (step : F → List ℕ → Result (Unit {0}) E → F → Type 0) where
  -- the closure was called with the next bytes of the walk
  pub takes_on_call : {f g h : F} {bytes : List ℕ} {w0 w w' : Walk} → TakesOn step f w0 g w → Takes w bytes w'
      → step g bytes (Ok tt) h → TakesOn step f w0 h w'
  takes_on_call {f} {g} {h} {bytes} {w0} {w} {w'} a t s =
      let call = record { piece = bytes; answer = Ok tt; after = h } ∷ [] in
      record {
        run = a.run ++ call;
        ran = run-append step a.run call f g h a.ran a.accepted (s, λ e. refl, refl);
        accepted = refusal-append a.run call a.accepted;
        text_stays = t.text_stays ∙ a.text_stays;
        calls = omega (arith, a.calls, t.place, t.some, length-append a.run call);
        within = t.within;
        short = t.short;
        body = cc (
          a.body,
          t.rest_is,
          joined_pieces-append a.run call,
          append-nil bytes,
          append_assoc (joined_pieces a.run) bytes w'.rest,
        );
      }

  -- the closure was called with bytes of a walk, and may be called with `left` more
  pub record TakesSoFar (f : F) (w0 : Walk) (most left : ℕ) (g : F) (w : Walk) : Type 0 where
    pub takes : TakesOn step f w0 g w
    pub few : length (joined_pieces takes.run) + left ≡ most
    pub goes : left < most → w0.place < w.place
    pub all : length w0.text ≤ w0.place + most → length w0.text ≤ w.place + left

  -- no call was made yet
  pub takes_none : {f : F} {w : Walk} (most : ℕ) → w.place + length w.rest ≤ length w.text
      → TakesSoFar f w most most f w
  takes_none {f} {w} most short = record {
    takes = record {
      run = [];
      ran = refl;
      accepted = refl;
      text_stays = refl;
      calls = omega arith;
      within = omega (arith, short);
      short = short;
      body = refl;
    };
    few = omega arith;
    goes = λ l. absurd (omega (arith, l));
    all = λ l. l;
  }

  -- one more call
  pub takes_more : {f g h : F} {bytes : List ℕ} {w0 w w' : Walk} {most left : ℕ} → TakesSoFar f w0 most left g w
      → Takes w bytes w' → length bytes ≤ left → step g bytes (Ok tt) h
      → TakesSoFar f w0 most (left - length bytes) h w'
  unfolding takes_on_call
  takes_more {h = h} {bytes = bytes} {most = most} {left = left} a t few s =
      let call : List (Call F E) = record { piece = bytes; answer = Ok tt; after = h } ∷ [] in
      let all : joined_pieces (a.takes.run ++ call) ≡ joined_pieces a.takes.run ++ bytes =
      joined_pieces-append a.takes.run call ∙ ap (λ x. joined_pieces a.takes.run ++ x) (append-nil bytes) in
      let size : length (joined_pieces (a.takes.run ++ call)) + (left - length bytes) ≡ most =
      omega (arith, ap length all, length-append (joined_pieces a.takes.run) bytes, a.few, few) in
      record {
        takes = takes_on_call a.takes t s;
        few = size;
        goes = λ l. omega (arith, a.takes.calls, t.place, t.some);
        all = λ l. omega (arith, a.all l, t.place, few);
      }

  -- the closure returned an error for the next bytes of the walk
  pub takes_refused : {f g h : F} {bytes : List ℕ} {w0 w w' : Walk} {most left : ℕ} {e : E}
      → TakesSoFar f w0 most left g w → Takes w bytes w' → length bytes ≤ left → step g bytes (Err e) h
      → TakesUntil step f w0 most e h
  takes_refused {f} {g} {h} {bytes} {w0} {w} {w'} {most} {left} {e} so t few s =
      let a = so.takes in
      let call = record { piece = bytes; answer = Err e; after = h } ∷ [] in
      let joined : joined_pieces (a.run ++ call) ≡ joined_pieces a.run ++ bytes =
      joined_pieces-append a.run call ∙ ap (λ x. joined_pieces a.run ++ x) (append-nil bytes) in
      record {
        run = a.run ++ call;
        ran = run-append step a.run call f g h a.ran a.accepted (s, λ e. refl, refl);
        calls = omega (
          arith,
          a.calls,
          t.place,
          t.some,
          t.within,
          length-append a.run call,
          ap length a.text_stays,
          ap length t.text_stays,
        );
        few = omega (arith, ap length joined, length-append (joined_pieces a.run) bytes, so.few, few);
        refused = refusal-append a.run call a.accepted;
        begins = (
          w'.rest,
          cc (a.body, t.rest_is, joined, append_assoc (joined_pieces a.run) bytes w'.rest),
        );
      }

  -- the walk is at its end
  pub takes_over : {f g : F} {w0 w w' : Walk} {most left : ℕ} → TakesSoFar f w0 most left g w → IsOver w w'
      → TakesPart step f w0 most g w'
  takes_over {w' = w'} so over =
      let a = so.takes in
      record {
        takes = record {
          run = a.run;
          ran = a.ran;
          accepted = a.accepted;
          text_stays = over.text_stays ∙ a.text_stays;
          calls = omega (arith, a.calls, over.place);
          within = over.within;
          short = omega (arith, over.within, ap length over.over);
          body = cc (a.body, over.rest_is, over.over);
        };
        few = omega (arith, so.few);
        goes = λ l n. absurd (let e = over.ended in cc);
        all = λ l. over.ended;
      }

  -- the walk is known to be at its end
  pub takes_ended : {f g : F} {w0 w : Walk} {most left : ℕ} → TakesSoFar f w0 most left g w → w.ended ≡ true
      → TakesPart step f w0 most g w
  takes_ended so e = record {
    takes = so.takes;
    few = omega (arith, so.few);
    goes = λ l n. absurd (cc);
    all = λ l. e;
  }

  -- the walk goes on, but fewer bytes may be taken than are worth it
  pub takes_enough : {f g : F} {w0 w : Walk} {most left least : ℕ} → TakesSoFar f w0 most left g w → left < least
      → (1 ≤ most → least ≤ most) → left < length w.text - w.place → TakesPart step f w0 most g w
  takes_enough so l few n = record {
    takes = so.takes;
    few = omega (arith, so.few);
    goes = λ some _. so.goes (omega (arith, few some));
    all = λ whole. absurd (omega (arith, so.all whole, ap length so.takes.text_stays));
  }

module _ {F E : Type 0} (step : F → List ℕ → Result (Unit {0}) E → F → Type 0) where
  -- after some calls, the closure was called with more bytes of the walk
  takes_then : {f g h : F} {w0 w w' : Walk} {most left : ℕ} → TakesSoFar step f w0 most left g w
      → TakesPart step g w left h w' → TakesPart step f w0 most h w'
  takes_then {f} {g} {h} {w0} {w} {w'} {most} {left} so t =
      let a = so.takes in
      let b = t.takes in
      let joined = joined_pieces-append a.run b.run in
      record {
        takes = record {
          run = a.run ++ b.run;
          ran = run-append step a.run b.run f g h a.ran a.accepted b.ran;
          accepted = refusal-append a.run b.run a.accepted ∙ b.accepted;
          text_stays = b.text_stays ∙ a.text_stays;
          calls = omega (arith, a.calls, b.calls, length-append a.run b.run);
          within = b.within;
          short = b.short;
          body = cc (a.body, b.body, joined, append_assoc (joined_pieces a.run) (joined_pieces b.run) w'.rest);
        };
        few = omega (
          arith,
          so.few,
          t.few,
          ap length joined,
          length-append (joined_pieces a.run) (joined_pieces b.run),
        );
        goes = λ l n. elim (cases_lt 0 left) [
          | inl some ↦ omega (arith, a.calls, t.goes some n)
          | inr none ↦ omega (arith, so.goes (omega arith), b.calls)
        ];
        all = λ l. t.all (omega (arith, so.all l, ap length a.text_stays));
      }

  -- after some calls, the closure returned an error for more bytes of the walk
  takes_then_refused : {f g h : F} {w0 w : Walk} {most left : ℕ} {e : E} → TakesSoFar step f w0 most left g w
      → TakesUntil step g w left e h → TakesUntil step f w0 most e h
  takes_then_refused {f} {g} {h} {w0} {w} {e = e} so t =
      let a = so.takes in
      let joined = joined_pieces-append a.run t.run in
      let p = prefix_after (joined_pieces a.run) (joined_pieces t.run) w.rest t.begins in
      record {
        run = a.run ++ t.run;
        ran = run-append step a.run t.run f g h a.ran a.accepted t.ran;
        calls = omega (arith, a.calls, t.calls, length-append a.run t.run, ap length a.text_stays);
        few = omega (
          arith,
          so.few,
          t.few,
          ap length joined,
          length-append (joined_pieces a.run) (joined_pieces t.run),
        );
        refused = refusal-append a.run t.run a.accepted ∙ t.refused;
        begins = (p.0, cc (joined, a.body, p.1));
      }

  -- after some calls, the closure was called with more bytes of the walk, or returned an error
  pub takes_on : {f g : F} {w0 w : Walk} {most left : ℕ} (r : Result (Unit {0}) E) (h : F) (w' : Walk)
      → TakesSoFar step f w0 most left g w → TakesWithin step g w left r h w' → TakesWithin step f w0 most r h w'
  takes_on (Ok u) h w' so t = takes_then so t
  takes_on (Err e) h w' so t = takes_then_refused so t

-- the next bytes of a walk are not more than what may be taken, if that is not nothing, or the rest
-- of the text is not more
pub next_fits : {w w' : Walk} {bytes : List ℕ} {left most : ℕ} → Takes w bytes w' → most ≤ max left 1
    → length bytes ≤ most → (1 ≤ left) ⊎ (length w.text - w.place ≤ left) → length bytes ≤ left
next_fits t e few (inl l) = omega arith
next_fits t e few (inr l) = omega (arith, t.place, t.within, t.some, ap length t.text_stays)

-- a closure that can always be called can be called until it returns an error
pub until_error : {F E : Type 0} (closure : Mut F (Bor (List ℕ) × Unit {0}) (Result (Unit {0}) E)) (f : F)
    → always_mut closure f → IsCallableUntilError closure f
until_error closure f h run g ran n bytes =
    let k = run_preserves (CalledAt closure) (always_mut closure)
    (λ p piece q i s. mut_next closure p (s.shown, tt) (Ok tt) q q s.called refl i) run f g ran n h in
    (k.at ((bytes, tt) ∷ [])).0

-- after a call that returns no error, the closure can still be called until it returns an error
pub callable_on : {F E : Type 0} (closure : Mut F (Bor (List ℕ) × Unit {0}) (Result (Unit {0}) E)) {f g : F}
    {bytes : List ℕ} → IsCallableUntilError closure f → CalledAt closure f bytes (Ok tt) g
    → IsCallableUntilError closure g
callable_on closure {f} {g} {bytes} can s = λ run h ran n more.
    can (record { piece = bytes; answer = Ok tt; after = g } ∷ run) h (s, λ e. absurd (cc), ran) n more

-- A body that is not base64

module _ {F E : Type 0} (step : F → List ℕ → Result (Unit {0}) E → F → Type 0) where
  -- the prefix of a body is the next bytes of a walk at its start
  prefix_takes : {text bytes : List ℕ} {w : Walk} → IsBodyPrefix text bytes w → 1 ≤ length bytes
      → Takes (walk_at_start text) bytes w
  prefix_takes i some = record {
    text_stays = i.text_is;
    rest_is = i.body_is;
    place = omega (arith, i.place_is);
    within = omega (arith, i.within, ap length i.text_is);
    some = some;
    short = i.short;
  }

  -- the closure was called with the prefix
  pub prefix_taken : {f g : F} {text bytes : List ℕ} {w : Walk} (most : ℕ) → IsBodyPrefix text bytes w
      → 1 ≤ length bytes → step f bytes (Ok tt) g
      → TakesSoFar step f (walk_at_start text) (length bytes + most) most g w
  prefix_taken {f} {g} {text} {bytes} {w} most i some s =
      subst (λ left. TakesSoFar step f (walk_at_start text) (length bytes + most) left g w) (omega arith)
      (takes_more step (takes_none step (length bytes + most) (omega (arith, body_shorter text))) (prefix_takes i some)
      (omega arith) s)

  -- the prefix is empty
  pub prefix_empty : {f : F} {text bytes : List ℕ} {w : Walk} (most : ℕ) → IsBodyPrefix text bytes w
      → bytes ≡ [] → TakesSoFar step f (walk_at_start text) (length bytes + most) most f w
  prefix_empty {f} {text} {bytes} {w} most i none = record {
    takes = record {
      run = [];
      ran = refl;
      accepted = refl;
      text_stays = i.text_is;
      calls = omega arith;
      within = omega (arith, i.within, ap length i.text_is);
      short = i.short;
      body = cc (i.body_is, none);
    };
    few = omega (arith, ap length none);
    goes = λ l. absurd (omega (arith, l, ap length none));
    all = λ l. omega (arith, l, i.place_is, ap length none);
  }

  -- the closure returned an error for the prefix
  pub prefix_refused : {f g : F} {text bytes : List ℕ} {w : Walk} {e : E} (most : ℕ) → IsBodyPrefix text bytes w
      → 1 ≤ length bytes → step f bytes (Err e) g
      → TakesUntil step f (walk_at_start text) (length bytes + most) e g
  prefix_refused {text = text} {bytes = bytes} most i some s =
      takes_refused step (takes_none step (length bytes + most) (omega (arith, body_shorter text)))
      (prefix_takes i some) (omega arith) s

  -- the closure was called with the whole body
  pub walk_decoded : {f g : F} {text : List ℕ} {w : Walk} {most place : ℕ}
      → TakesPart step f (walk_at_start text) most g w → w.rest ≡ [] → IsBodyEnd w.text place
      → Decodes step f (length text + 1) (outcome false (plain_body text)) (IsBodyEnd text) (Ok place) g
  unfolding outcome
  walk_decoded {f} {g} {text} {w} {most} {place} part over end =
      let t = part.takes in
      record {
        run = t.run;
        ran = t.ran;
        calls = omega (arith, t.calls, t.within, ap length t.text_stays);
        gave = match_at None _ _ _ t.accepted (record {
          bytes_are = cc (t.body, over, append-nil (joined_pieces t.run));
          answer = rw t.text_stays at end;
        });
      }

  -- the closure returned an error
  pub walk_refused : {f g : F} {text : List ℕ} {e : E} {most : ℕ} → TakesUntil step f (walk_at_start text) most e g
      → Decodes step f (length text + 1) (outcome false (plain_body text)) (IsBodyEnd text) (Err (WriteError e)) g
  unfolding outcome
  walk_refused {e = e} t = record {
    run = t.run;
    ran = t.ran;
    calls = omega (arith, t.calls);
    gave = match_at (Some e) _ _ _ t.refused (record { bytes_begin = t.begins; answer = refl });
  }

-- A body of base64

-- texts that are equal without white space are so after a byte
alike_cons : (c : ℕ) (x y : List ℕ) → without_whitespace x ≡ without_whitespace y
    → without_whitespace (c ∷ x) ≡ without_whitespace (c ∷ y)
unfolding without_whitespace
alike_cons c x y e = ap (λ s. cond (not (is_ascii_whitespace c)) (c ∷ s) s) e

-- a tab or a newline is white space
space_gone : (c : ℕ) (x : List ℕ) → is_tab_or_newline c ≡ true → without_whitespace x ≡ without_whitespace (c ∷ x)
unfolding without_whitespace
space_gone c x t = grind arith

-- a byte that is neither '#' nor '%' is read as it is, unless it is a tab or a newline
no_hash_one : (c : ℕ) (s : List ℕ) → is_no_hash_or_percent c ≡ true
    → (without_whitespace (plain_body (c ∷ s)) ≡ without_whitespace (c ∷ plain_body s))
    × (after number_sign (c ∷ s) ≡ after number_sign s)
no_hash_one c s h =
    let no : (c == 35) ≡ false = grind arith in
    let other : (c == 37) ≡ false = grind arith in
    let same : without_whitespace (plain_body (c ∷ s)) ≡ without_whitespace (c ∷ plain_body s) =
    elim (cases_Bool (is_tab_or_newline c)) [
      | inl t ↦ ap without_whitespace (cc (plain_is (c ∷ s), cleaned_passes c s t, plain_is s))
          ∙ space_gone c (plain_body s) t
      | inr t ↦
          let kept = cleaned_keeps c s t no in
          let read = decoded_byte c (cleaned s) (begins_other c (cleaned s) other) in
          ap without_whitespace (cc (plain_is (c ∷ s), kept, read, plain_is s))
    ] in
    (same, after_other 35 c s no)

-- text without '#' and '%' is read as it is, but for tabs and newlines
no_hash_front : (a b : List ℕ) → list_all is_no_hash_or_percent a ≡ true
    → (without_whitespace (plain_body (a ++ b)) ≡ without_whitespace (a ++ plain_body b))
    × (after number_sign (a ++ b) ≡ after number_sign b)
no_hash_front [] b h = (refl, refl)
no_hash_front (c ∷ a) b h =
    let k = and_parts (is_no_hash_or_percent c) (list_all is_no_hash_or_percent a) h in
    let more = no_hash_front a b k.1 in
    let one = no_hash_one c (a ++ b) k.0 in
    let same = alike_cons c (plain_body (a ++ b)) (a ++ plain_body b) more.0 in
    (one.0 ∙ same, one.1 ∙ more.1)

-- the fragment of a tail comes after its front
pub front_fragment : (tail : List ℕ) (at : ℕ) → list_all is_no_hash_or_percent (take at tail) ≡ true
    → after number_sign (drop at tail) ≡ after number_sign tail
front_fragment tail at no_hash_or_percent =
    cc ((no_hash_front (take at tail) (drop at tail) no_hash_or_percent).1, take-append-drop at tail)

-- the bytes are the body of the tail, but for white space
pub record IsBodyOf (tail bytes : List ℕ) : Type 0 where
  pub few : length bytes ≤ length tail
  pub alike : without_whitespace (plain_body tail) ≡ without_whitespace bytes

-- a part of a tail ends where the tail does, at the latest
part_within : (tail : List ℕ) {part : List ℕ} (at m : ℕ) → part ≡ take m (drop at tail)
    → (length part ≤ m) × (length part ≤ length tail - at)
part_within tail at m is =
    let size = ap length is ∙ length-take m (drop at tail) in
    let rest = length-drop at tail in
    (omega (arith, size), omega (arith, size, rest))

-- the bytes before a part of a tail, and then some of the part
in_part : (tail : List ℕ) {part : List ℕ} (at m n : ℕ) → n ≤ length part → part ≡ take m (drop at tail)
    → take at tail ++ take n part ≡ take (at + n) tail
in_part tail at m n l is =
    let few : n ≤ m = omega (arith, l, (part_within tail at m is).0) in
    ap (λ t. take at tail ++ t) (ap (take n) is ∙ take-take n m (drop at tail) few) ∙ sym (take-add at n tail)

-- the byte at a place in a part
pub part_byte : (tail : List ℕ) {part : List ℕ} (at m n : ℕ) → n < length part
    → part ≡ take m (drop at tail) → get_or part n 0 ≡ get_or tail (at + n) 0
part_byte tail at m n l is =
    let few : n < m = omega (arith, l, (part_within tail at m is).0) in
    ap (λ t. get_or t n 0) is ∙ get_or-take m (drop at tail) n 0 few ∙ get_or-drop at tail n 0

-- the front of a tail as it is, and then the body from there on
pub front_body : (tail : List ℕ) (at : ℕ) → at ≤ length tail → list_all is_no_hash_or_percent (take at tail) ≡ true
    → IsBodyOf tail (take at tail ++ plain_body (drop at tail))
front_body tail at within no_hash_or_percent =
    let front = no_hash_front (take at tail) (drop at tail) no_hash_or_percent in
    record {
      few = omega (
        arith,
        within,
        body_shorter (drop at tail),
        length-append (take at tail) (plain_body (drop at tail)),
        length-take-le at tail within,
        length-drop at tail,
      );
      alike = ap (λ t. without_whitespace (plain_body t)) (sym (take-append-drop at tail)) ∙ front.0;
    }

-- texts that are equal without white space have the same outcome, if they are base64
pub outcome_alike : (x y : List ℕ) → without_whitespace x ≡ without_whitespace y → outcome true x ≡ outcome true y
unfolding outcome
outcome_alike x y e = cc (valid_alike x y e, decoded_alike x y e, done_alike x y e, kind_alike x y e)

module _ {F E : Type 0} (step : F → List ℕ → Result (Unit {0}) E → F → Type 0) where
  -- after the front of a tail, a decoder is fed some of a part of it
  pub front_more : {d d1 d2 : State F} {tail part : List ℕ} {r : Result (Unit {0}) (DecodeError E)} (at m n : ℕ)
      → part ≡ take m (drop at tail) → FeedsFront step d tail at (Ok tt) d1 → FeedsFront step d1 part n r d2
      → FeedsFront step d tail (at + n) r d2
  front_more {d} {d2 = d2} {tail} {part} {r} at m n is k h =
      let joined = in_part tail at m n h.within is in
      record {
        within = omega (arith, k.within, h.within, (part_within tail at m is).1);
        no_hash_or_percent = subst (λ t. list_all is_no_hash_or_percent t ≡ true) joined
            (list_all-append is_no_hash_or_percent (take at tail) (take n part)
            ∙ ap₂ (λ a b. a && b) k.no_hash_or_percent h.no_hash_or_percent);
        feeds = subst (λ t. Feeds step d t r d2) joined (feeds_then step k.feeds h.feeds);
      }

-- how decoding a body ended, with what is then true of the closure and the bytes that it was called with
abbrev pub EndsWith : {F E A : Type 0} → (List ℕ → F → Type 0) → (List ℕ → E → F → Type 0) → Outcome → (A → Type 0) → F
    → Result A (DecodeError E) → Type 0
EndsWith kept stopped body good g (Ok x) = (bytes : List ℕ) × (body ≡ Good bytes) × good x × kept bytes g
EndsWith kept stopped body good g (Err (InvalidBase64 kind)) = (bytes : List ℕ) × (body ≡ Bad bytes kind) × kept bytes g
EndsWith kept stopped body good g (Err (WriteError e)) = (bytes : List ℕ) × IsPrefix bytes (outcome_bytes body)
    × stopped bytes e g

module _ {F E A : Type 0} (kept : List ℕ → F → Type 0) (stopped : List ℕ → E → F → Type 0) (good : A → Type 0)
    (g : F) where
  -- what is true of a body that ended with a result is also true with an equal result
  ended_at : (body : Outcome) (r s : Result A (DecodeError E)) → r ≡ s → EndsWith kept stopped body good g s
      → EndsWith kept stopped body good g r
  ended_at body r s e h = grind arith

  -- decoding ends with `kept` if the whole body was handed out, and with `stopped` if the closure refused it
  ended_by : (o : Option E) (body : Outcome) (bytes : List ℕ) (r : Result A (DecodeError E))
      → MatchOption o (HandsOut body good bytes r) (λ e. IsRefused (outcome_bytes body) bytes e r)
      → MatchOption o (kept bytes g) (λ e. stopped bytes e g) → EndsWith kept stopped body good g r
  ended_by None (Good all) bytes (Ok x) h k = grind arith
  ended_by None (Good all) bytes (Err e) h k = absurd h.answer
  ended_by None (Bad all kind) bytes r h k = grind arith
  ended_by (Some e) body bytes r h k = grind (arith, ended_at)

module _ {F E A : Type 0} {step : F → List ℕ → Result (Unit {0}) E → F → Type 0} {f f' : F} {most : ℕ} {body : Outcome}
    {good : A → Type 0} {r : Result A (DecodeError E)} where
  -- if each call that succeeds preserves `kept`, and a call that fails makes `stopped` true, then one of these is true
  -- after decoding, by its result s
  pub body_ends : {s : Result A (DecodeError E)} → Decodes step f most body good r f' → r ≡ s
      → (kept : List ℕ → F → Type 0) (stopped : List ℕ → E → F → Type 0)
      → ((bytes : List ℕ) (p : F) (piece : List ℕ) (q : F) → kept bytes p → step p piece (Ok tt) q
      → kept (bytes ++ piece) q)
      → ((bytes : List ℕ) (p : F) (piece : List ℕ) (e : E) (q : F) → kept bytes p → step p piece (Err e) q
      → stopped (bytes ++ piece) e q)
      → kept [] f → EndsWith kept stopped body good f' s
  body_ends {s} d e kept stopped accepts refuses start = ended_at kept stopped good f' body s r (sym e)
      (ended_by kept stopped good f' (refusal d.run) body (joined_pieces d.run) r d.gave
      (run_ends step d.run f f' d.ran kept stopped accepts refuses start))

  -- if decoding returns `Ok`, and J is a measure that each call without an error extends by its piece, the body is
  -- good, and J is extended by its bytes
  pub body_reads : {x : A} → Decodes step f most body good r f' → r ≡ Ok x → (J : F → List ℕ)
      → ((g : F) (piece : List ℕ) (g' : F) → step g piece (Ok tt) g' → J g' ≡ J g ++ piece)
      → (all : List ℕ) × (body ≡ Good all) × (J f' ≡ J f ++ all)
  body_reads h q J keeps =
      let e = body_ends h q (λ bytes p. J p ≡ J f ++ bytes) (λ bytes e p. Unit {0})
      (λ bytes p piece q k s. cc (keeps p piece q s, append_assoc (J f) bytes piece))
      (λ bytes p piece e q k s. tt) (sym (append-nil (J f))) in
      (e.0, e.1, e.3)

  -- the result says whether the body is good
  body_told : {s : Result A (DecodeError E)} → Decodes step f most body good r f' → r ≡ s
      → EndsWith (λ bytes p. Unit {0}) (λ bytes e p. Unit {0}) body good f' s
  body_told h q = grind (arith, body_ends)

  -- if decoding returns `Ok x`, `good` is true of x
  pub body_answer : {x : A} → Decodes step f most body good r f' → r ≡ Ok x → good x
  body_answer h q = (body_told h q).2

  -- if decoding returns that base64 is not valid, the body is bad, with this kind of fault
  pub body_fault : {kind : _} → Decodes step f most body good r f' → r ≡ Err (InvalidBase64 kind)
      → (all : List ℕ) × (body ≡ Bad all kind)
  body_fault h q = let e = body_told h q in (e.0, e.1)

  -- what no call of the closure changes in its state is the same after decoding
  pub body_keeps : {B : Type 0} → Decodes step f most body good r f' → (K : F → B)
      → ((g : F) (piece : List ℕ) (s : Result (Unit {0}) E) (g' : F) → step g piece s g' → K g ≡ K g') → K f ≡ K f'
  body_keeps h K keeps = run_keeps step K keeps h.run f f' h.ran

  -- if the result is Ok, the body is good
  pub body_good : {x : A} → Decodes step f most body good r f' → r ≡ Ok x → (all : List ℕ) × (body ≡ Good all)
  body_good h q = let e = body_told h q in (e.0, e.1)

  -- if each call that succeeds extends a measure by its piece, and a call that fails extends it by a prefix of its
  -- piece, then decoding extends it by all the bytes, or by a prefix of them if a call fails
  pub body_extends : {s : Result A (DecodeError E)} → Decodes step f most body good r f' → r ≡ s
      → (measure : F → List ℕ)
      → ((p : F) (piece : List ℕ) (q : F) → step p piece (Ok tt) q → measure q ≡ measure p ++ piece)
      → ((p : F) (piece : List ℕ) (e : E) (q : F) → step p piece (Err e) q → (part : List ℕ) × IsPrefix part piece
      × (measure q ≡ measure p ++ part))
      → EndsWith (λ bytes q. measure q ≡ measure f ++ bytes) (λ bytes e q. (part : List ℕ) × IsPrefix part bytes
      × (measure q ≡ measure f ++ part)) body good f' s
  body_extends d e measure accepts refuses = body_ends d e (λ bytes q. measure q ≡ measure f ++ bytes)
      (λ bytes e q. (part : List ℕ) × IsPrefix part bytes × (measure q ≡ measure f ++ part))
      (λ bytes p piece q k s. cc (accepts p piece q s, append_assoc (measure f) bytes piece))
      (λ bytes p piece e q k s.
      let h = refuses p piece e q s in
      (bytes ++ h.0, prefix_after bytes h.0 piece h.1, cc (h.2, append_assoc (measure f) bytes h.0)))
      (sym (append-nil (measure f)))

-- complete groups and the rest after them have together at most as many bytes as there are values
groups_then_rest : (x : List ℕ) → length (groups x ++ rest_bytes (after_groups x)) ≤ length x
unfolding groups after_groups
groups_then_rest [] = omega arith
groups_then_rest (p ∷ []) = omega arith
groups_then_rest (p ∷ q ∷ []) = omega arith
groups_then_rest (p ∷ q ∷ r ∷ []) = omega arith
groups_then_rest (p ∷ q ∷ r ∷ s ∷ rest) = let h = groups_then_rest rest in omega arith

-- with or without base64, the bytes of the outcome of a text are not longer than the text
pub outcome_shorter : (flag : Bool) (s : List ℕ) → length (outcome_bytes (outcome flag s)) ≤ length s
unfolding outcome complete_bytes decoded values
outcome_shorter false s = omega arith
outcome_shorter true s = grind (arith, groups_then_rest, groups_length, length-map, filter_length, length-take)

-- a body, or the bytes before its fault, is not longer than its tail
pub body_within_tail : (url : DataUrl) → length (outcome_bytes (url_body url)) ≤ length (url_tail url)
body_within_tail url = grind (arith, outcome_shorter, body_shorter)

-- a body, or the bytes before its fault, is not longer than the text of its URL
pub body_within_text : {t : List ℕ} (url : DataUrl) → IsUrlOf t url → length (outcome_bytes (url_body url)) ≤ length t
unfolding tail_of trimmed_text
body_within_text {t} url h =
    let cut = ap length (is_cut 44 (trimmed_text t) (url_tail url) h.tail_is).joined in
    grind (arith, body_within_tail url, length-append, length-take, length-drop)
