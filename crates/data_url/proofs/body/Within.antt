-- A decoder that is fed the body of a tail after what is left over, as far as it may. For
-- `decode_base64_within` and its callers.
use Rattle.std.proofs.Common.{Result, Ok, Err, refl, sym, ap, ◌∙◌, append_assoc, arith, length-append, Bool}
use Rattle.std.proofs.Common.{MatchBool, ℕ}
use Rattle.std.proofs.Common.{Some, false, cond, MatchOption, MatchResult, true, append-nil, ◌≡◌, ◌+◌, ◌≤◌, ◌*◌, ◌<◌}
use Rattle.std.proofs.Common.{List}
use Rattle.std.proofs.Common.{[], ◌∷◌, ◌++◌, length, Option, None, drop, take, length-take}
use Rattle.std.proofs.Common.{length-take-le, subst}
use Rattle.std.proofs.Common.{take-take, min, ◌-◌, inl, inr}
use Rattle.std.{proofs.lemmas.Bool.{cases_Bool, cases_lt}, specs.List.{list_all}}
use Rattle.std.proofs.lemmas.{List.{length-map}, List.Elements.{filter-append}}
use Rattle.std.specs.List.{filter}
use Rattle.data_url.specs.Base64.{after_groups, complete_bytes, decoded, groups, is_symbol, is_valid, kind_of}
use Rattle.data_url.specs.Base64.{rest_bytes}
use Rattle.data_url.specs.Base64.{values, without_whitespace}
use Rattle.data_url.specs.Decoder.{Feeds, Finishes, IsTaken, State, left_over}
use Rattle.data_url.specs.{Laws.{GoesOn}}
use Rattle.data_url.specs.Fetch.{outcome, outcome_bytes, plain_body}
use Rattle.data_url.specs.{Parts.{prepend}, Pieces.{Walk}, Url.{after, number_sign}}
use Rattle.data_url.specs.Run.{Call, IsPrefix, IsRun, joined_pieces, refusal}
use Rattle.data_url.specs.Steps.{Chunks.{IsBodyFrom, TakesPart, TakesUntil}, Holding.{FeedsFront}, Tail.{IsBodyEnd}}
use Rattle.data_url.specs.Steps.{Parts.{DecodesWithin, StopsAt}, Window.{is_no_hash_or_percent}}
use Rattle.data_url.specs.declared.body.Stop.TheVariants.{Ended, Paused}
use Rattle.data_url.specs.declared.body.Stop.{Stop}
use Rattle.data_url.specs.declared.forgiving_base64.DecodeError.TheVariants.{InvalidBase64, WriteError}
use Rattle.data_url.specs.declared.forgiving_base64.DecodeError.{DecodeError}
use Rattle.data_url.proofs.body.Decoding.{front_body, outcome_alike}
use Rattle.data_url.proofs.forgiving_base64.Groups.{filter_length, groups_length}
use Rattle.data_url.proofs.forgiving_base64.Padding.{done_stays, fault-append_some, fault_byte}
use Rattle.data_url.proofs.forgiving_base64.Padding.{fault_invalid}
use Rattle.data_url.proofs.forgiving_base64.{Padding.{fault_some, kind_stays, none_fault}, Resumed.{before_length}}
use Rattle.data_url.proofs.forgiving_base64.Steps.{IsSound, done_begins, feeds_goes_on, feeds_then, feeds_took}
use Rattle.data_url.proofs.forgiving_base64.Steps.{symbols_more}
use Rattle.data_url.proofs.forgiving_base64.WholeTexts.{done_whole, finished_after, whole_bytes}
use Rattle.data_url.proofs.runs.Runs.{match_at, match_at_none, match_map, match_none, match_some, prefix_trans}
use Rattle.data_url.proofs.runs.Runs.{run_ends}

-- How many bytes are decoded

-- complete groups and the rest after them have three bytes for four values, at most
three_for_four : (x : List ℕ) → 4 * length (groups x ++ rest_bytes (after_groups x)) ≤ 3 * length x
unfolding groups after_groups
three_for_four [] = omega arith
three_for_four (p ∷ []) = omega arith
three_for_four (p ∷ q ∷ []) = omega arith
three_for_four (p ∷ q ∷ r ∷ []) = omega arith
three_for_four (p ∷ q ∷ r ∷ s ∷ rest) = let h = three_for_four rest in omega arith

-- the complete bytes of a text are not more than those of all its symbols
complete_few : (u : List ℕ) → 4 * length (complete_bytes u) ≤ 3 * length (filter is_symbol u)
unfolding complete_bytes values
complete_few u = grind (arith, groups_length, length-map, before_length)

-- nor are those of a valid text
decoded_few : (u : List ℕ) → 4 * length (decoded u) ≤ 3 * length (filter is_symbol u)
unfolding decoded values
decoded_few u = grind (arith, three_for_four, length-map)

-- a text that is fed after what is left over has at most so many symbols
symbols_few : {F : Type 0} (d : State F) → IsSound d.symbols d.padding → (a : List ℕ)
    → length (filter is_symbol (left_over d ++ a)) ≤ length d.symbols + length a
symbols_few {F} d h a = grind (arith, symbols_more, length-append, filter_length)

-- nor are those of a text, valid or not
whole_few : (u : List ℕ) → 4 * length (whole_bytes u) ≤ 3 * length (filter is_symbol u)
whole_few u = elim (cases_Bool (is_valid u)) [
  | inl e ↦ omega (arith, decoded_few u, ap length (cond_at_true (decoded u) (complete_bytes u) e))
  | inr e ↦ omega (arith, complete_few u, ap length (cond_at_false (decoded u) (complete_bytes u) e))
]
  where
    cond_at_true : (x y : List ℕ) {v : Bool} → v ≡ true → cond v x y ≡ x
    cond_at_true x y e = rw e refl

    cond_at_false : (x y : List ℕ) {v : Bool} → v ≡ false → cond v x y ≡ y
    cond_at_false x y e = rw e refl

-- Outcomes

-- texts that are equal without white space are so after another text
alike_after : (x a b : List ℕ) → without_whitespace a ≡ without_whitespace b
    → without_whitespace (x ++ a) ≡ without_whitespace (x ++ b)
unfolding without_whitespace
alike_after x a b e = cc (filter-append _ x a, filter-append _ x b, e)

-- the outcome of a text without a fault, and then of another text
outcome_on : (a b v : List ℕ) → GoesOn a b v → outcome true (a ++ b) ≡ prepend (complete_bytes a) (outcome true v)
unfolding outcome
outcome_on a b v on = grind (arith, on)

-- the bytes of the outcome of a text
outcome_whole : (u : List ℕ) → outcome_bytes (outcome true u) ≡ whole_bytes u
unfolding outcome
outcome_whole u = elim (cases_Bool (is_valid u)) [
  | inl e ↦ cc (e)
  | inr e ↦ cc (e)
]

-- Feeding

-- d was fed some of the body of a tail, and is d' after that; the rest of the body is `rest`
pub record FedBody {F E : Type 0} (step : F → List ℕ → Result (Unit {0}) E → F → Type 0) (d : State F) (tail : List ℕ)
    (most : ℕ) (rest : List ℕ) (r : Result (Unit {0}) (DecodeError E)) (d' : State F) : Type 0 where
  pub fed : List ℕ
  pub few : length fed ≤ most
  pub short : length fed ≤ length tail
  pub alike : without_whitespace (plain_body tail) ≡ without_whitespace (fed ++ rest)
  pub feeds : Feeds step d fed r d'

-- a front of the first bytes of a tail is a front of the tail
pub front_whole : {F E : Type 0} {step : F → List ℕ → Result (Unit {0}) E → F → Type 0} {d d' : State F}
    {tail part : List ℕ} {r : Result (Unit {0}) (DecodeError E)} (most place : ℕ)
    → part ≡ take (min (length tail) most) tail
    → FeedsFront step d part place r d' → FeedsFront step d tail place r d' × (place ≤ most)
front_whole {step = step} {d = d} {d' = d'} {tail = tail} {part = part} {r = r} most place is h =
    let size : length part ≡ min (min (length tail) most) (length tail) =
    ap length is ∙ length-take (min (length tail) most) tail in
    let same : take place part ≡ take place tail =
    ap (take place) is ∙ take-take place (min (length tail) most) tail (omega (arith, size, h.within)) in (
      record {
        within = omega (arith, size, h.within);
        no_hash_or_percent = subst (λ t. list_all is_no_hash_or_percent t ≡ true) same h.no_hash_or_percent;
        feeds = subst (λ t. Feeds step d t r d') same h.feeds;
      },
      omega (arith, size, h.within),
    )

module _ {F E : Type 0} (step : F → List ℕ → Result (Unit {0}) E → F → Type 0) where
  -- the front of a tail was fed, or had a fault
  pub fed_front : {d d' : State F} {tail : List ℕ} {r : Result (Unit {0}) (DecodeError E)} (most place : ℕ)
      → FeedsFront step d tail place r d' → place ≤ most → FedBody step d tail most (plain_body (drop place tail)) r d'
  fed_front {tail = tail} most place h l =
      let front = front_body tail place h.within h.no_hash_or_percent in
      let size = length-take-le place tail h.within in
      record {
        fed = take place tail;
        few = omega (arith, size);
        short = omega (arith, size, h.within);
        alike = front.alike;
        feeds = h.feeds;
      }

module _ {C F E : Type 0} {outer : C → List ℕ → Result (Unit {0}) (DecodeError E) → C → Type 0}
    (step : F → List ℕ → Result (Unit {0}) E → F → Type 0) (state : C → State F)
    (feeds : (p : C) (piece : List ℕ) (r : Result (Unit {0}) (DecodeError E)) (q : C) → outer p piece r q
    → Feeds step (state p) piece r (state q)) where
  -- a run of calls, each of which feeds the decoder its piece, feeds the decoder all the pieces, joined, after a text
  fed_run : {d : State F} (text : List ℕ) (c c' : C) (run : List (Call C (DecodeError E)))
      → Feeds step d text (Ok tt) (state c) → IsRun outer c run c'
      → MatchOption (refusal run) (Feeds step d (text ++ joined_pieces run) (Ok tt) (state c'))
      (λ e. Feeds step d (text ++ joined_pieces run) (Err e) (state c'))
  fed_run {d} text c c' run s ran =
      run_ends outer run c c' ran (λ bytes q. Feeds step d (text ++ bytes) (Ok tt) (state q))
      (λ bytes e q. Feeds step d (text ++ bytes) (Err e) (state q))
      (λ bytes p piece q k o. rw (append_assoc text bytes piece) at (feeds_then step k (feeds p piece (Ok tt) q o)))
      (λ bytes p piece e q k o. rw (append_assoc text bytes piece) at (feeds_then step k (feeds p piece (Err e) q o)))
      (rw (append-nil text) s)

  -- after the front of a tail, a closure feeds the decoder the next bytes of the body
  pub fed_part : {c c' : C} {d : State F} {tail : List ℕ} {place most : ℕ} {w w' : Walk} → place ≤ most
      → FeedsFront step d tail place (Ok tt) (state c) → IsBodyFrom tail place w
      → TakesPart outer c w (most - place) c' w' → FedBody step d tail most w'.rest (Ok tt) (state c')
  fed_part {c} {c'} {d} {tail} {place} {most} {w} {w'} l front from part =
      let t = part.takes in
      let size = length-take-le place tail front.within in
      let all = length-append (take place tail) (joined_pieces t.run) in
      let body = front_body tail place front.within front.no_hash_or_percent in
      let whole : take place tail ++ plain_body (drop place tail) ≡ (take place tail ++ joined_pieces t.run) ++
      w'.rest =
      cc (from.rest_is, t.body, append_assoc (take place tail) (joined_pieces t.run) w'.rest) in
      record {
        fed = take place tail ++ joined_pieces t.run;
        few = omega (arith, size, all, part.few);
        short = omega (
          arith,
          all,
          size,
          ap length whole,
          body.few,
          length-append (take place tail ++ joined_pieces
              t.run) w'.rest,
        );
        alike = body.alike ∙ ap without_whitespace whole;
        feeds = match_at_none _ _ _ t.accepted (fed_run (take place tail) c c' t.run front.feeds t.ran);
      }

  -- or the decoder refuses some of them
  pub fed_until : {c c' : C} {d : State F} {tail : List ℕ} {place most : ℕ} {w : Walk} {x : DecodeError E}
      → place ≤ most
      → FeedsFront step d tail place (Ok tt) (state c) → IsBodyFrom tail place w
      → (u : TakesUntil outer c w (most - place) x c') → FedBody step d tail most u.begins.0 (Err x) (state c')
  fed_until {c} {c'} {d} {tail} {place} {most} {w} {x} l front from u =
      let size = length-take-le place tail front.within in
      let all = length-append (take place tail) (joined_pieces u.run) in
      let body = front_body tail place front.within front.no_hash_or_percent in
      let whole : take place tail ++ plain_body (drop place tail)
      ≡ (take place tail ++ joined_pieces u.run) ++ u.begins.0 =
      cc (from.rest_is, u.begins.1, append_assoc (take place tail) (joined_pieces u.run) u.begins.0) in
      record {
        fed = take place tail ++ joined_pieces u.run;
        few = omega (arith, size, all, u.few);
        short = omega (
          arith,
          all,
          size,
          ap length whole,
          body.few,
          length-append (take place tail ++ joined_pieces
              u.run) u.begins.0,
        );
        alike = body.alike ∙ ap without_whitespace whole;
        feeds = match_at (refusal u.run) (Some x) _ _ (sym u.refused)
            (fed_run (take place tail) c c' u.run front.feeds u.ran);
      }

-- What decoding gives

-- a fault, whatever follows
refused_stops : {F E : Type 0} (d d' : State F) (tail : List ℕ) (most : ℕ) (u rest bytes : List ℕ) (x : DecodeError E)
    (o : Option ℕ) → fault_byte false u ≡ o → outcome true (left_over d ++ plain_body tail) ≡ outcome true (u ++ rest)
    → IsTaken u bytes (Err x) d' → StopsAt d tail most bytes (Err x) d'
unfolding outcome
refused_stops d d' tail most u rest bytes x None e body t = absurd (grind (arith, none_fault))
refused_stops d d' tail most u rest bytes x (Some c) e body t =
    let is : x ≡ InvalidBase64 (kind_of u) = grind (arith, fault_some, match_some) in
    let invalid = fault_invalid (u ++ rest) c (fault-append_some u rest false c e) in
    rw is (cc (body, invalid, done_stays u rest c e, kind_stays u rest c e, t.bytes_are))

-- what a whole text gives
ended_stops : {F E : Type 0} (d d' : State F) (tail : List ℕ) (most : ℕ) (u bytes : List ℕ) (place : ℕ)
    (p : Result (Unit {0}) (DecodeError E)) (q : Result Stop (DecodeError E)) (v : Bool) → is_valid u ≡ v
    → outcome true (left_over d ++ plain_body tail) ≡ outcome true u → IsBodyEnd tail place
    → MatchResult p (λ x. q ≡ Ok (Ended place)) (λ e. q ≡ Err e)
    → MatchBool v ((bytes ≡ decoded u) × (p ≡ Ok tt)) ((bytes ≡ complete_bytes u)
    × (p ≡ Err (InvalidBase64 (kind_of u)))) → (bytes ≡ whole_bytes u) × StopsAt d tail most bytes q d'
unfolding outcome
ended_stops d d' tail most u bytes place p q true e body end m h =
    let is : q ≡ Ok (Ended place) = rw h.1 at m in
    (cc (e, h.0), rw is (cc (body, e, h.0), end))
ended_stops d d' tail most u bytes place p q false e body end m h =
    let is : q ≡ Err (InvalidBase64 (kind_of u)) = rw h.1 at m in
    (cc (e, h.0), rw is (cc (body, e, h.0)))

module _ {F E : Type 0} (step : F → List ℕ → Result (Unit {0}) E → F → Type 0) {d d' : State F} {tail : List ℕ}
    {most : ℕ} where
  -- the body after what is left over is that of the text that was fed and the rest
  body_fed : {rest : List ℕ} {r : Result (Unit {0}) (DecodeError E)} → (b : FedBody step d tail most rest r d')
      → outcome true (left_over d ++ plain_body tail) ≡ outcome true ((left_over d ++ b.fed) ++ rest)
  body_fed {rest} b =
      outcome_alike _ _ (alike_after (left_over d) (plain_body tail) (b.fed ++ rest) b.alike)
      ∙ ap (outcome true) (sym (append_assoc (left_over d) b.fed rest))

  -- the body goes on at a place
  pub within_paused : {rest : List ℕ} {place : ℕ} → IsSound d.symbols d.padding
      → FedBody step d tail most rest (Ok tt) d' → rest ≡ plain_body (drop place tail) → place ≤ length tail
      → (1 ≤ most → 0 < place) → most < length tail → after number_sign tail ≡ after number_sign (drop place tail)
      → DecodesWithin step d tail most (Ok (Paused place)) d'
  within_paused {rest} {place} h b is within goes some after =
      let took = feeds_took step b.feeds in
      let bytes = took.1.bytes_are in
      let body = body_fed b ∙ outcome_on _ _ _ (feeds_goes_on step rest b.feeds) in
      record {
        run = b.feeds.run;
        ran = b.feeds.ran;
        calls = omega (arith, b.feeds.calls, b.short);
        gave = match_none _ _ _ took.0 (
          omega (arith, ap length bytes, complete_few (left_over d ++ b.fed), symbols_few d h b.fed, b.few),
          record {
            within = within;
            goes = goes;
            some_left = some;
            after_is = after;
            rest_is = cc (body, bytes, is);
          },
        );
      }

  -- the text has a fault, or the closure returned an error
  pub within_refused : {rest : List ℕ} {x : DecodeError E} → IsSound d.symbols d.padding
      → FedBody step d tail most rest (Err x) d' → DecodesWithin step d tail most (Err x) d'
  within_refused {rest} {x} h b =
      let body = body_fed b in
      let u : List ℕ = left_over d ++ b.fed in
      let bytes = joined_pieces b.feeds.run in
      record {
        run = b.feeds.run;
        ran = b.feeds.ran;
        calls = omega (arith, b.feeds.calls, b.short);
        gave = match_map (refusal b.feeds.run) _ _ _ _
            (λ t. (
              omega (arith, ap length t.bytes_are, complete_few u, symbols_few d h b.fed, b.few),
              refused_stops d d' tail most u rest bytes x (fault_byte false u) refl body t,
            ))
            (λ e k. record {
              bytes_begin = prefix_trans bytes (complete_bytes u) _ k.bytes_begin (begins_outcome u rest body);
              answer = let is : x ≡ WriteError e = (let same_error = k.answer in cc) in ap Err is;
            })
            b.feeds.gave;
      }
    where
      begins_outcome : (u rest : List ℕ) → outcome true (left_over d ++ plain_body tail) ≡ outcome true (u ++ rest)
          → IsPrefix (complete_bytes u) (outcome_bytes (outcome true (left_over d ++ plain_body tail)))
      begins_outcome u rest body =
          let whole = prefix_trans (complete_bytes u) (complete_bytes (u ++ rest)) (whole_bytes (u ++ rest))
          (done_begins u rest) (done_whole (u ++ rest)) in
          (whole.0, ap outcome_bytes body ∙ outcome_whole (u ++ rest) ∙ whole.1)

  -- the body ends, and the text is finished
  pub within_ended : {place : ℕ} {p : Result (Unit {0}) (DecodeError E)} {q : Result Stop (DecodeError E)}
      {e : State F} → IsSound d.symbols d.padding → FedBody step d tail most [] (Ok tt) d'
      → Finishes step d' p e.closure
      → IsBodyEnd tail place → MatchResult p (λ x. q ≡ Ok (Ended place)) (λ e. q ≡ Err e)
      → DecodesWithin step d tail most q e
  within_ended {place} {p} {q} {e} h b fin end m =
      let u : List ℕ = left_over d ++ b.fed in
      let whole = finished_after step b.feeds fin in
      let body : outcome true (left_over d ++ plain_body tail) ≡ outcome true u =
      body_fed b ∙ ap (outcome true) (append-nil u) in
      let bytes = joined_pieces whole.run in
      record {
        run = whole.run;
        ran = whole.ran;
        calls = omega (arith, whole.calls, length-append (left_over d) b.fed, b.short);
        gave = match_map (refusal whole.run) _ _ _ _
            (λ k.
            let w = ended_stops d e tail most u bytes place p q (is_valid u) refl body end m k in (
              omega (arith, ap length w.0, whole_few u, symbols_few d h b.fed, b.few),
              w.1,
            ))
            (λ x k. record {
              bytes_begin = subst (IsPrefix bytes) (sym (ap outcome_bytes body ∙ outcome_whole u)) k.bytes_begin;
              answer = rw k.answer at m;
            })
            whole.gave;
      }

-- a decoder that was not fed all of a tail, as far as it may, was fed some of it
pub paused_goes : {place most to : ℕ} → (1 ≤ most - place → place < to) → place ≤ to → 1 ≤ most → 0 < to
paused_goes {place} {most} {to} goes l some = elim (cases_lt 0 place) [
  | inl h ↦ omega arith
  | inr h ↦ omega (arith, goes (omega arith))
]

-- then the tail has more bytes than may be fed
pub paused_some : (place : ℕ) {most total : ℕ} {ended : Bool} → (total ≤ place + (most - place) → ended ≡ true)
    → ended ≡ false → most < total
paused_some place {most} {total} {ended} all no_end = elim (cases_lt most total) [
  | inl h ↦ h
  | inr h ↦ absurd (let e = all (omega arith) in cc)
]
