-- What a walk gathers from a block whose bytes before the first stop are packed. For `pack_whole` and `pack_end`.
use Rattle.std.proofs.Common.{Bool, List, ap, arith, drop, false, inl, inr, length, length-append, length-take-le, min}
use Rattle.std.proofs.Common.{not, refl, replicate, suc, take, take-append-drop, true, zero, [], ℕ, ◌&&◌, ◌++◌, ◌+◌}
use Rattle.std.proofs.{Common.{◌-◌, ◌<◌, ◌==◌, ◌||◌, ◌∷◌, ◌≡◌, ◌≤◌}, lemmas.Bool.{cases_Bool}, lemmas.List.{drop-drop}}
use Rattle.std.{proofs.lemmas.List.{length-drop, take-append-le}, specs.Char.{is_ascii_hexdigit}}
use Rattle.std.specs.List.{prefix_len}
use Rattle.data_url.proofs.escapes.{EscapeDigits.{begins_with_digit, cleaned_nil, other_first}, Fronts.{decodes}}
use Rattle.data_url.{proofs.escapes.Reading.{paid_on}, specs.Pieces.{text_of}, specs.Steps.Digits.{cleaned}}
use Rattle.data_url.specs.Steps.{Escapes.{IsPacked, is_unsure, packed_values, stops}, Walk.{Looking, LooksOn, Packs}}
use Rattle.data_url.specs.{Url.{is_tab_or_newline}, declared.escapes.cursor.Cursor.{Cursor}}
use Rattle.data_url.specs.declared.escapes.{marks.Block.{Block}, source.Source.{Source}}

-- a byte at which a stop is, is no tab or newline and no digit
stop_byte : (b : ℕ) (u : Bool) → ((b == 35) || ((b == 37) && u)) ≡ true
    → (is_tab_or_newline b ≡ false) × (is_ascii_hexdigit b ≡ false)
stop_byte b u h = grind (arith, cases_Bool (b == 35), cases_Bool (b == 37))

-- what is left of a block at its first stop, or after the end of the text, and what is left of the text
record IsRest (y t : List ℕ) : Type 0 where
  pub closed : begins_with_digit y ≡ false
  pub apart : 0 < length y → begins_with_digit (cleaned t) ≡ false

-- z is what a block has of a text, r the text after it, and n the number of bytes before the first stop
rest_is : (z r : List ℕ) (k n : ℕ) → (0 < k → r ≡ []) → n ≡ min (length z) (prefix_len not (stops (z ++ replicate k 0)))
    → IsRest (drop n (z ++ replicate k 0)) (drop n (z ++ r))
rest_is [] r zero n over is = grind arith
rest_is [] r (suc k) n over is = grind (arith, cleaned_nil)
rest_is (b ∷ z) r k n over is =
    let s = z ++ replicate k 0 in
    elim (cases_Bool ((b == 35) || ((b == 37) && is_unsure s))) [
      | inl h ↦
          let first : n ≡ 0 = grind arith in
          let stop = stop_byte b (is_unsure s) h in
          rw first (record { closed = stop.1; apart = λ l. other_first (b ∷ (z ++ r)) (λ some. stop) })
      | inr h ↦
          let m = min (length z) (prefix_len not (stops s)) in
          let on : n ≡ suc m = grind arith in
          rw on (rest_is z r k m over refl)
    ]

-- the walk packs what comes before the first stop
pub packs_front : {c c' : Cursor} {buffer buffer' v : List ℕ} {len used end size : ℕ} (z r : List ℕ) (k : ℕ)
    → v ≡ z ++ replicate k 0 → size ≡ length z → drop c.place (text_of c) ≡ z ++ r → c.place ≤ length (text_of c)
    → (0 < k → r ≡ []) → IsPacked v size buffer buffer' len used end → LooksOn c.source c'.source
    → c'.place ≡ c.place + used → length buffer ≡ 512 → length buffer' ≡ 512 → len ≤ 384
    → Packs c c' buffer buffer' len end
packs_front {c} {c'} {buffer} {buffer'} {v} {len} {used} {end} {size} z r k vs ss cut within over p on q
    long long' few =
    let text = text_of c in
    let x = take used v in
    let y = drop used v in
    let t = drop used (z ++ r) in
    let joined = take-append-drop used v in
    let used_is : used ≡ min (length z) (prefix_len not (stops (z ++ replicate k 0))) = cc p.used_is in
    let size_x : length x ≡ used =
    length-take-le used v (omega (arith, ap length vs, length-append z (replicate k 0))) in
    let rest = rw (← vs) at (rest_is z r k used over used_is) in
    let w = decodes x y t (record {
      free = rw (joined, size_x) (omega (arith, p.used_is));
      closed = rest.closed;
      apart = rest.apart;
    }) in
    let bytes = packed_values v used in
    let same : packed_values (x ++ y) (length x) ≡ bytes = rw (joined, size_x) refl in
    let front = take-append-le used z (replicate k 0) (omega arith) in
    let whole : x ++ t ≡ drop c.place text =
    cc (take-append-le used z r (omega arith), take-append-drop used (z ++ r)) in
    let after_is : t ≡ drop (c.place + used) text = cc (drop-drop used c.place text) in
    let long_text : used ≤ length text - c.place =
    omega (arith, ap length cut, length-append z r, length-drop c.place text) in
    let before = length-take-le len buffer (omega arith) in
    let after = length-take-le end buffer' (omega (arith, p.short)) in
    record {
      gathers = record {
        bytes = bytes;
        on = on;
        reads = record {
          few = omega (arith, ap length same, w.few, size_x);
          within = omega (arith, long_text);
          body = cc (w.body_is, same, whole);
          after_is = cc (w.after_is, whole);
        };
        buffer_is = p.buffer_is;
        len_is = omega (arith, ap length p.buffer_is, length-append (take len buffer) bytes, before, after, p.short);
      };
      few = omega (arith, p.short);
      moves = omega (arith, p.some);
    }

-- after bytes that were packed, the walk can go on in a block without bytes, if what is left of its block is not longer
pub looking_again : {s : Source} {b b' : Block} {place used : ℕ} → Looking s b place 0 → place + used ≤ b.end
    → b.end - (place + used) ≤ used → b' ≡ record { base = place + used; end = place + used; marks = 0 }
    → Looking s b' (place + used) 0
looking_again {s} {b} {b'} {place} {used} k l few is =
    let none : place + used - (place + used) ≡ 0 = omega arith in
    grind (arith, paid_on s.text.now place (place + used) (omega arith))
