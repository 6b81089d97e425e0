-- Rows that are turned, and the row that a text begins with.
use Rattle.std.proofs.Common.{append-nil, ⊎_elim}
use Rattle.std.proofs.Common.{Bool, List, ap, append_assoc, arith, drop, drop-drop, get_or, length, map}
use Rattle.std.proofs.Common.{length-drop, length-take-le, replicate, sym, take, take-append-drop}
use Rattle.std.proofs.Common.{refl, take_all, take_at, true, ◌&&◌, w8, ℕ, ◌++◌, ◌+◌, ◌-◌, ◌*◌, ◌∙◌, ◌≡◌, ◌≤◌, ◌<◌}
use Rattle.std.proofs.Math.Seq.{drop-append-add, take-append-add}
use Rattle.std.proofs.lemmas.Bool.{agree_below_at, and_parts, cases_lt}
use Rattle.std.proofs.lemmas.List.{drop-append-le, drop-replicate, length-replicate, map-append}
use Rattle.std.proofs.lemmas.List.{take-append-le, take-replicate}
use Rattle.std.proofs.lemmas.Simd.{SwzOk, SwzOk-from_below, pick_l-range_with_len, swz_l}
use Rattle.std.specs.List.{range_with_len}
use Rattle.data_url.proofs.forgiving_base64.Spaces.{alike, alike_same}
use Rattle.data_url.proofs.packing.Places.{are_small, looked_at, small_each}
use Rattle.data_url.specs.declared.classes.lanes.TheConstants.{PLACES}
use lib.Lanes.{Each1}

-- the first n bytes of a text with zeros after it
pub padded_front : (text : List ℕ) (n : ℕ) → n ≤ 16
    → take n (text ++ replicate 16 0) ≡ take n text ++ replicate (n - length text) 0
padded_front text n h = ⊎_elim
    (λ l. let none : n - length text ≡ 0 = omega arith in
    take-append-le n text (replicate 16 0) (omega arith)
    ∙ sym (ap (λ k. take n text ++ replicate {A = ℕ} k 0) none ∙ append-nil (take n text)))
    (λ m. let size : n ≡ length text + (n - length text) = omega arith in
    ap (λ k. take k (text ++ replicate 16 0)) size ∙ take-append-add text (replicate 16 0) (n - length text)
    ∙ ap (λ t. text ++ t) (take-replicate (n - length text) 16 0 (omega arith))
    ∙ ap (λ t. t ++ replicate {A = ℕ} (n - length text) 0) (sym (take_all n text m)))
    (cases_lt n (length text))

-- the row that a short text begins with: the text, and then zeros
pub first_of_short : (text : List ℕ) → length text ≤ 16
    → text ++ replicate (16 - length text) 0 ≡ take 16 (text ++ replicate 16 0)
first_of_short text h = cc (padded_front text 16 (omega arith), take_all 16 text h)

-- a text of n to 2 * n bytes, from its first n bytes and its last n bytes, which are turned to their place
pub overlapped : (text first last turned row : List ℕ) (n at : ℕ) → n ≤ length text → length text ≤ 2 * n → n ≤ 8
    → first ≡ take n (drop 0 text) ++ replicate (16 - n) 0
    → last ≡ take n (drop (length text - n) text) ++ replicate (16 - n) 0 → at + length text ≡ 16 + n
    → turned ≡ drop at last ++ take at last → row ≡ take n first ++ drop n turned
    → row ≡ take 16 (text ++ replicate 16 0)
overlapped text first last turned row n at some few half first_is last_is place turned_is is =
    let k = length text - n in
    let end = drop k text in
    let zeros : List ℕ = replicate (16 - n) 0 in
    let long : length end ≡ n = omega (arith, length-drop k text) in
    let whole : take n end ≡ end = take_all n end (omega (arith, long)) in
    let split : at ≡ length end + (at - n) = omega (arith, long, place) in
    let back : drop at (end ++ zeros) ≡ replicate k 0 =
    ap (λ m. drop m (end ++ zeros)) split ∙ drop-append-add end zeros (at - n) ∙ drop-replicate (at - n) (16 - n) 0
    ∙ ap (λ m. replicate m 0) (omega (arith, place)) in
    let front : take at (end ++ zeros) ≡ end ++ replicate (16 - length text) 0 =
    ap (λ m. take m (end ++ zeros)) split ∙ take-append-add end zeros (at - n)
    ∙ ap (λ t. end ++ t) (take-replicate (at - n) (16 - n) 0 (omega (arith, place))
    ∙ ap (λ m. replicate m 0) (omega (arith, place))) in
    let size : n ≡ length (replicate {A = ℕ} k 0) + (n - k) = omega (arith, length-replicate {A = ℕ} k 0) in
    let rest : drop n (replicate k 0 ++ (end ++ replicate (16 - length text) 0))
    ≡ drop n text ++ replicate (16 - length text) 0 =
    ap (λ m. drop m (replicate k 0 ++ (end ++ replicate (16 - length text) 0))) size
    ∙ drop-append-add (replicate k 0) (end ++ replicate (16 - length text) 0) (n - k)
    ∙ drop-append-le (n - k) end (replicate (16 - length text) 0) (omega (arith, long))
    ∙ ap (λ t. t ++ replicate (16 - length text) 0) (drop-drop (n - k) k text ∙ ap (λ m. drop m text) (omega arith)) in
    let start : take n (take n text ++ zeros) ≡ take n text =
    take_at (take n text) zeros n (length-take-le n text some) in
    cc (
      first_is,
      last_is,
      whole,
      back,
      front,
      turned_is,
      is,
      rest,
      start,
      append_assoc (take n text) (drop n text) (replicate (16 - length text) 0),
      take-append-drop n text,
      first_of_short text (omega arith),
    )

-- whether the places of a turned row are read from the table
abbrev is_turned : ℕ → Bool
is_turned at = alike (take 16 (drop at PLACES)) (range_with_len at (16 - at) ++ range_with_len 0 at)
    && are_small 16 (take 16 (drop at PLACES))

-- they are
all_turned : (at : ℕ) → at ≤ 16 → is_turned at ≡ true
all_turned at h = agree_below_at is_turned (λ b. true) 17 at refl (omega arith)

-- the places of a turned row are those of its bytes
pub turned_small : (at : ℕ) → at ≤ 16 → Each1 (λ p. p < 16) (take 16 (drop at PLACES))
turned_small at h = small_each 16 _ (and_parts _ _ (all_turned at h)).1

-- they are sixteen
turned_long : (at : ℕ) → at ≤ 16 → length (take 16 (drop at PLACES)) ≡ 16
turned_long at h = length-take-le 16 (drop at PLACES) (omega (arith, length-drop at PLACES))

-- so a row may be turned
pub turned_ok : (at : ℕ) {ps : List ℕ} → at ≤ 16 → ps ≡ take 16 (drop at PLACES) → SwzOk w8 16 16 0 ps
turned_ok at h is = rw is (SwzOk-from_below w8 16 1 16 0 _ refl (omega (arith, turned_long at h)) (turned_small at h))

-- a turned row has the bytes from a place on, and then those before it
pub turned_is : (row : List ℕ) (at : ℕ) {ps : List ℕ} → length row ≡ 16 → at ≤ 16 → ps ≡ take 16 (drop at PLACES)
    → swz_l w8 16 row 0 ps ≡ drop at row ++ take at row
turned_is row at {ps} long h is =
    let look : ℕ → ℕ = λ p. get_or row p 0 in
    let back = range_with_len at (16 - at) in
    let front = range_with_len 0 at in
    let places : take 16 (drop at PLACES) ≡ back ++ front = alike_same _ _ (and_parts _ _ (all_turned at h)).0 in
    let first : map look back ≡ take (16 - at) (drop at row) =
    pick_l-range_with_len 0 row at (16 - at) (omega (arith, long)) in
    let second : map look front ≡ take at row = pick_l-range_with_len 0 row 0 at (omega (arith, long)) in
    let whole = take_all (16 - at) (drop at row) (omega (arith, long, length-drop at row)) in
    let looked = looked_at row (take 16 (drop at PLACES)) 0 (omega (arith, turned_long at h)) (turned_small at h) in
    cc (
      is,
      looked,
      places,
      map-append look back front,
      first,
      second,
      whole,
    )
