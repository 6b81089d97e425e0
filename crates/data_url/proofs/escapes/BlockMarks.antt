-- Blocks and rows of a text and their marks: lanes that are looked up in a table and compared. For `marks_of`,
-- `row_marks`, `last_marks`, `padded` and `next_mark`.
use Rattle.std.proofs.Common.{slice_index, Bool, Fits, List, ap, arith, bit_and, cond, drop, eqb, get_or, inl}
use Rattle.std.proofs.Common.{inr, zero, [], ℕ, ◌%◌, ◌++◌, ◌+◌, ◌-◌, ◌/◌, ◌<◌, ◌*◌}
use Rattle.std.proofs.Common.{leb, length, length-take-le, map, map-id, not, refl, replicate, slice_range, suc}
use Rattle.std.proofs.Common.{sym, take, take-add, take-take, take_all, w8}
use Rattle.std.proofs.{Common.{◌^◌, ◌∙◌, ◌∷◌, ◌≡◌, ◌≢◌, ◌≤◌}, Math.Nat.{div-div-eq-div-mul, pow-suc}}
use Rattle.std.proofs.{Math.Seq.{take-append-add}, lemmas.Bool.{agree_below_at, cases_Bool, cases_lt}}
use Rattle.std.proofs.lemmas.List.{drop-drop, drop-map, drop-replicate, drop-take, drop_all, drop_more, get_or-drop}
use Rattle.std.proofs.lemmas.{List.{length-drop, length-map, length-take, map-append, take-append-le}, Nat.{and_le_r}}
use Rattle.std.proofs.lemmas.List.{take-replicate, take_rest}
use Rattle.std.proofs.lemmas.Simd.{SwzOk, bitmask_splat, mask_l-lt, mask_l-mod}
use Rattle.std.proofs.lemmas.Simd.{none_from_empty_mask, put_chunk_whole, run_in_chunk_fails, run_in_chunk_le}
use Rattle.std.proofs.lemmas.Simd.{run_in_chunk_stops, swz_l, tops_compared, trailing_mask_l, zip2_of_maps, zip2_splat}
use Rattle.std.specs.{Int.Count.{count_trailing_zeros}, List.{prefix_len}, Simd.Lanes.{Each1, chunk, mask_l}}
use Rattle.std.specs.Simd.Lanes.{put_chunk, top, zip2}
use Rattle.data_url.proofs.classes.Lookups.{four_rows, looked_up, places_ok}
use Rattle.data_url.{proofs.escapes.Reading.{escape_ends, paid_on, paid_percent}, specs.Steps.Walk.{IsBlock, IsClear}}
use Rattle.data_url.specs.Steps.{Walk.{IsMarkUpTo, IsNextMark, Looking}, Window.{is_marked}}
use Rattle.data_url.specs.declared.escapes.{lanes.TheConstants.{MARKED}, marks.Block.{Block}, source.Source.{Source}}
use borrow.Rule.Slice.PartMut.{mid_of, post_of, put_mid}

-- a block of 64 bytes of the text, copied into a buffer of 512 bytes, leaves its first `width` bytes there
pub copied_block : (buffer bytes text : List ℕ) (len width start : ℕ) → length buffer ≡ 512 → len + 64 ≤ 512
    → width ≤ 64
    → start + 64 ≤ length text → bytes ≡ text
    → take (len + width) (put_mid len (len + 64 - len) buffer (put_chunk 0 (mid_of len (len + 64 - len) buffer)
    (chunk 0 64 (take (start + 64 - start) (drop start bytes))))) ≡ take len buffer ++ take width (drop start text)
copied_block buffer bytes text len width start long l w h e =
    let n : len + 64 - len ≡ 64 = omega arith in
    let k : start + 64 - start ≡ 64 = omega arith in
    let s = take 64 (drop start text) in
    let post = post_of len (len + 64 - len) buffer in
    let mid = mid_of len (len + 64 - len) buffer in
    let front = length-take-le len buffer (omega arith) in
    let few = length-take-le 64 (drop start text) (omega (arith, length-drop start text)) in
    let size = length-take-le (len + 64 - len) (drop len buffer) (omega (arith, length-drop len buffer)) ∙ n in
    let whole = put_chunk_whole mid s (size ∙ sym few) in
    let joined = take-append-add (take len buffer) (s ++ post) width in
    let part = take-append-le width s post (omega (arith, few)) in
    cc (take-take 64 64 (drop start bytes) (omega arith), take-take width 64 (drop start text) w)

-- zeros after the end of a text have no marks
no_marks : (k : ℕ) → mask_l (map is_marked (replicate k 0)) ≡ 0
no_marks zero = refl
no_marks (suc k) = let e = no_marks k in omega arith

-- zeros that are appended do not change the marks
pub marks_padded : (xs : List ℕ) (k : ℕ) → mask_l (map is_marked (xs ++ replicate k 0)) ≡ mask_l (map is_marked xs)
marks_padded [] k = no_marks k
marks_padded (x ∷ xs) k = grind (arith, marks_padded xs k)

-- fewer than 64 bytes, copied into a block of zeros
pub padded_is : (rest new zeros : List ℕ) (k : ℕ) → new ≡ rest → zeros ≡ replicate 64 0 → k ≡ length rest
    → put_mid 0 k zeros new ≡ rest ++ replicate (64 - length rest) 0
padded_is rest new zeros k e z l = cc (ap (drop k) z, drop-replicate {X = ℕ} k 64 0)

-- a mask that is shifted by k bits is the mask of the list without its first k items
pub mask_later : (bs : List Bool) (k : ℕ) → mask_l bs / 2 ^ k ≡ mask_l (drop k bs)
mask_later bs zero = omega arith
mask_later [] (suc k) = omega arith
mask_later (b ∷ bs) (suc k) =
    grind (arith, pow-suc 2 k, div-div-eq-div-mul (mask_l (b ∷ bs)) 2 (2 ^ k), cases_Bool b, mask_later bs k)

-- the mask of two lists is that of the first, and that of the second shifted
mask_append : (xs ys : List Bool) → mask_l (xs ++ ys) ≡ mask_l xs + mask_l ys * 2 ^ length xs
mask_append [] ys = omega arith
mask_append (b ∷ xs) ys =
    let n = length xs in
    let twice : mask_l ys * 2 ^ suc n ≡ 2 * (mask_l ys * 2 ^ n) =
    omega (arith, ap (λ z. mask_l ys * z) (pow-suc 2 n)) in
    omega (arith, twice, mask_append xs ys)

-- the lowest 16 bits of a mask are the marks of the first row
pub marks_row : (v w : List ℕ) → length v ≡ 16 → mask_l (map is_marked (v ++ w)) % 65536 ≡ mask_l (map is_marked v)
marks_row v w long =
    let bits = map is_marked v in
    let sized : length bits ≡ 16 = length-map v is_marked ∙ long in
    let joined = ap mask_l (map-append is_marked v w) ∙ mask_append bits (map is_marked w) in
    let shifted = ap (λ n. mask_l (map is_marked w) * 2 ^ n) sized in
    omega (arith, joined, shifted, rw sized at (mask_l-lt bits))

-- the marks of the first bytes of a text and, shifted, those of n bytes after them
pub marks_more : (t : List ℕ) (at n : ℕ) {x : ℕ} → at + n ≤ length t → length t < 64
    → x ≡ mask_l (map is_marked (take n (drop at t)))
    → (mask_l (map is_marked (take at t)) + x * 2 ^ at % 2 ^ 64 ≡ mask_l (map is_marked (take (at + n) t)))
    × (mask_l (map is_marked (take (at + n) t)) < 2 ^ 64)
marks_more t at n {x} within short is =
    let bits = map is_marked (take at t) in
    let sized : length bits ≡ at = length-map (take at t) is_marked ∙ length-take-le at t (omega arith) in
    let whole = take (at + n) t in
    let long = length-map whole is_marked ∙ length-take-le (at + n) t within in
    let fits = mask_l-mod (map is_marked whole) 64 (omega (arith, long)) in
    let joined : mask_l (map is_marked whole) ≡ mask_l bits + x * 2 ^ at =
    ap (λ s. mask_l (map is_marked s)) (take-add at n t)
    ∙ ap mask_l (map-append is_marked (take at t) (take n (drop at t)))
    ∙ mask_append bits _ ∙ cc (is, sized) in
    (omega (arith, joined, fits), omega (arith, fits))

-- the marks of a text that is shorter than a row
pub marks_short : (t : List ℕ) → length t < 16
    → mask_l (map is_marked (take 16 (t ++ replicate 16 0))) ≡ mask_l (map is_marked t)
marks_short t short =
    let e : length t + (16 - length t) ≡ 16 = omega arith in
    let row : take 16 (t ++ replicate 16 0) ≡ t ++ replicate (16 - length t) 0 =
    ap (λ n. take n (t ++ replicate 16 0)) (sym e) ∙ take-append-add t (replicate 16 0) (16 - length t)
    ∙ ap (λ z. t ++ z) (take-replicate (16 - length t) 16 0 (omega arith)) in
    ap (λ s. mask_l (map is_marked s)) row ∙ marks_padded t (16 - length t)

-- the first n items without the first k are n - k items after the first k
pub drop_taken : (k n : ℕ) (xs : List ℕ) → drop k (take n xs) ≡ take (n - k) (drop k xs)
drop_taken k n xs = grind (arith, cases_lt n k, drop-take k (n - k) xs, drop_all k (take n xs), length-take)

-- the marks of the bytes before an index and, shifted, those of the last row without the bytes before the index
pub marks_end : (t : List ℕ) (at : ℕ) {x : ℕ} → 16 ≤ length t → length t < 64 → length t - 16 ≤ at → at ≤ length t
    → x ≡ mask_l (map is_marked (take 16 (drop (length t - 16) t)))
    → (mask_l (map is_marked (take at t)) + x / 2 ^ (at - (length t - 16)) * 2 ^ at % 2 ^ 64 ≡ mask_l (map is_marked t))
    × (mask_l (map is_marked t) < 2 ^ 64)
marks_end t at {x} long short after within is =
    let last = length t - 16 in
    let k = at - last in
    let row = take 16 (drop last t) in
    let rest : 16 - k ≡ length t - at = omega arith in
    let there : last + k ≡ at = omega arith in
    let enough : at + (length t - at) ≤ length t = omega arith in
    let whole : take (at + (length t - at)) t ≡ t = take_all (at + (length t - at)) t (omega arith) in
    let marks = ap (λ m. m / 2 ^ k) is ∙ mask_later (map is_marked row) k ∙ ap mask_l (drop-map is_marked k row)
    ∙ ap (λ s. mask_l (map is_marked s)) (drop_taken k 16 (drop last t) ∙ cc (drop-drop k last t, rest, there)) in
    rw whole at (marks_more t at (length t - at) enough short marks)

-- The marks of a block: lanes that are looked up in a table and compared.

-- the low half of a byte
abbrev pub low_half : ℕ → ℕ
low_half b = bit_and b 15

-- the low halves of 64 bytes, as lanes compute them
abbrev pub lows : List ℕ → List ℕ
lows v = zip2 bit_and v (replicate 64 15)

-- what lanes compute is the low half of each byte
pub lows_are : (v : List ℕ) → length v ≡ 64 → lows v ≡ map low_half v
lows_are v long = zip2_splat bit_and v 64 15 long

-- a low half is below 16
low_small : (b : ℕ) → b < 256 → low_half b < 16
low_small b l = omega (arith, and_le_r b 15)

-- the low halves satisfy the swizzle's precondition
pub lows_ok : (v : List ℕ) → length v ≡ 64 → Each1 (Fits w8) v → SwzOk w8 16 64 0 (lows v)
lows_ok v long fits = places_ok low_half v (lows v) long (lows_are v long) low_small fits

-- the entry of a byte
abbrev pub entry : ℕ → ℕ
entry b = get_or MARKED (low_half b) 0

-- the entries of a list of bytes, as lanes look them up
abbrev pub entries : List ℕ → List ℕ
entries v = swz_l w8 16 (four_rows (take 16 MARKED)) 0 (lows v)

-- the bytes of a list that are equal to their entries are the marked ones
marked_each : (v : List ℕ) → Each1 (Fits w8) v → map (λ b. eqb (entry b) b) v ≡ map is_marked v
marked_each [] h = refl
marked_each (b ∷ v) h = grind (arith, agree_below_at (λ b. eqb (entry b) b) is_marked 256 b refl, marked_each v h.1)

-- the mask that lanes compute is that of the marked bytes
pub marks_are : (v : List ℕ) → length v ≡ 64 → Each1 (Fits w8) v
    → mask_l (map (top 7) (zip2 (λ a b. cond (eqb a b) 255 0) (entries v) v)) % 2 ^ 64 ≡ mask_l (map is_marked v)
marks_are v long fits =
    let l = length-map v is_marked in
    let found = looked_up MARKED low_half v (lows v) long (omega arith) fits (lows_are v long) low_small in
    let e = zip2_of_maps eqb entry (λ b. b) v found (sym (map-id v)) in
    let t = tops_compared w8 eqb (entries v) v in
    cc (marked_each v fits, mask_l-mod (map is_marked v) 64 (omega arith))

-- if no byte is at most '%', none is marked
none_low : (v : List ℕ) → mask_l (map (λ b. leb b 37) v) ≡ 0 → 0 ≡ mask_l (map is_marked v)
none_low [] e = refl
none_low (b ∷ v) e = grind (arith, none_low v)

-- if a comparison of lanes finds no byte that is at most '%', none is marked
pub none_marked : (v : List ℕ) → length v ≡ 64
    → mask_l (map (top 7) (zip2 (λ a b. cond (leb a b) 255 0) v (replicate 64 37))) % 2 ^ 64 ≡ 0
    → 0 ≡ mask_l (map is_marked v)
none_marked v long e = none_low v (sym (bitmask_splat w8 leb v 64 37 long (omega arith)) ∙ e)

-- if no item of a list passes a test, the mask of the items that pass is 0
mask_none : (p : ℕ → Bool) (xs : List ℕ) → prefix_len (λ y. not (p y)) xs ≡ length xs → mask_l (map p xs) ≡ 0
mask_none p [] h = refl
mask_none p (x ∷ xs) h = grind (arith, mask_none p xs)

-- the marks of a block, shifted by the distance from its start to an index, are those of the block from the index on
pub block_from : {s : Source} {b : Block} {place marks : ℕ} → Looking s b place 0 → place ≤ b.end
    → marks ≡ b.marks / 2 ^ (place - b.base) → IsBlock s.text.now place b.end marks
block_from {s} {b} {place} {marks} k l e = grind (arith, mask_later, drop-map, drop_taken, drop-drop)

-- when the block between two indices is read, the walk can go on at the first of them
looking_read : {s s' : Source} {b : Block} {place end marks : ℕ} (bytes : List ℕ) → Looking s b place 0
    → b.end ≤ place → s'.text.now ≡ s.text.now → end ≡ place + length bytes → end ≤ length s.text.now
    → end ≤ place + 64 → s'.looks + place ≡ s.looks + end → bytes ≡ take (length bytes) (drop place s.text.now)
    → marks ≡ mask_l (map is_marked bytes)
    → Looking s' (record { base = place; end = end; marks = marks }) place 0
looking_read {s} {s'} {b} {place} {end} {marks} bytes k unseen t sized within short n e m =
    let width : length bytes ≡ end - place = omega (arith, sized) in
    let all : bytes ≡ slice_range s'.text.now place end =
    e ∙ ap (λ j. take j (drop place s.text.now)) width
    ∙ ap (λ (x : List ℕ). take (end - place) (drop place x)) (sym t) in
    record {
      block = record {
        base_le = omega (arith, sized);
        end_le = rw t within;
        short = short;
        marks_are = m ∙ ap (λ x. mask_l (map is_marked x)) all;
      };
      base_le = omega arith;
      within = rw t k.within;
      looks_are_paid = rw t (omega (arith, k.looks_are_paid, unseen, n));
    }

-- when the whole block at an index is read, the walk can go on there
pub looking_whole : {s s' : Source} {b b' : Block} {place marks : ℕ} (bytes : List ℕ) → Looking s b place 0
    → b.end ≤ place → place + 64 ≤ length s.text.now → s'.text.now ≡ s.text.now → s'.looks ≡ s.looks + 64
    → bytes ≡ take 64 (drop place s.text.now) → marks ≡ mask_l (map is_marked bytes)
    → b' ≡ record { base = place; end = place + 64; marks = marks } → Looking s' b' place 0
looking_whole {s} {place = place} bytes k unseen within t l e m is =
    let rest = drop place s.text.now in
    let long : length bytes ≡ 64 =
    ap length e ∙ length-take-le 64 rest (omega (arith, within, length-drop place s.text.now)) in
    rw is (looking_read bytes k unseen t (omega (arith, long)) within (omega arith) (omega (arith, l))
    (e ∙ ap (λ n. take n rest) (sym long)) m)

-- when the rest of the text from an index on is read, which is short, the walk can go on there
pub looking_rest : {s s' : Source} {b b' : Block} {place marks : ℕ} (rest : List ℕ) → Looking s b place 0
    → b.end ≤ place
    → s'.text.now ≡ s.text.now → length s.text.now < place + 64 → rest ≡ drop place s.text.now
    → marks ≡ mask_l (map is_marked rest) → s'.looks + place ≡ s.looks + length s.text.now
    → b' ≡ record { base = place; end = place + length rest; marks = marks } → Looking s' b' place 0
looking_rest {s} {place = place} rest k unseen t few e m n is =
    let long : length rest ≡ length s.text.now - place = ap length e ∙ length-drop place s.text.now in
    rw is (looking_read rest k unseen t refl (omega (arith, long, k.within)) (omega (arith, long, few))
    (omega (arith, n, long, k.within))
    (e ∙ sym (take_all (length rest) (drop place s.text.now) (omega (arith, ap length e)))) m)

-- if the marks of a block are not 0, their number of trailing zeros is that of the bytes before the next mark
pub found : {text : List ℕ} {place end marks : ℕ} (width : ℕ) → IsBlock text place end marks → marks ≢ 0
    → width ≡ count_trailing_zeros 64 marks → (place + width < end) × IsNextMark text place (place + width)
found {text} {place} {end} {marks} width h n e =
    let long = length-take-le (end - place) (drop place text) (omega (arith, length-drop {A = ℕ})) in
    grind (arith, trailing_mask_l, mask_none, run_in_chunk_le, run_in_chunk_fails, run_in_chunk_stops)

-- if the marks of a block are 0, none of its bytes is marked
pub found_none : {text : List ℕ} {place end marks : ℕ} → IsBlock text place end marks → marks ≡ 0
    → IsClear text place end
found_none {text} {place} {end} {marks} h e = grind (arith, none_from_empty_mask)

-- the walk can go on from a later place
pub looking_on : {s : Source} {b : Block} {place more : ℕ} (to : ℕ) → Looking s b place more → place ≤ to
    → to ≤ length s.text.now → Looking s b to more
looking_on {s} {b} {place} {more} to k l w = let p = paid_on s.text.now place to l in grind arith

-- the walk can go on from the next mark
pub looking_mark : {s : Source} {b : Block} {place to : ℕ} → Looking s b place 0 → IsNextMark s.text.now place to
    → Looking s b to 0
looking_mark {s} {b} {place} {to} k m = looking_on to k m.forward m.within

-- the walk can go on at the end of its block
pub looking_end : {s : Source} {b : Block} {place : ℕ} → Looking s b place 0 → place ≤ b.end → Looking s b b.end 0
looking_end {s} {b} {place} k l = looking_on b.end k l k.block.end_le

-- two stretches without marks, one after the other, are one
pub clear_then : {text text' : List ℕ} {from place to : ℕ} → text' ≡ text → IsClear text from place
    → IsClear text' place to → IsClear text from to
clear_then {place = place} e a b = λ k l m. elim (cases_lt k place) [
  | inl h ↦ a k l h
  | inr h ↦ ap (λ (t : List ℕ). is_marked (slice_index t k)) (sym e) ∙ b k h m
]

-- the next mark after a stretch without marks is the next one from its start on
pub mark_then : {text text' : List ℕ} {from place end mark : ℕ} → text' ≡ text → from ≤ place → IsClear text from place
    → IsNextMark text' place mark → IsMarkUpTo text from end mark
mark_then e l a m = record {
  forward = omega (arith, m.forward);
  within = rw e at m.within;
  clear = clear_then e a m.clear;
  marked = λ _. rw e at m.marked;
}

-- the lemmas for `padded` and `last_marks`
pub ruleset padding = (marks_padded, padded_is)

-- the lemmas for `next_mark` and `at_mark`
pub ruleset mark_places = (
  paid_percent,
  escape_ends,
  drop_more,
  looking_mark,
  looking_on,
  looking_end,
  clear_then,
  mark_then,
)
