-- The bytes of a row that are kept. For `packing.rt`.
use Rattle.std.proofs.Common.{Bool, List, ap, append_assoc, arith, drop, drop-drop, get_or, length, length-drop}
use Rattle.std.proofs.Common.{length-take-le, lit<, ltb, map, refl, replicate, suc, sym, take, take-append-drop}
use Rattle.std.proofs.Common.{take-take, take_all, true, w8, zero, [], ℕ, ◌%◌, ◌&&◌, ◌*◌, ◌++◌, ◌+◌, ◌-◌, ◌/◌, ◌<◌, ◌^◌}
use Rattle.std.proofs.{Common.{◌∙◌, ◌∷◌, ◌≡◌, ◌≤◌}, Math.Arith.{mod-mul}, Math.Nat.{pow-suc}}
use Rattle.std.proofs.{Math.Seq.{take-append-add}, lemmas.Bool.{agree_below_at, and_parts, ltb-true}}
use Rattle.std.proofs.lemmas.{List.{length-map, take-map}, Nat.{pow_pos}, Simd.{Each1-get_or, Each1-weaker, SwzOk}}
use Rattle.std.proofs.lemmas.Simd.{SwzOk-from_below, get_or-swz_l_below, length-swz_l, pick_l-range_with_len}
use Rattle.std.proofs.lemmas.Simd.{pick_l_left, swz_l, take_more_put_chunk, zip2_splat}
use Rattle.std.specs.{Int.RustNames.{count_ones}, List.{range_with_len}}
use Rattle.data_url.proofs.forgiving_base64.Spaces.{alike, alike_same, clear_append, clear_map}
use Rattle.data_url.specs.{Steps.Groups.{clear}, declared.packing.TheConstants.{PLACES}}
use lib.{Dec.{T}, Lanes.{Each1, all_below, pick_l, zip2}}

-- for at most 16 indices below 16, a swizzle looks up the item at each index
pub looked_at : (t js : List ℕ) (i : ℕ) → i + length js ≤ 16 → Each1 (λ j. j < 16) js
    → swz_l w8 16 t i js ≡ map (λ j. get_or t j 0) js
looked_at t [] i long small = refl
looked_at t (j ∷ js) i long small = grind (arith, looked_at t js (suc i) (omega arith) small.1)

-- whether all items are below n
abbrev pub are_small : ℕ → List ℕ → Bool
are_small n [] = true
are_small n (x ∷ xs) = ltb x n && are_small n xs

-- items that are small are below n
pub small_each : (n : ℕ) (xs : List ℕ) → are_small n xs ≡ true → Each1 (λ p. p < n) xs
small_each n [] h = tt
small_each n (x ∷ xs) h =
    let p = and_parts (ltb x n) (are_small n xs) h in (ltb-true x n p.0, small_each n xs p.1)

-- the entry of eight bits begins with the places of the bits that are 0
abbrev is_right : ℕ → Bool
is_right eight = alike (take (8 - count_ones eight) (take 16 (drop (8 * eight) PLACES))) (clear (range_with_len 0
    8) eight)
    && (ltb (count_ones eight) 9 && are_small 8 (take 16 (drop (8 * eight) PLACES)))

-- all entries do
right : (eight : ℕ) → eight < 256 → is_right eight ≡ true
unfolding count_ones
right eight l = agree_below_at is_right (λ b. true) 256 eight refl l

-- the places of the bits that are 0
pub places_are : (eight : ℕ) → eight < 256
    → take (8 - count_ones eight) (take 16 (drop (8 * eight) PLACES)) ≡ clear (range_with_len 0 8) eight
places_are eight l = alike_same _ _ (and_parts _ _ (right eight l)).0

-- all places of an entry, and of what is read after it, are below 8
pub places_small : (eight : ℕ) → eight < 256 → Each1 (λ p. p < 8) (take 16 (drop (8 * eight) PLACES))
places_small eight l = small_each 8 _ (and_parts _ _ (and_parts _ _ (right eight l)).1).1

-- an entry and what is read after it are sixteen bytes
pub places_long : (eight : ℕ) → eight < 256 → length (take 16 (drop (8 * eight) PLACES)) ≡ 16
places_long eight l = length-take-le 16 (drop (8 * eight) PLACES) (omega (arith, length-drop (8 * eight) PLACES))

-- places in a half of a row that are looked up in the row: the first ones are those of the bits that are 0
pub record ArePlaces (ps : List ℕ) (from few bits : ℕ) : Type 0 where
  pub long : length ps ≡ 16
  pub small : Each1 (λ p. p < 16) ps
  pub are : take few ps ≡ clear (range_with_len from 8) bits

-- of the first half
pub low_places : (ps : List ℕ) (few bits : ℕ) → length ps ≡ 16 → Each1 (λ p. p < 8) ps
    → take few ps ≡ clear (range_with_len 0 8) bits → ArePlaces ps 0 few bits
low_places ps few bits long small are =
    record { long = long; small = Each1-weaker (λ p. p < 8) (λ p. p < 16) (λ p l. omega arith) ps small; are = are }

-- of the second half: 8 is added to the places of the first
raised_below : (ps : List ℕ) → Each1 (λ p. p < 8) ps → Each1 (λ p. p < 16) (map (λ p. (p + 8) % 256) ps)
raised_below [] h = tt
raised_below (x ∷ ps) h = (omega (arith, h.0), raised_below ps h.1)

pub high_places : (ps : List ℕ) (few bits : ℕ) → length ps ≡ 16 → Each1 (λ p. p < 8) ps
    → take few ps ≡ clear (range_with_len 0 8) bits
    → ArePlaces (zip2 (λ a b. (a + b) % 256) ps (replicate 16 8)) 8 few bits
high_places ps few bits long small are =
    let raise : ℕ → ℕ = λ p. (p + 8) % 256 in
    rw (zip2_splat (λ a b. (a + b) % 256) ps 16 8 long) (record {
      long = length-map ps raise ∙ long;
      small = raised_below ps small;
      are = take-map raise few ps ∙ ap (map raise) are ∙ sym (clear_map raise (range_with_len 0 8) bits);
    })

-- they are looked up in a row of sixteen bytes
pub places_ok : {ps : List ℕ} {from few bits : ℕ} → ArePlaces ps from few bits → SwzOk w8 16 16 0 ps
places_ok {ps} a = SwzOk-from_below w8 16 1 16 0 ps refl (omega (arith, a.long)) a.small

-- the bits after the first k do not matter to k items or fewer
pub clear_low : (xs : List ℕ) (k m : ℕ) → length xs ≤ k → clear xs (m % 2 ^ k) ≡ clear xs m
clear_low [] k m l = refl
clear_low (x ∷ xs) zero m l = absurd (omega (arith, l))
clear_low (x ∷ xs) (suc k) m l =
    let e : m % 2 ^ suc k ≡ m / 2 % 2 ^ k * 2 + m % 2 =
    ap (λ n. m % n) (pow-suc 2 k) ∙ mod-mul m {m = 2 ^ k} {c = 2} (pow_pos k) (lit< tt) in
    grind (arith, e, clear_low xs k (m / 2) (omega (arith, l)))

-- the items whose bits are 0 are those of the first k and of the others
clear_parts : (k : ℕ) (v : List ℕ) (m : ℕ) → k ≤ length v
    → clear v m ≡ clear (take k v) (m % 2 ^ k) ++ clear (drop k v) (m / 2 ^ k)
clear_parts k v m l =
    let size = length-take-le k v l in
    cc (take-append-drop k v, clear_append (take k v) (drop k v) m, clear_low (take k v) k m (omega (arith, size)))

-- half of a row is packed
pub half_packed : (v old new : List ℕ) {ps : List ℕ} {from few bits : ℕ} (at : ℕ) → length v ≡ 16 → from ≤ 8 → few ≤ 8
    → ArePlaces ps from few bits → at ≤ length old → take (at + 16) new ≡ take at old ++ swz_l w8 16 v 0 ps
    → take (at + few) new ≡ take at old ++ clear (take 8 (drop from v)) bits
half_packed v old new {ps} {from} {few} {bits} at long start l a within put =
    let look : ℕ → ℕ = λ p. get_or v p 0 in
    let cut : map look (range_with_len from 8) ≡ take 8 (drop from v) =
    pick_l-range_with_len 0 v from 8 (omega (arith, long)) in
    let size = length-take-le at old within in
    let looked = looked_at v ps 0 (omega (arith, a.long)) a.small in
    let joined = take-append-add (take at old) (swz_l w8 16 v 0 ps) few in
    let fewer = take-take (at + few) (at + 16) new (omega (arith, l)) in
    cc (take-map look few ps, clear_map look (range_with_len from 8) bits)

-- a row is packed half by half
pub row_packed : (v old middle new : List ℕ) (at few more dropped : ℕ) → length v ≡ 16
    → take (at + few) middle ≡ take at old ++ clear (take 8 (drop 0 v)) (dropped % 256)
    → take (at + few + more) new ≡ take (at + few) middle ++ clear (take 8 (drop 8 v)) (dropped / 256)
    → take (at + few + more) new ≡ take at old ++ clear v dropped
row_packed v old middle new at few more dropped long p q =
    let last = take_all 8 (drop 8 v) (omega (arith, length-drop 8 v, long)) in
    let parts = append_assoc (take at old) (clear (take 8 v) (dropped % 256)) (clear (drop 8 v) (dropped / 256)) in
    cc (clear_parts 8 v dropped (omega (arith, long)))

-- a row of a block, as lanes extract it
abbrev pub extracted : ℕ → List ℕ → List ℕ
extracted at v = pick_l 0 (v ++ v) (range_with_len at 16)

-- it is the row of the block
extracted_is : (v : List ℕ) (at : ℕ) → length v ≡ 64 → at + 16 ≤ 64 → T (all_below 64 (range_with_len at 16))
    → extracted at v ≡ take 16 (drop at v)
extracted_is v at long room below =
    pick_l_left 0 v v 64 (range_with_len at 16) long below ∙ pick_l-range_with_len 0 v at 16 (omega (arith, long, room))

-- the bytes of a block whose bits are 0 are those of its rows
rows_are : (v r0 r1 r2 r3 : List ℕ) (m : ℕ) → length v ≡ 64 → r0 ≡ take 16 (drop 0 v) → r1 ≡ take 16 (drop 16 v)
    → r2 ≡ take 16 (drop 32 v) → r3 ≡ take 16 (drop 48 v) → clear v m ≡ clear r0 (m % 65536)
    ++ (clear r1 (m / 2 ^ 16 % 65536) ++ (clear r2 (m / 2 ^ 32 % 65536) ++ clear r3 (m / 2 ^ 48 % 65536)))
rows_are v r0 r1 r2 r3 m long p q r s =
    let two : m / 2 ^ 16 / 2 ^ 16 ≡ m / 2 ^ 32 = omega arith in
    let three : m / 2 ^ 32 / 2 ^ 16 ≡ m / 2 ^ 48 = omega arith in
    let room = λ (k : ℕ). length-drop k v in
    let first = clear_parts 16 v m (omega (arith, long)) in
    let second = clear_parts 16 (drop 16 v) (m / 2 ^ 16) (omega (arith, room 16, long)) in
    let third = clear_parts 16 (drop 32 v) (m / 2 ^ 32) (omega (arith, room 32, long)) in
    let low = clear_low (drop 48 v) 16 (m / 2 ^ 48) (omega (arith, room 48, long)) in
    cc (drop-drop 16 16 v, drop-drop 16 32 v, take_all 16 (drop 48 v) (omega (arith, room 48, long)))

-- four parts that are appended one after another
four_parts : (a b c d e r0 r1 r2 r3 : List ℕ) → b ≡ a ++ r0 → c ≡ b ++ r1 → d ≡ c ++ r2 → e ≡ d ++ r3
    → e ≡ a ++ (r0 ++ (r1 ++ (r2 ++ r3)))
four_parts a b c d e r0 r1 r2 r3 p q r s = grind (arith, append_assoc)

-- a block is packed row by row
pub rows_packed : (v b0 b1 b2 b3 b4 : List ℕ) (dropped at e1 e2 e3 e4 : ℕ) → length v ≡ 64
    → take e1 b1 ≡ take at b0 ++ clear (extracted 0 v) (dropped % 65536)
    → take e2 b2 ≡ take e1 b1 ++ clear (extracted 16 v) (dropped / 2 ^ 16 % 65536)
    → take e3 b3 ≡ take e2 b2 ++ clear (extracted 32 v) (dropped / 2 ^ 32 % 65536)
    → take e4 b4 ≡ take e3 b3 ++ clear (extracted 48 v) (dropped / 2 ^ 48 % 65536)
    → take e4 b4 ≡ take at b0 ++ clear v dropped
rows_packed v b0 b1 b2 b3 b4 dropped at e1 e2 e3 e4 long p q r s =
    grind (arith, extracted_is, four_parts, rows_are)

-- the lemmas for `packing.rt`
pub ruleset packing = (places_are, places_long, places_small, rows_packed, take_more_put_chunk)
