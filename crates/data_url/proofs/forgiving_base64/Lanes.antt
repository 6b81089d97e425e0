-- Rows and blocks of symbols, in lanes of 8 and of 32 bits. For `alphabet.rt`.
use Rattle.std.proofs.Common.{List, [], ◌∷◌, ◌++◌, map, ◌≡◌, ℕ, ◌<◌, ◌≤◌, true, eqb, get_or, Fits, w8, w32, ap, length}
use Rattle.std.proofs.Common.{◌+◌, ◌*◌, ◌/◌, ◌%◌, ◌^◌, refl, sym, ◌∙◌, ap₂, arith, suc, zero, take, drop, replicate}
use Rattle.std.proofs.{Common.{cond, eqb-true, subst}, Math.Dec.{ltb}, lemmas.Bool.{agree_below_at, ltb-true}}
use Rattle.std.proofs.lemmas.List.{drop_all, drop_more, ext_get_or, get_or-map, get_or-take, take-map, take-take}
use Rattle.std.proofs.lemmas.Simd.{Each1-chunk, Each1-from_get_or, get_or-chunk, get_or_narrower, get_or_wider}
use Rattle.std.proofs.lemmas.Simd.{below_from_Fits, length-chunk, pick_l_left, pick_l_whole, splat_is_map}
use Rattle.std.proofs.lemmas.Simd.{tops_compared, zip2_splat}
use Rattle.std.specs.List.{list_all, range_with_len}
use Rattle.data_url.specs.{Base64.{group_number, groups, is_symbol, symbol_value}, Steps.Lanes.{DecodesFront}}
use Rattle.data_url.specs.Steps.Lanes.{lane_value, number_bytes, numbers, offset_row, twelves}
use Rattle.data_url.specs.declared.forgiving_base64.alphabet.TheConstants.{THREE_QUARTERS}
use Rattle.data_url.proofs.classes.Lookups.{extracted, extracted_is, first_row, four_rows}
use Rattle.data_url.proofs.forgiving_base64.Vectors.{chosen, joined, each_take, front_values}
use lib.Lanes.{chunk, sel_l, top, Each1, digits_l, number_l, pair_sums, pick_l, products, zip2}

-- Values

-- the index of each byte in the table of offsets is below 16
pub row_small : (x : ℕ) → x < 256 → offset_row x < 16
row_small x h = ltb-true (offset_row x) 16 (agree_below_at (λ b. ltb (offset_row b) 16) (λ b. true) 256 x refl h)

-- the high halves, minus one for a slash, are the indices in the table of offsets
pub offset_rows : (n : ℕ) (v : List ℕ) → length v ≡ n
    → zip2 (λ a b. (a + b) % 256) (zip2 (λ a b. a / 2 ^ b) v (replicate n 4))
    (sel_l (map (top 7) (zip2 (λ a b. cond (eqb a b) 255 0) v (replicate n 47))) (replicate n 255) (replicate n 0))
    ≡ map offset_row v
offset_rows n v long = joined (λ a b. (a + b) % 256) (λ x. x / 16) (λ x. cond (eqb x 47) 255 0) v
    (zip2_splat (λ a b. a / 2 ^ b) v n 4 long)
    (chosen (λ x. eqb x 47) (λ x. 255) (λ x. 0) v (tops_compared w8 eqb v _ ∙ zip2_splat eqb v n 47 long)
    (splat_is_map v n 255 long) (splat_is_map v n 0 long))

-- Numbers of groups

-- the weights of n groups
abbrev pub upper : ℕ → List ℕ
upper zero = []
upper (suc n) = 64 ∷ 1 ∷ 0 ∷ 0 ∷ upper n

abbrev pub lower : ℕ → List ℕ
lower zero = []
lower (suc n) = 0 ∷ 0 ∷ 64 ∷ 1 ∷ lower n

-- the sum of two numbers, modulo 2 ^ 32
abbrev add32 : ℕ → ℕ → ℕ
add32 a b = (a + b) % 2 ^ 32

-- a, shifted to the left by b bits, modulo 2 ^ 32
abbrev shl32 : ℕ → ℕ → ℕ
shl32 a b = a * 2 ^ b % 2 ^ 32

-- the numbers of n groups, as lanes compute them
abbrev pub computed : ℕ → List ℕ → List ℕ
computed n v =
    zip2 add32 (zip2 shl32 (pair_sums (pair_sums (products v (upper n)))) (replicate n 12))
    (pair_sums (pair_sums (products v (lower n))))

-- the number of a group, as a lane computes it
word : (a b c d : ℕ) → a < 256 → b < 256 → c < 256 → d < 256
    → add32 (shl32 ((a * 64 + b * 1) + (c * 0 + d * 0)) 12) ((a * 0 + b * 0) + (c * 64 + d * 1)) ≡ group_number a b c d
word a b c d p q r s = omega arith

-- from the bytes of n groups, lanes compute the numbers of these groups
pub computed_is : (n : ℕ) (v : List ℕ) → length v ≡ 4 * n → Each1 (Fits w8) v → computed n v ≡ numbers v
computed_is zero [] long fits = refl
computed_is zero (a ∷ v) long fits = absurd (omega (arith, long))
computed_is (suc n) [] long fits = absurd (omega (arith, long))
computed_is (suc n) (a ∷ []) long fits = absurd (omega (arith, long))
computed_is (suc n) (a ∷ b ∷ []) long fits = absurd (omega (arith, long))
computed_is (suc n) (a ∷ b ∷ c ∷ []) long fits = absurd (omega (arith, long))
computed_is (suc n) (a ∷ b ∷ c ∷ d ∷ v) long fits =
    ap₂ (λ x (y : List ℕ). x ∷ y)
    (word a b c d fits.0.fits fits.1.0.fits fits.1.1.0.fits fits.1.1.1.0.fits)
    (computed_is n v (omega (arith, long)) fits.1.1.1.1)

-- Bytes of numbers

-- the places of the bytes of n numbers from number k on
abbrev pub order : ℕ → ℕ → List ℕ
order k zero = []
order k (suc n) = (4 * k + 2) ∷ (4 * k + 1) ∷ (4 * k + 0) ∷ order (suc k) n

-- if a list has the bytes of numbers, picking them in that order gives the three lowest of each
picked : (t : ℕ) (bytes ns : List ℕ)
    → ((j i : ℕ) → i < 4 → 4 * j + i < 4 * t → get_or bytes (4 * j + i) 0 ≡ get_or ns j 0 / 256 ^ i % 256)
    → length ns ≡ t → (k n : ℕ) → k + n ≡ t → pick_l 0 bytes (order k n) ≡ number_bytes (drop k ns)
picked t bytes ns at long k zero e = sym (ap number_bytes (drop_all k ns (omega (arith, long, e))))
picked t bytes ns at long k (suc n) e =
    let rest = picked t bytes ns at long (suc k) n (omega (arith, e)) in
    let first = drop_more ns k 0 (omega (arith, long, e)) in
    grind (
      arith,
      rest,
      first,
      at k 2 (omega arith) (omega (arith, e)),
      at k 1 (omega arith) (omega (arith, e)),
      at k 0 (omega arith) (omega (arith, e)),
    )

-- the bytes of t numbers, picked in that order
pub bytes_are : (t : ℕ) (ns : List ℕ) → length ns ≡ t → Each1 (Fits w32) ns
    → pick_l 0 (digits_l 256 (4 * t) (number_l 4294967296 ns)) (order 0 t) ≡ number_bytes ns
bytes_are t ns long fits =
    picked t (digits_l 256 (4 * t) (number_l 4294967296 ns)) ns
    (λ j i few within. get_or_narrower 4294967296 4 256 (4 * t) ns j i refl (below_from_Fits w32 ns fits) few within)
    long 0 t (omega arith)

-- three bytes of the number of four values
group_same : (p q r s : ℕ) → p < 64 → q < 64 → r < 64 → s < 64
    → group_number p q r s / 65536 % 256 ≡ group_number p q r s / 65536
group_same p q r s a b c d = omega arith

-- the bytes of the numbers of values are those of their groups
groups_are : (v : List ℕ) → Each1 (λ x. x < 64) v → number_bytes (numbers v) ≡ groups v
unfolding groups
groups_are [] small = refl
groups_are (p ∷ []) small = refl
groups_are (p ∷ q ∷ []) small = refl
groups_are (p ∷ q ∷ r ∷ []) small = refl
groups_are (p ∷ q ∷ r ∷ s ∷ v) small =
    let rest = groups_are v small.1.1.1.1 in
    let top = group_same p q r s small.0 small.1.0 small.1.1.0 small.1.1.1.0 in
    let n = group_number p q r s in
    ap₂ (λ x (y : List ℕ). x ∷ n / 256 % 256 ∷ n % 256 ∷ y) top rest

-- Rows

-- what holds with four more values
four : (m : ℕ) (v : List ℕ) → take (suc m) (numbers v) ≡ numbers (take (suc (suc (suc (suc (4 * m))))) v)
    → take (suc m) (numbers v) ≡ numbers (take (4 * suc m) v)
four m v h = let e : 4 * suc m ≡ suc (suc (suc (suc (4 * m)))) = omega arith in rw e h

-- the first m numbers are those of the first m groups
front_numbers : (m : ℕ) (v : List ℕ) → take m (numbers v) ≡ numbers (take (4 * m) v)
front_numbers zero v = refl
front_numbers (suc m) [] = four m [] refl
front_numbers (suc m) (p ∷ []) = four m (p ∷ []) refl
front_numbers (suc m) (p ∷ q ∷ []) = four m (p ∷ q ∷ []) refl
front_numbers (suc m) (p ∷ q ∷ r ∷ []) = four m (p ∷ q ∷ r ∷ []) refl
front_numbers (suc m) (p ∷ q ∷ r ∷ s ∷ v) =
    four m (p ∷ q ∷ r ∷ s ∷ v) (ap (λ t. group_number p q r s ∷ t) (front_numbers m v))

-- their bytes are the first 3 * m
front_bytes : (m : ℕ) (ns : List ℕ) → take (3 * m) (number_bytes ns) ≡ number_bytes (take m ns)
front_bytes zero ns = refl
front_bytes (suc m) [] = let e : 3 * suc m ≡ suc (suc (suc (3 * m))) = omega arith in rw e refl
front_bytes (suc m) (n ∷ ns) =
    let e : 3 * suc m ≡ suc (suc (suc (3 * m))) = omega arith in
    rw e (ap (λ t. n / 65536 % 256 ∷ n / 256 % 256 ∷ n % 256 ∷ t) (front_bytes m ns))

-- the bytes of the numbers of a block begin with those of the groups of symbols that its first row begins with
pub row_is : (s w vs ns r : List ℕ) → length s ≡ 16 → Each1 (Fits w8) s → w ≡ four_rows s → vs ≡ map lane_value w
    → ns ≡ numbers vs → length r ≡ 64 → twelves r ≡ number_bytes ns → DecodesFront s (extracted 0 r)
row_is s w vs ns r long fits f p q size o m few all =
    let front = front_values (take (4 * m) s) (each_take (4 * m) s fits) all in
    let within : 3 * m ≤ 12 = omega (arith, few) in
    let whole = pick_l_whole 0 r 64 size in
    let first = sym (ap (λ x. take 12 (twelves x)) whole) ∙ ap (take 12) whole in
    let row = sym (take-take (4 * m) 16 (four_rows s) (omega (arith, few))) ∙ ap (take (4 * m)) (first_row s long) in
    ap (take (3 * m)) (extracted_is r 0 size (omega arith) tt) ∙ take-take (3 * m) 16 r (omega (arith, within))
    ∙ sym (take-take (3 * m) 12 r within) ∙ ap (take (3 * m)) (sym first) ∙ take-take (3 * m) 12 (twelves r) within
    ∙ ap (take (3 * m)) (o ∙ ap number_bytes (q ∙ ap numbers (p ∙ ap (map lane_value) f)))
    ∙ front_bytes m (numbers (map lane_value (four_rows s)))
    ∙ ap number_bytes (front_numbers m (map lane_value (four_rows s)))
    ∙ ap (λ v. number_bytes (numbers v)) (take-map lane_value (4 * m) (four_rows s) ∙ ap (map lane_value) row)
    ∙ groups_are (map lane_value (take (4 * m) s)) front.1 ∙ ap groups front.0

-- Blocks

-- each of four bytes is a byte of the number that they make
byte_of : (a b c d i : ℕ) → a < 256 → b < 256 → c < 256 → d < 256 → i < 4
    → number_l 256 (a ∷ b ∷ c ∷ d ∷ []) / 256 ^ i % 256 ≡ get_or (a ∷ b ∷ c ∷ d ∷ []) i 0
byte_of a b c d zero p q r s l = omega (arith, p)
byte_of a b c d (suc zero) p q r s l = omega (arith, p, q)
byte_of a b c d (suc (suc zero)) p q r s l = omega (arith, p, q, r)
byte_of a b c d (suc (suc (suc zero))) p q r s l = omega (arith, p, q, r, s)
byte_of a b c d (suc (suc (suc (suc i)))) p q r s l = absurd (omega (arith, l))

-- the number of four bytes is less than 2 ^ 32, and has these bytes
four_bytes : (xs : List ℕ) → length xs ≡ 4 → Each1 (λ x. x < 256) xs
    → (number_l 256 xs < 4294967296) × ((i : ℕ) → i < 4 → number_l 256 xs / 256 ^ i % 256 ≡ get_or xs i 0)
four_bytes (a ∷ b ∷ c ∷ d ∷ []) long h =
    (omega (arith, h.0, h.1.0, h.1.1.0, h.1.1.1.0), λ i. byte_of a b c d i h.0 h.1.0 h.1.1.0 h.1.1.1.0)
four_bytes [] long h = absurd (omega (arith, long))
four_bytes (a ∷ []) long h = absurd (omega (arith, long))
four_bytes (a ∷ b ∷ []) long h = absurd (omega (arith, long))
four_bytes (a ∷ b ∷ c ∷ []) long h = absurd (omega (arith, long))
four_bytes (a ∷ b ∷ c ∷ d ∷ e ∷ xs) long h = absurd (omega (arith, long))

-- A swizzle of the quarters of the rows of a block
module _ (v : List ℕ) (long : length v ≡ 64) (fits : Each1 (Fits w8) v) where
  -- the quarters, as numbers
  abbrev pub quarters : List ℕ
  quarters = digits_l 4294967296 16 (number_l 256 v)

  -- those that are picked
  abbrev pub picked_quarters : List ℕ
  picked_quarters = pick_l 0 (quarters ++ quarters) THREE_QUARTERS

  -- the bytes of one of them
  abbrev quarter : ℕ → List ℕ
  quarter j = chunk (4 * get_or THREE_QUARTERS j 0) 4 v

  -- a picked quarter is the number of its bytes, which is less than 2 ^ 32, and has these bytes
  quarter_is : (j : ℕ) → j < 16 → (get_or picked_quarters j 0 ≡ number_l 256 (quarter j))
      × (number_l 256 (quarter j) < 4294967296)
      × ((i : ℕ) → i < 4 → number_l 256 (quarter j) / 256 ^ i % 256 ≡ get_or (quarter j) i 0)
  quarter_is j l =
      let small = below_from_Fits w8 v fits in
      let t = get_or THREE_QUARTERS j 0 in
      let below = ltb-true _ _ (agree_below_at (λ k. ltb (get_or THREE_QUARTERS k 0) 16) (λ _. true) 16 j refl l) in
      let bytes = four_bytes (quarter j) (length-chunk (4 * t) 4 v (omega (arith, long, below)))
      (Each1-chunk (λ x. x < 256) (4 * t) 4 v small) in (
        ap (λ t. get_or t j 0) (pick_l_left 0 quarters quarters 16 THREE_QUARTERS refl tt)
            ∙ get_or-map (λ k. get_or quarters k 0) THREE_QUARTERS j 0 0 l
            ∙ get_or_wider 256 4 4294967296 16 v t refl small below,
        bytes.0,
        bytes.1,
      )

  -- what is picked begins with the first twelve bytes of each row
  pub picked_twelves : take 48 (digits_l 256 64 (number_l 4294967296 picked_quarters)) ≡ twelves v
  picked_twelves =
      let places = twelves (range_with_len 0 64) in
      let found = digits_l 256 64 (number_l 4294967296 picked_quarters) in
      let few = Each1-from_get_or (λ x. x < 4294967296) picked_quarters 0
      (λ j l. let q = quarter_is j l in subst (λ n. n < 4294967296) (sym q.0) q.1) in
      ext_get_or 0 (take 48 found) (pick_l 0 v places) refl (λ k l.
      let j = k / 4 in
      let i = k % 4 in
      let q = quarter_is j (omega (arith, l)) in
      let at : k ≡ 4 * j + i = omega arith in
      let place = eqb-true _ _ (agree_below_at
      (λ k. eqb (4 * get_or THREE_QUARTERS (k / 4) 0 + k % 4) (get_or places k 0))
      (λ _. true) 48 k refl l) in
      get_or-take 48 found k 0 l
      ∙ ap (λ n. get_or found n 0) at
      ∙ get_or_narrower 4294967296 4 256 64 picked_quarters j i refl few (omega arith) (omega (arith, l))
      ∙ ap (λ n. n / 256 ^ i % 256) q.0
      ∙ q.2 i (omega arith)
      ∙ get_or-chunk (4 * get_or THREE_QUARTERS j 0) 4 v i 0 (omega arith)
      ∙ ap (λ n. get_or v n 0) place
      ∙ sym (get_or-map (λ n. get_or v n 0) places k 0 0 l))
      ∙ ap twelves (pick_l_whole 0 v 64 long)

-- the bytes of the numbers of the values of symbols are those of their groups
pub block_is : (s vs ns r : List ℕ) → list_all is_symbol s ≡ true → Each1 (Fits w8) s → vs ≡ map lane_value s → ns ≡
    numbers vs
    → take 48 r ≡ number_bytes ns → take 48 r ≡ groups (map symbol_value s)
block_is s vs ns r all fits p q o =
    let f = front_values s fits all in
    o ∙ ap number_bytes (q ∙ ap numbers p) ∙ groups_are (map lane_value s) f.1 ∙ ap groups f.0
