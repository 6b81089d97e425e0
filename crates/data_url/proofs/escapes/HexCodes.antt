-- The codes of hexadecimal digits in the lanes of a block, and the escapes that begin there. For `decode_escapes`.
use Rattle.std.proofs.Common.{Bool, Fits, List, ap, ap₂, arith, bit_and, bit_or, cond, drop, eqb, false, leb, length}
use Rattle.std.proofs.Common.{length-append, lit≤, ltb, map, refl, replicate, suc, take, true, w8, [], ℕ, ◌%◌, ◌&&◌}
use Rattle.std.proofs.{Common.{◌*◌, ◌++◌, ◌+◌, ◌-◌, ◌<◌, ◌^◌, ◌∙◌, ◌∷◌, ◌≡◌, ◌≤◌}, lemmas.Bool.{agree_below_at}}
use Rattle.std.proofs.lemmas.{List.{length-map}, Nat.{le_or_l, le_or_r, or_lt}, Simd.{mask_l-mod}}
use Rattle.std.proofs.lemmas.Simd.{pick_l-range_with_len, splat_is_map, tops_compared, zip2_of_maps, zip2_splat}
use Rattle.std.specs.{Char.{digit_value, is_ascii_hexdigit}, List.{range_with_len}}
use Rattle.data_url.specs.{Percent.{begins_with_escape}, Steps.Escapes.{escape_starts, first_value, place_values}}
use lib.Lanes.{Each1, mask_l, pick_l, sel_l, top, zip2}

-- Codes

-- the sum and the difference of two bytes, modulo 256
abbrev add8 : ℕ → ℕ → ℕ
add8 a b = (a + b) % 256

abbrev sub8 : ℕ → ℕ → ℕ
sub8 a b = (a + (256 - b)) % 256

-- lanes of two vectors that are compared, and the smaller and the greater ones
abbrev below : List ℕ → List ℕ → List Bool
below xs ys = map (top 7) (zip2 (λ a b. cond (ltb a b) 255 0) xs ys)

abbrev smaller : List ℕ → List ℕ → List ℕ
smaller xs ys = sel_l (below xs ys) xs ys

abbrev greater : List ℕ → List ℕ → List ℕ
greater xs ys = sel_l (below xs ys) ys xs

-- what lanes compute from one byte
abbrev min8 : ℕ → ℕ → ℕ
min8 a b = cond (ltb a b) a b

abbrev max8 : ℕ → ℕ → ℕ
max8 a b = cond (ltb a b) b a

abbrev last : ℕ → ℕ
last b = add8 b 198

abbrev digit : ℕ → ℕ
digit b = sub8 (sub8 (max8 (last b) 6) 6) 240

abbrev upper : ℕ → ℕ
upper b = sub8 (bit_and b 223) 65

abbrev letter : ℕ → ℕ
letter b = add8 (min8 (upper b) 245) 10

abbrev pub code : ℕ → ℕ
code b = min8 (digit b) (letter b)

-- the code of a digit is its value, and that of any other byte is 16 or more
record IsCodeOf (hex : Bool) (value code : ℕ) : Type 0 where
  pub digit : hex ≡ true → (code ≡ value) × (code < 16)
  pub other : hex ≡ false → 16 ≤ code

by_test : (hex : Bool) (value code : ℕ) → cond hex (eqb code value && ltb code 16) (leb 16 code) ≡ true
    → IsCodeOf hex value code
by_test true value code h = grind arith
by_test false value code h = grind arith

code_is : (b : ℕ) → b < 256 → IsCodeOf (is_ascii_hexdigit b) (digit_value b) (code b)
code_is b l = by_test (is_ascii_hexdigit b) (digit_value b) (code b)
    (agree_below_at (λ b. cond (is_ascii_hexdigit b) (eqb (code b) (digit_value b) && ltb (code b) 16)
    (leb 16 (code b))) (λ b. true) 256 b refl l)

-- lanes that are chosen from two vectors that were computed from vs
chosen_of : {V : Type 0} (t : V → Bool) (f g : V → ℕ) (vs : List V)
    → sel_l (map t vs) (map f vs) (map g vs) ≡ map (λ x. cond (t x) (f x) (g x)) vs
chosen_of t f g [] = refl
chosen_of t f g (x ∷ vs) = ap (λ l. cond (t x) (f x) (g x) ∷ l) (chosen_of t f g vs)

chosen : {V : Type 0} (t : V → Bool) (f g : V → ℕ) (vs : List V) {m : List Bool} {a b : List ℕ} → m ≡ map t vs
    → a ≡ map f vs → b ≡ map g vs → sel_l m a b ≡ map (λ x. cond (t x) (f x) (g x)) vs
chosen t f g vs {m} {a} {b} e p q = cc (chosen_of t f g vs)

-- lanes that are computed byte by byte are the smaller and the greater ones byte by byte
below_are : (f g : ℕ → ℕ) (v xs ys : List ℕ) → xs ≡ map f v → ys ≡ map g v → below xs ys ≡ map (λ b. ltb (f b) (g b)) v
below_are f g v xs ys p q = tops_compared w8 ltb xs ys ∙ zip2_of_maps ltb f g v p q

smaller_are : (f g : ℕ → ℕ) (v xs ys : List ℕ) → xs ≡ map f v → ys ≡ map g v
    → smaller xs ys ≡ map (λ b. min8 (f b) (g b)) v
smaller_are f g v xs ys p q = chosen (λ b. ltb (f b) (g b)) f g v (below_are f g v xs ys p q) p q

-- the codes that lanes compute
abbrev pub code_lanes : List ℕ → List ℕ
code_lanes v = smaller
    (zip2 sub8 (zip2 sub8 (greater (zip2 add8 v (replicate 64 198)) (replicate 64 6)) (replicate 64 6))
    (replicate 64 240))
    (zip2 add8 (smaller (zip2 sub8 (zip2 bit_and v (replicate 64 223)) (replicate 64 65)) (replicate 64 245))
    (replicate 64 10))

codes_are : (v : List ℕ) → length v ≡ 64 → code_lanes v ≡ map code v
codes_are v long =
    let splat = λ (n : ℕ). splat_is_map {Y = ℕ} v 64 n long in
    let last_is = zip2_splat add8 v 64 198 long in
    let most = chosen (λ b. ltb (last b) 6) (λ _. 6) last v (below_are last (λ _. 6) v _ _ last_is (splat 6)) (splat 6)
    last_is in
    let less = zip2_of_maps sub8 (λ b. max8 (last b) 6) (λ _. 6) v most (splat 6) in
    let digits = zip2_of_maps sub8 (λ b. sub8 (max8 (last b) 6) 6) (λ _. 240) v less (splat 240) in
    let upper_is = zip2_of_maps sub8 (λ b. bit_and b 223) (λ _. 65) v (zip2_splat bit_and v 64 223 long) (splat 65) in
    let least = smaller_are upper (λ _. 245) v _ _ upper_is (splat 245) in
    smaller_are digit letter v _ _ digits (zip2_of_maps add8 (λ b. min8 (upper b) 245) (λ _. 10) v least (splat 10))

-- Escapes

-- the text from each byte on
abbrev tails : List ℕ → List (List ℕ)
tails [] = []
tails (b ∷ s) = (b ∷ s) ∷ tails s

-- the first byte of a text, and the codes of the two bytes after it, which are 255 past the end
abbrev head : List ℕ → ℕ
head [] = 0
head (b ∷ s) = b

abbrev first_code : List ℕ → ℕ
first_code [] = 255
first_code (b ∷ s) = code b

abbrev high : List ℕ → ℕ
high s = first_code (drop 1 s)

abbrev low : List ℕ → ℕ
low s = first_code (drop 2 s)

heads_are : (v : List ℕ) → v ≡ map head (tails v)
heads_are [] = refl
heads_are (b ∷ v) = ap (λ t. b ∷ t) (heads_are v)

highs_are : (v pad : List ℕ) → take (length v) (drop 1 (map code v ++ 255 ∷ pad)) ≡ map high (tails v)
highs_are [] pad = refl
highs_are (b ∷ []) pad = refl
highs_are (b ∷ c ∷ v) pad = ap (λ t. code c ∷ t) (highs_are (c ∷ v) pad)

lows_are : (v pad : List ℕ) → take (length v) (drop 2 (map code v ++ 255 ∷ 255 ∷ pad)) ≡ map low (tails v)
lows_are [] pad = refl
lows_are (b ∷ []) pad = refl
lows_are (b ∷ c ∷ []) pad = refl
lows_are (b ∷ c ∷ d ∷ v) pad = ap (λ t. code d ∷ t) (lows_are (c ∷ d ∷ v) pad)

length-tails : (v : List ℕ) → length (tails v) ≡ length v
length-tails [] = refl
length-tails (b ∷ v) = ap suc (length-tails v)

-- whether an escape begins a text by the codes, the sum of the two codes, and what is chosen of it and the first byte
abbrev start : List ℕ → Bool
start s = ltb (cond (eqb (head s) 37) (bit_or (high s) (low s)) 255) 16

abbrev sum : List ℕ → ℕ
sum s = add8 (high s * 2 ^ 4 % 256) (low s)

-- an escape begins at a '%' before two digits, and its value is that of the digits
start_by : (p h l : Bool) (b u v x y : ℕ) → IsCodeOf h u x → IsCodeOf l v y
    → (ltb (cond p (bit_or x y) 255) 16 ≡ (p && (h && l))) × (cond (p && (h && l)) (add8 (x * 2 ^ 4 % 256) y) b
    ≡ cond (p && (h && l)) (16 * u + v) b)
start_by false h l b u v x y f g = (refl, refl)
start_by true false l b u v x y f g = grind (arith, le_or_l x y)
start_by true true false b u v x y f g = grind (arith, le_or_r x y)
start_by true true true b u v x y f g = grind (arith, or_lt 4 x y)

-- past the end of a text there is no digit
no_code : IsCodeOf false 0 255
no_code = record { digit = λ h. grind arith; other = λ h. lit≤ tt }

first_is : (b : ℕ) (s : List ℕ) → Each1 (Fits w8) s → (start (b ∷ s) ≡ begins_with_escape (b ∷ s))
    × (cond (start (b ∷ s)) (sum (b ∷ s)) b ≡ first_value (b ∷ s))
first_is b [] f = grind (arith, start_by (eqb b 37) false false b 0 0 255 255 no_code no_code)
first_is b (c ∷ []) f =
    grind (arith, start_by (eqb b 37) (is_ascii_hexdigit c) false b _ 0 (code c) 255 (code_is c f.0.fits) no_code)
first_is b (c ∷ d ∷ s) f =
    let e = start_by (eqb b 37) (is_ascii_hexdigit c) (is_ascii_hexdigit d) b _ _ (code c) (code d) (code_is c f.0.fits)
    (code_is d f.1.0.fits) in
    (e.0, ap (λ t. cond t (sum (b ∷ c ∷ d ∷ s)) b) e.0 ∙ e.1)

starts_are : (v : List ℕ) → Each1 (Fits w8) v → map start (tails v) ≡ escape_starts v
starts_are [] f = refl
starts_are (b ∷ v) f = ap₂ (λ x (y : List Bool). x ∷ y) (first_is b v f.1).0 (starts_are v f.1)

values_are : (v : List ℕ) → Each1 (Fits w8) v → map (λ s. cond (start s) (sum s) (head s)) (tails v) ≡ place_values v
values_are [] f = refl
values_are (b ∷ v) f = ap₂ (λ x (y : List ℕ). x ∷ y) (first_is b v f.1).1 (values_are v f.1)

pub length-starts : (s : List ℕ) → length (escape_starts s) ≡ length s
length-starts [] = refl
length-starts (b ∷ s) = ap suc (length-starts s)

-- the codes of the bytes after each byte of a block, as two shuffles compute them
abbrev pub codes_from : ℕ → List ℕ → List ℕ
codes_from k v = pick_l 0 (code_lanes v ++ replicate 64 255) (range_with_len k 64)

shifted : (v : List ℕ) (k : ℕ) → length v ≡ 64 → k ≤ 2
    → codes_from k v ≡ take (length v) (drop k (map code v ++ replicate 64 255))
shifted v k long few =
    let e = codes_are v long in
    let size = length-append (map code v) (replicate 64 255) in
    rw (e, long) (pick_l-range_with_len 0 (map code v ++ replicate 64 255) k 64
    (omega (arith, size, few, length-map v code, long)))

-- the bits of the lanes at which an escape begins
abbrev pub start_lanes : List ℕ → List Bool
start_lanes v =
    map (top 7) (zip2 (λ a b. cond (ltb a b) 255 0)
    (sel_l (map (top 7) (zip2 (λ a b. cond (eqb a b) 255 0) v (replicate 64 37)))
    (zip2 bit_or (codes_from 1 v) (codes_from 2 v)) (replicate 64 255)) (replicate 64 16))

starts_computed : (v : List ℕ) → length v ≡ 64 → start_lanes v ≡ map start (tails v)
starts_computed v long =
    let ts = tails v in
    let splat = λ (n : ℕ). splat_is_map {Y = ℕ} ts 64 n (length-tails v ∙ long) in
    let high_is = shifted v 1 long (lit≤ tt) ∙ highs_are v (replicate 63 255) in
    let low_is = shifted v 2 long (lit≤ tt) ∙ lows_are v (replicate 62 255) in
    let percent = tops_compared w8 eqb v (replicate 64 37)
    ∙ zip2_of_maps eqb head (λ _. 37) ts (heads_are v) (splat 37) in
    let both = zip2_of_maps bit_or high low ts high_is low_is in
    let codes = chosen (λ s. eqb (head s) 37) (λ s. bit_or (high s) (low s)) (λ _. 255) ts percent both (splat 255) in
    tops_compared w8 ltb _ (replicate 64 16) ∙ zip2_of_maps ltb _ (λ _. 16) ts codes (splat 16)

-- the mask that lanes compute
pub starts_mask : (v : List ℕ) → length v ≡ 64 → Each1 (Fits w8) v
    → mask_l (start_lanes v) % 2 ^ 64 ≡ mask_l (escape_starts v)
starts_mask v long f =
    let size = length-starts v ∙ long in
    ap (λ m. mask_l m % 2 ^ 64) (starts_computed v long ∙ starts_are v f)
    ∙ mask_l-mod (escape_starts v) 64 (omega (arith, size))

-- the values that lanes compute
pub values_computed : (v : List ℕ) → length v ≡ 64 → Each1 (Fits w8) v
    → sel_l (start_lanes v) (zip2 add8 (zip2 (λ a b. a * 2 ^ b % 2 ^ 8) (codes_from 1 v) (replicate 64 4))
    (codes_from 2 v)) v ≡ place_values v
values_computed v long f =
    let ts = tails v in
    let shl : ℕ → ℕ → ℕ = λ a b. a * 2 ^ b % 2 ^ 8 in
    let high_is = shifted v 1 long (lit≤ tt) ∙ highs_are v (replicate 63 255) in
    let low_is = shifted v 2 long (lit≤ tt) ∙ lows_are v (replicate 62 255) in
    let fours = splat_is_map {Y = ℕ} ts 64 4 (length-tails v ∙ long) in
    let sums = zip2_of_maps add8 (λ s. high s * 2 ^ 4 % 256) low ts
    (zip2_of_maps shl high (λ _. 4) ts high_is fours) low_is in
    chosen start sum head ts (starts_computed v long) sums (heads_are v) ∙ values_are v f
