-- Symbols in vectors, item by item. For `alphabet.rt`, `gaps.rt`, `rows.rt` and `classes/lanes.rt`.
use Rattle.std.proofs.Common.{List, [], ◌∷◌, ◌++◌, map, ◌≡◌, ℕ, ◌<◌, ltb, true, cond, eqb, get_or, length, take, Fits}
use Rattle.std.proofs.Common.{w8, ap, ◌%◌, Bool, not, refl, ◌∙◌, ap₂, arith, suc, zero, ◌&&◌, bit_or}
use Rattle.std.proofs.lemmas.Bool.{agree_below_at, and_parts, eqb-true, ltb-true, cases_eq, ne_eqb}
use Rattle.std.{proofs.lemmas.List.{nil_from_length}, proofs.lemmas.Nat.{and_le_r, and_le_l}}
use Rattle.std.{proofs.lemmas.Simd.{zip2_of_maps}, specs.Char.{is_ascii_whitespace as std_whitespace}}
use Rattle.std.{specs.Char.{is_ascii_whitespace}, specs.List.{list_all}}
use Rattle.data_url.specs.{Base64.{is_symbol, symbol_value, groups, after_groups}, Steps.Lanes.{lane_value}}
use Rattle.data_url.specs.declared.forgiving_base64.alphabet.TheConstants.{VALUES}
use Rattle.data_url.proofs.forgiving_base64.Padding.{groups-append, length-after_groups}
use lib.Bits.{or_add_and}
use lib.Lanes.{Each1, sel_l, zip2, mask_l}

-- The table of symbols is the alphabet.

-- the entry of a symbol is its value
pub entry_symbol : (b : ℕ) → b < 256 → is_symbol b ≡ true → get_or VALUES b 0 ≡ symbol_value b
entry_symbol b l h =
    let agrees = λ (b : ℕ). cond (is_symbol b) (eqb (get_or VALUES b 0) (symbol_value b)) true in
    let same = agree_below_at agrees (λ b. true) 256 b refl l in
    grind (arith, eqb-true (get_or VALUES b 0) (symbol_value b))

-- an entry is below the mark exactly at a symbol
pub symbol_is : (b : ℕ) → b < 256 → ltb (get_or VALUES b 0) 64 ≡ is_symbol b
symbol_is b l = agree_below_at (λ b. ltb (get_or VALUES b 0) 64) is_symbol 256 b refl l

-- the standard library's class of white space is that of forgiving base64
pub space_is : (b : ℕ) → b < 256 → std_whitespace b ≡ is_ascii_whitespace b
space_is b l = refl

-- What a row of lanes computes, byte by byte.

-- Lanes that are computed from v

-- if a and b are computed from v item by item, so is `zip2 h a b`
pub joined : (h : ℕ → ℕ → ℕ) (f g : ℕ → ℕ) (v : List ℕ) {a b : List ℕ} → a ≡ map f v → b ≡ map g v
    → zip2 h a b ≡ map (λ x. h (f x) (g x)) v
joined h f g v p q = zip2_of_maps h f g v p q

-- choosing between two lists that are computed from xs is computing the chosen items from xs
chosen-map : (t : ℕ → Bool) (f g : ℕ → ℕ) (xs : List ℕ) → sel_l (map t xs) (map f xs) (map g xs) ≡ map
    (λ x. cond (t x) (f x) (g x)) xs
chosen-map t f g [] = refl
chosen-map t f g (x ∷ xs) = grind (arith, chosen-map t f g xs)

-- if a mask and two lists are computed from v item by item, so is the choice between their items
pub chosen : (t : ℕ → Bool) (f g : ℕ → ℕ) (v : List ℕ) {m : List Bool} {a b : List ℕ} → m ≡ map t v → a ≡ map f v
    → b ≡ map g v → sel_l m a b ≡ map (λ x. cond (t x) (f x) (g x)) v
chosen t f g v {m} {a} {b} e p q = cc (e, p, q, chosen-map t f g v)

-- if f gives items that satisfy Q for items that satisfy P, mapping f keeps this for all items of a list
pub each_map : (P Q : ℕ → Type 0) (f : ℕ → ℕ) → ((x : ℕ) → P x → Q (f x)) → (v : List ℕ) → Each1 P v → Each1 Q (map f v)
each_map P Q f g [] h = tt
each_map P Q f g (x ∷ v) h = (g x h.0, each_map P Q f g v h.1)

-- The tables are the alphabet

-- `lane_value` is the value of a symbol
pub value_is : (b : ℕ) → b < 256 → is_symbol b ≡ true → lane_value b ≡ symbol_value b
value_is b l s =
    let agrees = λ (b : ℕ). cond (is_symbol b) (eqb (lane_value b) (symbol_value b)) true in
    let same = agree_below_at agrees (λ b. true) 256 b refl l in
    grind (arith, eqb-true (lane_value b) (symbol_value b))

-- the items of symbols are their values, and below 64
pub front_values : (s : List ℕ) → Each1 (Fits w8) s → list_all is_symbol s ≡ true
    → (map lane_value s ≡ map symbol_value s) × Each1 (λ x. x < 64) (map lane_value s)
front_values [] fits h = (refl, tt)
front_values (b ∷ s) fits h =
    let p = and_parts (is_symbol b) (list_all is_symbol s) h in
    let rest = front_values s fits.1 p.1 in
    let small = λ (b : ℕ). cond (is_symbol b) (ltb (lane_value b) 64) true in
    let below = agree_below_at small (λ b. true) 256 b refl fits.0.fits in (
      ap₂ (λ x (y : List ℕ). x ∷ y) (value_is b fits.0.fits p.0) rest.0,
      (grind (arith, ltb-true (lane_value b) 64), rest.1),
    )

-- the first items of a list of bytes are bytes
pub each_take : (n : ℕ) (s : List ℕ) → Each1 (Fits w8) s → Each1 (Fits w8) (take n s)
each_take zero s fits = tt
each_take (suc n) [] fits = tt
each_take (suc n) (b ∷ s) fits = (fits.0, each_take n s fits.1)

-- Bytes that are not symbols

-- two functions that agree below 256 give the same list for bytes
pub map_agree : {A : Type 0} (f g : ℕ → A) → ((b : ℕ) → b < 256 → f b ≡ g b) → (v : List ℕ) → Each1 (Fits w8) v
    → map f v ≡ map g v
map_agree f g h [] fits = refl
map_agree f g h (b ∷ v) fits = grind (arith, map_agree f g h v fits.1)

-- two tests that agree below 256 pass the same lists of bytes
pub all_agree : (p q : ℕ → Bool) → ((b : ℕ) → b < 256 → p b ≡ q b) → (v : List ℕ) → Each1 (Fits w8) v
    → list_all p v ≡ list_all q v
all_agree p q h [] fits = refl
all_agree p q h (b ∷ v) fits = grind (arith, all_agree p q h v fits.1)

-- whether two numbers differ
abbrev pub differs : ℕ → ℕ → Bool
differs a b = not (eqb a b)

-- whether a byte is not a symbol
abbrev pub is_other : ℕ → Bool
is_other b = not (is_symbol b)

-- The mask of a row

-- the mask of the bytes that are no symbols
abbrev pub others_mask : List ℕ → ℕ
others_mask v = mask_l (map is_other v)

-- the bitwise or of two numbers is zero exactly if both are zero
pub or_zero : (x y : ℕ) → eqb (bit_or x y) 0 ≡ (eqb x 0 && eqb y 0)
or_zero x y = grind (arith, cases_eq, ne_eqb, or_add_and, and_le_l, and_le_r)

-- Groups of rows

-- if x is complete groups, the bytes of x ++ y are those of x and then those of y
pub groups_whole : (x y : List ℕ) → length x % 4 ≡ 0 → groups (x ++ y) ≡ groups x ++ groups y
groups_whole x y h = groups-append x y
    ∙ ap (λ z. groups x ++ groups (z ++ y)) (nil_from_length (after_groups x) (length-after_groups x ∙ h))
