-- The bits of the stops of a block. For `stops_of`, `decode_escapes` and `pack_to_stop`.
use Rattle.std.proofs.Common.{Bool, Fits, List, ap, arith, bit_and, bit_or, cond, drop, eqb, false, length, lit<, lit≤}
use Rattle.std.proofs.Common.{map, map-id, not, refl, replicate, suc, take, true, w64, w8, zero, [], ℕ, ◌%◌, ◌&&◌, ◌*◌}
use Rattle.std.proofs.{Common.{◌+◌, ◌-◌, ◌/◌, ◌<◌, ◌==◌, ◌^◌, ◌||◌, ◌∙◌, ◌∷◌, ◌≡◌, ◌≤◌}, Math.Nat.{pow-succ'}}
use Rattle.std.proofs.lemmas.{Bool.{and_parts, cases_Bool, eqb-true}, Nat.{and_mod, and_shr, or_mod, or_shr, pow_pos}}
use Rattle.std.proofs.lemmas.{Nat.Bits.{ones_shr}, Simd.{bitmask_splat, leading_from_mask_l, mask_l-lt}}
use Rattle.std.{proofs.lemmas.Simd.{trailing_mask_l}, specs.Int.Count.{count_trailing_zeros}, specs.List.{prefix_len}}
use Rattle.data_url.proofs.escapes.{EscapeDigits.{begins_other}, Fronts.{dropped, dropped_escape, dropped_other}}
use Rattle.data_url.{proofs.escapes.Fronts.{first_stays}, specs.Percent.{begins_with_escape}}
use Rattle.data_url.specs.Steps.{Escapes.{escape_starts, is_unsure, packed_values, place_values, stops}, Groups.{clear}}
use Rattle.data_url.specs.{Steps.Window.{is_marked}, Url.{is_tab_or_newline}}
use lib.Lanes.{mask_l, top, zip2}

-- the bits of the '%', of the '#', and of the tabs and newlines of a text
abbrev percents : List ℕ → ℕ
percents s = mask_l (map (λ b. b == 37) s)

abbrev hashes : List ℕ → ℕ
hashes s = mask_l (map (λ b. b == 35) s)

abbrev tabs : List ℕ → ℕ
tabs s = mask_l (map is_tab_or_newline s)

-- lanes that are equal to one number
pub equal_mask : (s : List ℕ) (n : ℕ) → length s ≡ 64
    → mask_l (map (top 7) (zip2 (λ a b. cond (eqb a b) 255 0) s (replicate 64 n))) % 2 ^ 64
    ≡ mask_l (map (λ b. b == n) s)
equal_mask s n long = bitmask_splat w8 eqb s 64 n long (lit≤ tt)

-- a mark is one of the three
mark_is : (b : ℕ) → cond (is_marked b) 1 0 ≡ cond (b == 37) 1 0 + (cond (b == 35) 1 0 + cond (is_tab_or_newline b) 1 0)
mark_is b = grind (arith, cases_Bool (b == 37), cases_Bool (b == 35), cases_Bool (is_tab_or_newline b))

pub marks_are : (s : List ℕ) → mask_l (map is_marked s) ≡ percents s + (hashes s + tabs s)
marks_are [] = refl
marks_are (b ∷ s) = omega (arith, mark_is b, marks_are s)

-- the last bit of a mask, and the others
last_bit : (x : Bool) (n : ℕ) → (cond x 1 0 + 2 * n) % 2 ≡ cond x 1 0
last_bit x n = grind (arith, cases_Bool x)

half_mask : (x : Bool) (n : ℕ) → (cond x 1 0 + 2 * n) / 2 ≡ n
half_mask x n = grind (arith, cases_Bool x)

-- the bits of the last two bytes of a text
abbrev is_late : List ℕ → Bool
is_late [] = true
is_late (a ∷ []) = true
is_late (a ∷ b ∷ s) = false

abbrev late : List ℕ → ℕ
late [] = 0
late (b ∷ s) = cond (is_late s) 1 0 + 2 * late s

late_is : (s : List ℕ) (n : ℕ) → length s ≡ n + 2 → late s ≡ 3 * 2 ^ n
late_is [] n l = grind arith
late_is (a ∷ []) n l = grind arith
late_is (a ∷ b ∷ []) n l = grind arith
late_is (a ∷ b ∷ c ∷ s) zero l = grind arith
late_is (a ∷ b ∷ c ∷ s) (suc n) l = omega (arith, late_is (b ∷ c ∷ s) n (omega (arith, l)), pow-succ' 2 n)

-- the bits of the '%' that are before a tab or newline that is one of the next two bytes, or are among the last two
abbrev near : ℕ → ℕ → ℕ → ℕ
near p t l = bit_and p (bit_or (bit_or (t / 2) (t / 4)) l)

near_half : (p t l : ℕ) → near p t l / 2 ≡ near (p / 2) (t / 2) (l / 2)
near_half p t l =
    let q : t / 4 / 2 ≡ t / 2 / 4 = omega arith in
    cc (and_shr p (bit_or (bit_or (t / 2) (t / 4)) l) 1, or_shr (bit_or (t / 2) (t / 4)) l 1, or_shr (t / 2) (t / 4) 1)

near_last : (p t l : ℕ) → near p t l % 2 ≡ bit_and (p % 2) (bit_or (bit_or (t / 2 % 2) (t / 4 % 2)) (l % 2))
near_last p t l =
    cc (and_mod p (bit_or (bit_or (t / 2) (t / 4)) l) 1, or_mod (bit_or (t / 2) (t / 4)) l 1, or_mod (t / 2) (t / 4) 1)

-- such a bit, by the bits of the next two bytes
near_bit : (x y z l : Bool) → bit_and (cond x 1 0) (bit_or (bit_or (cond y 1 0) (cond z 1 0)) (cond l 1 0))
    ≡ cond (x && ((y || z) || l)) 1 0
near_bit x y z l = grind (arith, cases_Bool x, cases_Bool y, cases_Bool z, cases_Bool l)

-- whether the first byte of a text is a tab or newline
abbrev first_passes : List ℕ → Bool
first_passes [] = false
first_passes (a ∷ s) = is_tab_or_newline a

unsure_is : (s : List ℕ) → ((first_passes s || first_passes (drop 1 s)) || is_late s) ≡ is_unsure s
unsure_is [] = refl
unsure_is (a ∷ []) = grind (arith, cases_Bool (is_tab_or_newline a))
unsure_is (a ∷ b ∷ s) = grind (arith, cases_Bool (is_tab_or_newline a), cases_Bool (is_tab_or_newline b))

first_is : (s : List ℕ) → tabs s % 2 ≡ cond (first_passes s) 1 0
first_is [] = refl
first_is (a ∷ s) = last_bit (is_tab_or_newline a) (tabs s)

second_is : (s : List ℕ) → tabs s / 2 % 2 ≡ cond (first_passes (drop 1 s)) 1 0
second_is [] = refl
second_is (a ∷ s) = grind (arith, half_mask (is_tab_or_newline a) (tabs s), first_is s)

-- the bits of a text are those of its first byte and of the text after it
abbrev nears : List ℕ → ℕ
nears s = near (percents s) (tabs s) (late s)

near_first : (b : ℕ) (s : List ℕ) → nears (b ∷ s) % 2 ≡ cond ((b == 37) && is_unsure s) 1 0
near_first b s =
    let half = half_mask (is_tab_or_newline b) (tabs s) in
    let quarter : tabs (b ∷ s) / 4 ≡ tabs s / 2 = omega (arith, half) in
    let last = near_last (percents (b ∷ s)) (tabs (b ∷ s)) (late (b ∷ s)) in
    let bit = near_bit (b == 37) (first_passes s) (first_passes (drop 1 s)) (is_late s) in
    cc (last_bit (b == 37) (percents s), last_bit (is_late s) (late s), first_is s, second_is s, unsure_is s)

near_more : (b : ℕ) (s : List ℕ) → nears (b ∷ s) / 2 ≡ nears s
near_more b s =
    let half = near_half (percents (b ∷ s)) (tabs (b ∷ s)) (late (b ∷ s)) in
    cc (half_mask (b == 37) (percents s), half_mask (is_tab_or_newline b) (tabs s), half_mask (is_late s) (late s))

-- a byte is not both '#' and '%'
stop_bit : (b : ℕ) (x : Bool) → cond ((b == 35) || ((b == 37) && x)) 1 0
    ≡ cond (b == 35) 1 0 + cond ((b == 37) && x) 1 0
stop_bit b x = grind (arith, cases_Bool (b == 35), cases_Bool (b == 37), cases_Bool x)

-- the stops of a text
stops_split : (s : List ℕ) → mask_l (stops s) ≡ hashes s + nears s
stops_split [] = refl
stops_split (b ∷ s) = omega (arith, stop_bit b (is_unsure s), stops_split s, near_first b s, near_more b s)

-- there are as many stops as bytes
pub length-stops : (s : List ℕ) → length (stops s) ≡ length s
length-stops [] = refl
length-stops (b ∷ s) = ap suc (length-stops s)

-- the tabs and newlines are the marks without '%' and '#'
pub tabs_are : (s : List ℕ) (marks pcts hs : ℕ) → marks ≡ mask_l (map is_marked s) → pcts ≡ percents s
    → hs ≡ hashes s → marks - pcts - hs ≡ tabs s
tabs_are s marks pcts hs m p h = omega (arith, m, p, h, marks_are s)

-- the stops of a block, from the bits of its '%', '#', and tabs and newlines
pub stops_are : (s : List ℕ) (pcts ts hs : ℕ) → length s ≡ 64 → pcts ≡ percents s → hs ≡ hashes s → ts ≡ tabs s
    → hs + bit_and pcts (bit_or (bit_or (ts / 2) (ts / 4)) (3 * 2 ^ 62)) ≡ mask_l (stops s)
stops_are s pcts ts hs long p h t = let l = late_is s 62 (omega (arith, long)) in cc (stops_split s)

-- they are bits of a block
pub stops_fit : (s : List ℕ) → length s ≡ 64 → {n : ℕ} → n ≡ mask_l (stops s) → Fits w64 n
stops_fit s long {n} e =
    let size = ap (λ k. 2 ^ k) (length-stops s ∙ long) in record { fits = omega (arith, e, mask_l-lt (stops s), size) }

-- if all marks of a block are '%'
pub no_stops : (s : List ℕ) (marks pcts : ℕ) → length s ≡ 64 → marks ≡ mask_l (map is_marked s) → pcts ≡ percents s
    → marks - pcts ≡ 0 → (0 ≡ tabs s) × (bit_and pcts (3 * 2 ^ 62) ≡ mask_l (stops s))
no_stops s marks pcts long m p n =
    let h : 0 ≡ hashes s = omega (arith, m, p, n, marks_are s) in
    let t : 0 ≡ tabs s = omega (arith, m, p, n, marks_are s) in
    (t, omega (arith, stops_are s pcts 0 0 long p h t))

-- the number of bytes before the first stop
pub zeros_before : (bits : List Bool) → length bits ≡ 64 → count_trailing_zeros 64 (mask_l bits) ≡ prefix_len not bits
unfolding count_trailing_zeros
zeros_before bits long =
    let none : count_trailing_zeros 64 0 ≡ 64 = refl in
    grind (arith, trailing_mask_l (λ b. b) 64 bits, leading_from_mask_l (λ b. b) bits, map-id bits)

-- without '%' there is no escape
pub none_start : (s : List ℕ) (pcts : ℕ) → pcts ≡ percents s → pcts ≡ 0
    → (s ≡ place_values s) × (0 ≡ mask_l (escape_starts s))
none_start [] pcts p n = (refl, refl)
none_start (b ∷ s) pcts p n =
    grind (arith, cases_Bool (b == 37), begins_other b s, first_stays b s, none_start s (percents s) refl)

-- the bits of the bytes that are dropped are as many as the bytes
dropped_few : (s : List ℕ) → dropped s < 2 ^ length s
dropped_few [] = lit< tt
dropped_few (a ∷ []) = grind (arith, dropped_other a [], cases_Bool (is_tab_or_newline a))
dropped_few (a ∷ b ∷ []) =
    grind (arith, dropped_other a (b ∷ []), cases_Bool (is_tab_or_newline a), dropped_few (b ∷ []))
dropped_few (a ∷ b ∷ c ∷ s) =
    let few = dropped_few s in
    let more = dropped_few (b ∷ c ∷ s) in
    let begins = cases_Bool (begins_with_escape (a ∷ b ∷ c ∷ s)) in
    let tab = cases_Bool (is_tab_or_newline a) in
    grind (arith, and_parts, eqb-true a 37, dropped_escape b c s, dropped_other, pow-succ')

-- the items whose bits are 0, if all bits after the first ones are set
clear_front : (xs : List ℕ) (m used : ℕ) → used ≤ length xs
    → clear xs (bit_or m (2 ^ length xs - 2 ^ used)) ≡ clear (take used xs) m
clear_front [] m used l = grind arith
clear_front (x ∷ xs) m zero l =
    let more = clear_front xs (m / 2) 0 (omega arith) in
    let bits = or_mod m (2 ^ suc (length xs) - 1) 1 in
    let half = or_shr m (2 ^ suc (length xs) - 1) 1 in
    grind (arith, pow-succ' 2 (length xs), pow_pos (length xs))
clear_front (x ∷ xs) m (suc used) l =
    let more = clear_front xs (m / 2) used (omega arith) in
    let bits = or_mod m (2 ^ suc (length xs) - 2 ^ suc used) 1 in
    let half = or_shr m (2 ^ suc (length xs) - 2 ^ suc used) 1 in
    grind (arith, pow-succ' 2 (length xs), pow-succ' 2 used)

-- there are as many values as bytes
length-places : (s : List ℕ) → length (place_values s) ≡ length s
length-places [] = refl
length-places (b ∷ s) = ap suc (length-places s)

-- so of the values of a block those before the first stop are written
pub front_put : (v values : List ℕ) (begin ts used : ℕ) → length v ≡ 64 → used ≤ 64 → values ≡ place_values v
    → begin ≡ mask_l (escape_starts v) → ts ≡ tabs v
    → clear values (bit_or (6 * begin + ts) (2 ^ 64 - 1 - (2 ^ 64 - 1) / 2 ^ (64 - used))) ≡ packed_values v used
front_put v values begin ts used long l vs ss t =
    let size : length values ≡ 64 = ap length vs ∙ length-places v ∙ long in
    let width : 64 - (64 - used) ≡ used = omega arith in
    let ones = ones_shr 64 (64 - used) (omega arith) in
    let high : 2 ^ 64 - 1 - (2 ^ 64 - 1) / 2 ^ (64 - used) ≡ 2 ^ length values - 2 ^ used =
    omega (arith, ones, ap (λ n. 2 ^ n) width, ap (λ n. 2 ^ n) size, pow_pos used) in
    cc (clear_front values (6 * begin + ts) used (omega arith))

-- the bits of the bytes that are dropped of a block fit a number of 64 bits
pub dropped_fits : (s : List ℕ) → length s ≡ 64 → 6 * mask_l (escape_starts s) + tabs s < 2 ^ 64
dropped_fits s long = omega (arith, dropped_few s, ap (λ n. 2 ^ n) long)

-- the lemmas for `stops_of` and `pack_to_stop`
pub ruleset stop_bits = (dropped_fits, marks_are, no_stops)
