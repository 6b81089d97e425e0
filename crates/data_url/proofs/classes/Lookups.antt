-- A row that a block has four times, swizzles that look up bytes in such a block, and the first row of a block. For
-- `classes/lanes.rt`, `alphabet.rt`, `gaps.rt`, `rows.rt`, `mime/values.rt` and `escapes/lanes.rt`.
use Rattle.std.proofs.Common.{Bool, List, [], ◌∷◌, ◌++◌, map, ◌≡◌, ℕ, ◌<◌, ◌≤◌, true, eqb, get_or, Fits, w8, ap, length}
use Rattle.std.proofs.Common.{◌+◌, ◌*◌, ◌/◌, ◌%◌, refl, sym, ◌∙◌, arith, suc, take, drop, eqb-true, get_or-take}
use Rattle.std.proofs.lemmas.{Bool.{agree_below_at}, List.Folds.{list_all-append}}
use Rattle.std.proofs.lemmas.List.{get_or-map, length-map, length-take-le, take-map}
use Rattle.std.proofs.lemmas.Simd.{SwzOk, SwzOk-from_below, pick_l-range_with_len, pick_l_left, pick_l_whole, swz_l}
use Rattle.std.specs.List.{list_all, range_with_len}
use Rattle.data_url.proofs.forgiving_base64.Vectors.{each_map}
use Rattle.data_url.specs.declared.classes.lanes.TheConstants.{FOUR_TIMES}
use lib.{Dec.{T}, Lanes.{Each1, all_below, pick_l}}

-- a row, four times
abbrev pub four_rows : List ℕ → List ℕ
four_rows row = row ++ row ++ row ++ row

-- what a swizzle of a row by four times its places is
pub four_times : (row : List ℕ) → length row ≡ 16 → pick_l 0 (row ++ row) FOUR_TIMES ≡ four_rows row
four_times row long = pick_l_left 0 row row 16 FOUR_TIMES long tt ∙ ap four_rows (pick_l_whole 0 row 16 long)

-- each item of a row that is there four times
four_at : (row : List ℕ) → length row ≡ 16 → (k : ℕ) → k < 64 → get_or (four_rows row) k 0 ≡ get_or row (k % 16) 0
four_at row long k l =
    let place = eqb-true _ _ (agree_below_at (λ k. eqb (get_or FOUR_TIMES k 0) (k % 16)) (λ _. true) 64 k refl l) in
    ap (λ t. get_or t k 0) (sym (ap four_rows (pick_l_whole 0 row 16 long)))
    ∙ get_or-map (λ k. get_or row k 0) FOUR_TIMES k 0 0 l ∙ ap (λ k. get_or row k 0) place

-- there are 64
four_long : (row : List ℕ) → length row ≡ 16 → length (four_rows row) ≡ 64
four_long row long = ap length (sym (ap four_rows (pick_l_whole 0 row 16 long)))

-- the first of them
pub first_row : (row : List ℕ) → length row ≡ 16 → take 16 (four_rows row) ≡ row
first_row row long = let whole = pick_l_whole 0 row 16 long in sym (ap (λ x. take 16 (four_rows x)) whole) ∙ whole

-- all bytes of a row pass a test exactly where all of a block do that has the row four times
pub all_in_rows : (p : ℕ → Bool) (row : List ℕ) → {w : List ℕ} → w ≡ four_rows row → list_all p w ≡ list_all p row
all_in_rows p row e = ap (list_all p) e ∙ grind (arith, list_all-append p)

-- if indices below 16 are computed from the bytes of a block, the swizzle's precondition is satisfied
pub places_ok : (g : ℕ → ℕ) (v js : List ℕ) → length v ≡ 64 → js ≡ map g v → ((x : ℕ) → x < 256 → g x < 16)
    → Each1 (Fits w8) v → SwzOk w8 16 64 0 js
places_ok g v js long e small fits =
    SwzOk-from_below w8 16 4 64 0 js refl (omega (arith, ap length e, length-map v g, long))
    (rw e (each_map (Fits w8) (λ j. j < 16) g (λ x h. small x h.fits) v fits))

-- from a lane on, a swizzle looks up the entry of each byte at its index
looked_from : (t : List ℕ) (g : ℕ → ℕ) → 16 ≤ length t → ((x : ℕ) → x < 256 → g x < 16) → (v : List ℕ)
    → Each1 (Fits w8) v → (i : ℕ) → i + length v ≤ 64
    → swz_l w8 16 (four_rows (take 16 t)) i (map g v) ≡ map (λ x. get_or t (g x) 0) v
looked_from t g long small [] fits i l = refl
looked_from t g long small (b ∷ v) fits i l =
    let rest = looked_from t g long small v fits.1 (suc i) (omega (arith, l)) in
    let j = small b fits.0.fits in
    let within : 16 * (i / 16) + g b < 64 = omega (arith, l, j) in
    let lane : (16 * (i / 16) + g b) % 16 ≡ g b = omega (arith, j) in
    let entry = four_at (take 16 t) (length-take-le 16 t long) (16 * (i / 16) + g b) within
    ∙ ap (λ k. get_or (take 16 t) k 0) lane ∙ get_or-take 16 t (g b) 0 j in
    grind (arith, rest, j, entry)

-- a swizzle looks up the entry of each byte at its index
pub looked_up : (t : List ℕ) (g : ℕ → ℕ) (v js : List ℕ) → length v ≡ 64 → 16 ≤ length t → Each1 (Fits w8) v
    → js ≡ map g v → ((x : ℕ) → x < 256 → g x < 16)
    → swz_l w8 16 (four_rows (take 16 t)) 0 js ≡ map (λ x. get_or t (g x) 0) v
looked_up t g v js size long fits e small =
    ap (swz_l w8 16 (four_rows (take 16 t)) 0) e ∙ looked_from t g long small v fits 0 (omega (arith, size))

-- a part of 16 lanes of a block, as lanes extract it
abbrev pub extracted : ℕ → List ℕ → List ℕ
extracted at v = pick_l 0 (v ++ v) (range_with_len at 16)

pub extracted_is : (v : List ℕ) (at : ℕ) → length v ≡ 64 → at + 16 ≤ 64 → T (all_below 64 (range_with_len at 16))
    → extracted at v ≡ take 16 (drop at v)
extracted_is v at long room below =
    pick_l_left 0 v v 64 (range_with_len at 16) long below ∙ pick_l-range_with_len 0 v at 16 (omega (arith, long))

-- what is computed from a row that is there four times, item by item, begins with what is computed from the row
pub first_of_map : (f : ℕ → ℕ) (row w r : List ℕ) → length row ≡ 16 → w ≡ four_rows row → r ≡ map f w
    → extracted 0 r ≡ map f row
first_of_map f row w r long e m =
    let size : length r ≡ 64 = ap length (m ∙ ap (map f) e) ∙ length-map (four_rows row) f ∙ four_long row long in
    extracted_is r 0 size (omega arith) tt ∙ ap (take 16) (m ∙ ap (map f) e) ∙ take-map f 16 (four_rows row)
    ∙ ap (map f) (first_row row long)
