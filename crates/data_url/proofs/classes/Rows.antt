-- Classes of bytes, sixteen at a time, and a row made of two. For `classes`, `lanes`, `values` and `percent.rt`.
use Rattle.std.proofs.Common.{bit_and, true, false, sym, ap, ◌∙◌, ⊎_elim, arith, w8, ◌==◌, ◌||◌, not, drop, length}
use Rattle.std.proofs.Common.{length-drop, length-take-le, eqb-true, refl, slice_index, ◌≡◌, ℕ, ◌+◌, ◌%◌, ◌^◌, ◌<◌, ◌≤◌}
use Rattle.std.proofs.Common.{Bool, List, [], ◌∷◌, cond, map, replicate, take, bit_or, eqb, ◌&&◌, ◌++◌, nat_lt, suc}
use Rattle.std.proofs.Common.{zero}
use Rattle.std.proofs.lemmas.Simd.{bitmask_splat, map-map, none_from_empty_mask, run_in_chunk_fails, trailing_mask_l}
use Rattle.std.proofs.lemmas.{List.Sums.{prefix_len-le-length}, Bool.{agree_below, agree_below_at, cases_lt}}
use Rattle.std.proofs.{lemmas.Bool.{false≢true}, lemmas.List.{length-map}, Math.Bool.{and_assoc}}
use Rattle.std.specs.{Int.Count.{count_trailing_zeros}, List.{prefix_len, list_all, range_with_len}}
use Rattle.data_url.specs.{Steps.Classes.{AreOf, classified, may_be_outside}, declared.classes.TheConstants.{CLASSES}}
use Rattle.data_url.proofs.forgiving_base64.Vectors.{differs, or_zero}
use lib.Lanes.{fold_l, mask_l, sel_l, top, zip2}

-- the bits of the items that differ from 0 are the mask of the marked ones of n bytes
pub marks_are : (n : ℕ) (class_table v found : List ℕ) → n ≤ 64 → length v ≡ n → found ≡ map (classified class_table) v
    → mask_l (map (top 7) (zip2 (λ a b. cond (differs a b) 255 0) found (replicate n 0))) % 2 ^ 64
    ≡ mask_l (map (may_be_outside class_table) v)
marks_are n class_table v found few long e =
    let size = ap length e ∙ length-map v (classified class_table) ∙ long in
    cc (
      bitmask_splat w8 differs found n 0 size few,
      e,
      map-map (λ x. differs x 0) (classified class_table) v,
    )

-- the bitwise or of a number and of what is computed from bytes is 0 exactly if all of these are
or_all : (f : ℕ → ℕ) (a : ℕ) (v : List ℕ)
    → eqb (fold_l bit_or a (map f v)) 0 ≡ (eqb a 0 && list_all (λ b. not (not (eqb (f b) 0))) v)
or_all f a [] = grind arith
or_all f a (x ∷ v) = grind (arith, or_all f (bit_or a (f x)) v, or_zero a (f x), and_assoc)

-- the bitwise or of all items is 0 exactly if no byte is marked
pub unmarked_is : (class_table v found : List ℕ) → found ≡ map (classified class_table) v
    → eqb (fold_l bit_or 0 found) 0 ≡ list_all (λ b. not (may_be_outside class_table b)) v
unmarked_is class_table v found e = ap (λ l. eqb (fold_l bit_or 0 l) 0) e ∙ or_all (classified class_table) 0 v

-- for each of n indices from i on, whether it is less than p
abbrev are_before : ℕ → ℕ → ℕ → List Bool
are_before p i n = map (λ k. top 7 (cond (nat_lt k p) 255 0)) (range_with_len i n)

-- items whose index is not less than p come from the second list
sel_after : (p i : ℕ) (xs ys : List ℕ) → length xs ≡ length ys → p ≤ i → sel_l (are_before p i (length xs)) xs ys ≡ ys
sel_after p i [] [] e l = refl
sel_after p i [] (y ∷ ys) e l = absurd (omega arith)
sel_after p i (x ∷ xs) [] e l = absurd (omega arith)
sel_after p i (x ∷ xs) (y ∷ ys) e l = grind (arith, sel_after p (suc i) xs ys)

-- the first q items come from the first list
sel_from : (p i q : ℕ) (xs ys : List ℕ) → length xs ≡ length ys → p ≡ i + q
    → sel_l (are_before p i (length xs)) xs ys ≡ take q xs ++ drop q ys
sel_from p i zero xs ys e l = grind (arith, sel_after)
sel_from p i (suc q) [] [] e l = refl
sel_from p i (suc q) [] (y ∷ ys) e l = absurd (omega arith)
sel_from p i (suc q) (x ∷ xs) [] e l = absurd (omega arith)
sel_from p i (suc q) (x ∷ xs) (y ∷ ys) e l = grind (arith, sel_from p (suc i) q xs ys)

-- the first of n items, and then those of another list
pub sel_before : (n : ℕ) (xs ys : List ℕ) (p : ℕ) → length xs ≡ n → length ys ≡ n → p ≤ n
    → sel_l (are_before p 0 n) xs ys ≡ take p xs ++ drop p ys
sel_before n xs ys p e h l = grind (arith, sel_from p 0 p xs ys (e ∙ sym h) (omega arith))

-- the bytes before a place are of a class
pub record Looked (class_table bytes : List ℕ) (at : ℕ) : Type 0 where
  pub within : at ≤ length bytes
  pub front : AreOf class_table bytes at

-- a mask is 0 exactly if no item passes
mask_zero : (p : ℕ → Bool) (xs : List ℕ) → (mask_l (map p xs) == 0) ≡ list_all (λ x. not (p x)) xs
mask_zero p [] = refl
mask_zero p (x ∷ xs) = grind (arith, mask_zero p xs)

module _ (class_table bytes : List ℕ) (at : ℕ) {row : List ℕ} {b : Bool} (h : Looked class_table bytes at)
    (room : at + 16 ≤ length bytes)
    (r : row ≡ take 16 (drop at bytes)) (e : b ≡ list_all (λ x. not (may_be_outside class_table x)) row) where
  -- so is the mask of a row
  row_mask : (mask_l (map (may_be_outside class_table) (take 16 (drop at bytes))) == 0) ≡ b
  row_mask = grind (arith, mask_zero)

  -- if a row has no marked byte, the bytes before the end of the row are of the class, too
  pub one_row_more : b ≡ true → Looked class_table bytes (at + 16)
  one_row_more t =
      let row = none_from_empty_mask (may_be_outside class_table) bytes at 16 0 room (eqb-true _ _ (row_mask ∙ t)) in
      let all : AreOf class_table bytes (at + 16) = λ k l. ⊎_elim (h.front k) (λ (m : at ≤ k). row k m l)
      (cases_lt k at) in
      record { within = room; front = all }

  -- otherwise, so are those before the first marked byte of the row
  pub row_front : (n : ℕ) → b ≡ false → n ≡ count_trailing_zeros 64 (mask_l (map (may_be_outside class_table) row))
      → (n ≤ 16) × Looked class_table bytes (at + n)
  row_front n t f =
      let found = take 16 (drop at bytes) in
      let p : ℕ → Bool = may_be_outside class_table in
      let long = length-take-le 16 (drop at bytes) (omega (arith, length-drop {A = ℕ})) in
      let some : 0 < mask_l (map p found) = grind (arith, row_mask, t) in
      let counted : n ≡ prefix_len (λ x. not (p x)) found = grind (arith, count_trailing_zeros, trailing_mask_l) in
      let few = prefix_len-le-length (λ x. not (p x)) found in
      let before = run_in_chunk_fails p bytes at 16 n 0 room counted in
      let all : AreOf class_table bytes (at + n) = λ k l. ⊎_elim (h.front k) (λ (m : at ≤ k). before k m l)
      (cases_lt k at)
      in
      (omega arith, record { within = omega arith; front = all })

-- if the bit of each byte's entry in CLASSES agrees with the test p, it is set for a byte exactly if the byte passes
pub entry_is : (p : ℕ → Bool) (bit : ℕ) → agree_below (λ b. not (bit_and (slice_index CLASSES b) bit == 0)) p 256 ≡ true
    → (b : ℕ) → b < 256 → not (bit_and (slice_index CLASSES b) bit == 0) ≡ p b
entry_is p bit h b l = agree_below_at (λ b. not (bit_and (slice_index CLASSES b) bit == 0)) p 256 b h l

-- if each byte is marked or passes, a byte without a mark passes
pub unmarked_passes : (m p : ℕ → Bool) → agree_below (λ b. m b || p b) (λ _. true) 256 ≡ true → (b : ℕ) → b < 256
    → m b ≡ false → p b ≡ true
unmarked_passes m p h b l e = sym (ap (λ t. t || p b) e) ∙ agree_below_at (λ b. m b || p b) (λ _. true) 256 b h l

-- if each byte is marked, a byte without a mark passes any test
pub all_marked : (m p : ℕ → Bool) → agree_below m (λ _. true) 256 ≡ true → (b : ℕ) → b < 256 → m b ≡ false → p b ≡ true
all_marked m p h b l e = absurd (false≢true (sym e ∙ agree_below_at m (λ _. true) 256 b h l))
