-- Rows of symbols with white space between them: the bits of the others, and what is left without them. For `gaps.rt`.
use Rattle.std.proofs.Common.{List, [], ◌∷◌, ◌++◌, map, ◌≡◌, ℕ, true, false, cond, eqb, length, ap, ◌+◌, ◌*◌, ◌/◌, ◌^◌}
use Rattle.std.{proofs.Common.{Bool, refl, sym, ◌∙◌, arith, ◌&&◌}, proofs.Math.Nat.{div-div-eq-div-mul, pow-succ'}}
use Rattle.std.{proofs.lemmas.Bool.{eqb-true, true≢false}, specs.List.{filter}}
use Rattle.data_url.specs.{Base64.{is_symbol}, Steps.Groups.{clear}}
use Rattle.data_url.proofs.forgiving_base64.Vectors.{is_other, others_mask}

-- Bits that are 0

-- mapping the items whose bits are 0 is mapping all items first
pub clear_map : (f : ℕ → ℕ) (xs : List ℕ) (m : ℕ) → clear (map f xs) m ≡ map f (clear xs m)
clear_map f [] m = refl
clear_map f (x ∷ xs) m = grind (arith, clear_map f xs (m / 2))

-- the items of two lists whose bits are 0
pub clear_append : (xs ys : List ℕ) (m : ℕ) → clear (xs ++ ys) m ≡ clear xs m ++ clear ys (m / 2 ^ length xs)
clear_append [] ys m = ap (clear ys) (omega arith)
clear_append (x ∷ xs) ys m =
    let half : m / 2 ^ length (x ∷ xs) ≡ m / 2 / 2 ^ length xs =
    ap (λ k. m / k) (pow-succ' 2 (length xs)) ∙ sym (div-div-eq-div-mul m 2 (2 ^ length xs)) in
    grind (arith, clear_append xs ys (m / 2), half)

-- the last bit of a mask is that of the first item
pub clear_bit : (b : Bool) (x : ℕ) (xs : List ℕ) (m : ℕ)
    → clear (x ∷ xs) (cond b 1 0 + 2 * m) ≡ cond b (clear xs m) (x ∷ clear xs m)
clear_bit true x xs m = grind arith
clear_bit false x xs m = grind arith

-- the bytes whose bits are 0 in the mask of the others are the symbols
pub clear_mask : (v : List ℕ) → clear v (others_mask v) ≡ filter is_symbol v
clear_mask [] = refl
clear_mask (x ∷ v) = grind (arith, clear_bit (is_other x) x v (others_mask v), clear_mask v)

-- Equal lists

-- whether two lists are equal
abbrev pub alike : List ℕ → List ℕ → Bool
alike [] [] = true
alike [] (y ∷ ys) = false
alike (x ∷ xs) [] = false
alike (x ∷ xs) (y ∷ ys) = eqb x y && alike xs ys

-- lists that are alike are equal
pub alike_same : (xs ys : List ℕ) → alike xs ys ≡ true → xs ≡ ys
alike_same [] [] h = refl
alike_same [] (y ∷ ys) h = absurd (true≢false (sym h))
alike_same (x ∷ xs) [] h = absurd (true≢false (sym h))
alike_same (x ∷ xs) (y ∷ ys) h = grind (arith, alike_same xs ys, eqb-true x y)
