-- Bytes in ASCII lower case, one by one and in words of four. For `lower.rt`.
use Rattle.std.proofs.Common.{◌≡◌, ◌+◌, ◌-◌, ◌%◌, ◌<◌, ◌≤◌, ◌++◌, ◌∷◌, ◌∙◌, [], List, ap, ap₂, append_assoc, arith}
use Rattle.std.proofs.Common.{cond, eqb, eqb-true, true}
use Rattle.std.proofs.Common.{drop, get_or, length, length-drop, length-take-le, map, map-id, refl, replicate, set}
use Rattle.std.proofs.Common.{sym, take, take-add, take-take, ℕ}
use Rattle.std.proofs.Common.{Fits, w8}
use Rattle.std.proofs.lemmas.{List.{drop_more, length-map, map-append, take-map, take_more}}
use Rattle.std.proofs.lemmas.Simd.{length-put_chunk, splat_is_map, take_more_put_chunk, tops_compared, zip2_of_maps}
use Rattle.std.proofs.{Math.Dec.{ltb}, Math.Seq.{set-append_seam}, lemmas.Bool.{agree_below_at}}
use Rattle.std.specs.Char.{to_ascii_lowercase}
use Rattle.data_url.proofs.forgiving_base64.Vectors.{chosen, joined, map_agree}
use lib.Lanes.{Each1, put_chunk, sel_l, top, zip2}

-- the first bytes of a text are copied in lower case, and the rest of the output does not change
abbrev pub Lowers : List ℕ → List ℕ → ℕ → List ℕ → Type 0
Lowers bytes old n new = new ≡ map to_ascii_lowercase (take n bytes) ++ drop n old

-- one byte more
pub lowers_next : (bytes old : List ℕ) (n : ℕ) {new : List ℕ} → length bytes ≡ length old → n < length bytes
    → Lowers bytes old n new → Lowers bytes old (n + 1) (set new n (to_ascii_lowercase (get_or bytes n 0)))
lowers_next bytes old n {new} e l h =
    let done = map to_ascii_lowercase (take n bytes) in
    let b = to_ascii_lowercase (get_or bytes n 0) in
    let size : length done ≡ n =
    length-map (take n bytes) to_ascii_lowercase ∙ length-take-le n bytes (omega (arith, l)) in
    let rest : drop n old ≡ get_or old n 0 ∷ drop (n + 1) old = drop_more old n 0 (omega (arith, e, l)) in
    let lower : map to_ascii_lowercase (take (n + 1) bytes) ≡ done ++ (b ∷ []) =
    ap (map to_ascii_lowercase) (take_more bytes n 0 l)
    ∙ map-append to_ascii_lowercase (take n bytes) (get_or bytes n 0 ∷ []) in
    ap₂ (λ x i. set x i b) (h ∙ ap (λ x. done ++ x) rest) (sym size)
    ∙ set-append_seam done (get_or old n 0) (drop (n + 1) old) b
    ∙ sym (append_assoc done (b ∷ []) (drop (n + 1) old))
    ∙ ap (λ x. x ++ drop (n + 1) old) (sym lower)

-- an output that is as long as a text begins with the first bytes of the text in lower case
pub record LowersFront (bytes : List ℕ) (n : ℕ) (output : List ℕ) : Type 0 where
  pub same : length output ≡ length bytes
  pub within : n ≤ length bytes
  pub front : take n output ≡ map to_ascii_lowercase (take n bytes)

-- a word that begins before the end of what was copied, or there, is copied
pub lowers_word : (bytes : List ℕ) (n from : ℕ) {output word : List ℕ} → LowersFront bytes n output → from ≤ n
    → from + 4 ≤ length bytes → word ≡ map to_ascii_lowercase (take 4 (drop from bytes))
    → LowersFront bytes (from + 4) (put_chunk from output word)
lowers_word bytes n from {output} {word} h l m e =
    let size : length word ≡ 4 = ap length e ∙ length-map (take 4 (drop from bytes)) to_ascii_lowercase
    ∙ length-take-le 4 (drop from bytes) (omega (arith, m, length-drop from bytes)) in
    let before : take from output ≡ map to_ascii_lowercase (take from bytes) =
    sym (take-take from n output l) ∙ ap (take from) h.front ∙ take-map to_ascii_lowercase from (take n bytes)
    ∙ ap (map to_ascii_lowercase) (take-take from n bytes l) in
    record {
      same = length-put_chunk from output word ∙ h.same;
      within = m;
      front = take_more_put_chunk from output word (from + 4) (omega (arith, size)) (omega (arith, m, h.same))
          ∙ ap₂ (λ x y. x ++ y) before e
          ∙ sym (map-append to_ascii_lowercase (take from bytes) (take 4 (drop from bytes)))
          ∙ ap (map to_ascii_lowercase) (sym (take-add from 4 bytes));
    }

-- the lower case of a byte, as lanes compute it
abbrev lowered : ℕ → ℕ
lowered x = (x + cond (ltb ((x + 191) % 256) 26) 32 0) % 256

lowered_is : (b : ℕ) → b < 256 → lowered b ≡ to_ascii_lowercase b
lowered_is b l = eqb-true _ _ (agree_below_at (λ x. eqb (lowered x) (to_ascii_lowercase x)) (λ x. true) 256 b refl l)

-- lanes put a word into lower case
pub word_lower : (v : List ℕ) → length v ≡ 4 → Each1 (Fits w8) v
    → zip2 (λ a b. (a + b) % 256) v (sel_l (map (top 7) (zip2 (λ a b. cond (ltb a b) 255 0)
    (zip2 (λ a b. (a + (256 - b)) % 256) v (replicate 4 65)) (replicate 4 26))) (replicate 4 32) (replicate 4 0))
    ≡ map to_ascii_lowercase v
word_lower v long fits =
    let splat = λ (n : ℕ). splat_is_map {Y = ℕ} v 4 n long in
    let sub : ℕ → ℕ → ℕ = λ a b. (a + (256 - b)) % 256 in
    let shifted = zip2_of_maps sub (λ x. x) (λ _. 65) v (sym (map-id v)) (splat 65) in
    let upper = tops_compared w8 ltb _ (replicate 4 26)
    ∙ zip2_of_maps ltb (λ x. sub x 65) (λ _. 26) v shifted (splat 26) in
    let more = chosen (λ x. ltb (sub x 65) 26) (λ _. 32) (λ _. 0) v upper (splat 32) (splat 0) in
    joined (λ a b. (a + b) % 256) (λ x. x) (λ x. cond (ltb (sub x 65) 26) 32 0) v (sym (map-id v)) more
    ∙ map_agree lowered to_ascii_lowercase lowered_is v fits
