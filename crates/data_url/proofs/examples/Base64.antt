-- Base64 texts and what the definitions say about them, by computation.
use Rattle.std.proofs.Common.{refl, ◌≡◌, ℕ, Bool, true, false, List, [], ◌∷◌, ◌++◌, Option, None, Some, codes, map}
use Rattle.std.proofs.Common.{replicate}
use Rattle.data_url.specs.Base64.{Kind, complete_bytes, decoded, first_fault, is_valid, kind_of, left_padding}
use Rattle.data_url.specs.Base64.{left_symbols, left_text}
use Rattle.data_url.specs.declared.forgiving_base64.InvalidBase64Details.TheVariants.{AlphabetSymbolAfterPadding}
use Rattle.data_url.specs.declared.forgiving_base64.InvalidBase64Details.TheVariants.{LoneAlphabetSymbol, Padding}
use Rattle.data_url.specs.declared.forgiving_base64.InvalidBase64Details.TheVariants.{UnexpectedSymbol}
use Rattle.data_url.proofs.examples.Literals.{on_literals}

-- valid texts, each with its bytes; the last has both ends of each range of the alphabet
abbrev valid_texts : List (List ℕ × List ℕ)
valid_texts =
    ([], [])
    ∷ (codes "YR", 97 ∷ [])
    ∷ (codes "Y Q = =", 97 ∷ [])
    ∷ (codes "Q" ++ 12 ∷ codes "Q", 65 ∷ [])
    ∷ (codes "YWJ=", codes "ab")
    ∷ (codes "AZaz09+/", 1 ∷ 150 ∷ 179 ∷ 211 ∷ 223 ∷ 191 ∷ [])
    ∷ []

-- each valid text is valid, and has its bytes
valid : map {B = Bool × List ℕ} (λ row. (is_valid row.0, decoded row.0)) valid_texts ≡ map (λ row. (true, row.1))
    valid_texts
unfolding on_literals
valid = refl

-- more '=' than a byte can count
abbrev many_pads : List ℕ
many_pads = codes "QQ" ++ replicate 258 61

-- texts that are not valid, each with the place of its first fault, the kind of its fault, and the bytes of the groups
-- before the fault
abbrev other_texts : List (List ℕ × Option ℕ × Kind × List ℕ)
other_texts =
    (codes "ab=", None, Padding, [])
    ∷ (codes "ab==c", Some 4, AlphabetSymbolAfterPadding, [])
    ∷ (codes "a", None, LoneAlphabetSymbol, [])
    ∷ (many_pads, None, Padding, [])
    ∷ (codes "QUJD=", None, Padding, codes "ABC")
    ∷ (codes "=!", Some 1, UnexpectedSymbol 33, [])
    ∷ (255 ∷ [], Some 0, UnexpectedSymbol 255, [])
    ∷ (codes "QUJDQ!UJDQUJD", Some 5, UnexpectedSymbol 33, codes "ABC")
    ∷ []

-- each of these texts is not valid, and has its fault
not_valid : map {B = Bool × Option ℕ × Kind × List ℕ}
    (λ row. (is_valid row.0, first_fault row.0, kind_of row.0, complete_bytes row.0)) other_texts
    ≡ map (λ row. (false, row.1, row.2, row.3)) other_texts
unfolding on_literals
not_valid = refl

-- what is left over of a text: symbols in order, and '=' counted up to three
left : (left_text (left_symbols (codes "QUJDY W=")) (left_padding (codes "QUJDY W=")) ≡ codes "YW=")
    × (left_padding many_pads ≡ 3)
unfolding on_literals
left = (refl, refl)
