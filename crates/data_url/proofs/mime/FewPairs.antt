-- Which parameters are kept as slices. For `few.rt`.
use Rattle.std.proofs.Common.{◌≡◌, ◌++◌, ◌+◌, ◌<◌, ◌∷◌, ◌⊎◌, ◌∙◌, ◌↔◌, [], Bool, IsTrue, List, None, Option, Some, ℕ}
use Rattle.std.proofs.Common.{append-nil, ap, arith, false, length, length-append, length-take-le, map, set, sym, true}
use Rattle.std.proofs.lemmas.{List.{length-map, length-set, map-append, take_more_set}, List.Folds.{list_all-append}}
use Rattle.std.proofs.lemmas.Slice.Eq.{bytes_eq-Decides}
use Rattle.std.specs.{Char.{to_ascii_lowercase}, Str.{IsUtf8, bytes_eq, chars}}
use Rattle.data_url.specs.Mime.{Pair, has_name, is_token_text}
use Rattle.data_url.specs.Steps.Few.{AreTokens, kept_of, sliced_pair, sliced_pairs, value_text}
use Rattle.data_url.specs.Steps.Parsing.{pair_if, unless_named, value_of}
use Rattle.data_url.specs.declared.mime.few.FewParameters.{FewParameters}
use Rattle.data_url.specs.declared.mime.few.NameAndValue.{NameAndValue}
use Rattle.data_url.proofs.mime.FirstNames.{token_text_lower}
use Rattle.data_url.proofs.mime.TokenTexts.{bytes_of_ascii, token_text_ascii}

-- two token texts are equal in lower case exactly if their bytes are
pub same_name : (b : Bool) (xs ys : List ℕ) → IsUtf8 xs → IsUtf8 ys
    → is_token_text (chars xs) ≡ true → is_token_text (chars ys) ≡ true
    → (IsTrue b ↔ (map to_ascii_lowercase xs ≡ map to_ascii_lowercase ys))
    → b ≡ bytes_eq (map to_ascii_lowercase (chars xs)) (map to_ascii_lowercase (chars ys))
same_name b xs ys u v g h e = grind (arith, bytes_eq-Decides, bytes_of_ascii, token_text_ascii)

-- no pair is added if its name is not a token text, if one of the pairs has its name, or if there is no value
pub no_pair_added : (pairs : List Pair) (n : List ℕ) (o : Option (List ℕ))
    → (is_token_text n ≡ false) ⊎ ((has_name n pairs ≡ true) ⊎ (o ≡ None))
    → pairs ≡ pairs ++ unless_named pairs (pair_if n o)
no_pair_added pairs n None h = sym (append-nil pairs)
no_pair_added pairs n (Some v) h = grind (arith, append-nil)

-- with eight pairs, a pair with a new name and a value is one too many
pub no_room : (few : FewParameters) (n v : List ℕ) (o : Option (List ℕ)) → AreTokens few → few.len ≡ 8
    → is_token_text n ≡ true → has_name (map to_ascii_lowercase n) (sliced_pairs few) ≡ false → o ≡ Some v
    → 8 < length (sliced_pairs few ++ unless_named (sliced_pairs few) (pair_if (map to_ascii_lowercase n) o))
no_room few n v o x l t h e =
    let one : Pair = (map to_ascii_lowercase n, v) in
    let pair : unless_named (sliced_pairs few) (pair_if (map to_ascii_lowercase n) o) ≡ one ∷ [] =
    grind (arith, token_text_lower) in
    let kept : length (sliced_pairs few) ≡ 8 =
    length-map (kept_of few) (λ s. sliced_pair s) ∙ length-take-le few.len few.slices (omega (arith, x.room, l)) ∙ l in
    rw pair (omega (arith, kept, length-append (sliced_pairs few) (one ∷ [])))

-- a pair with a new name and a value is added, if there is room for it
pub one_pair_added : (few few' : FewParameters) (s : NameAndValue) → AreTokens few → few.len < 8
    → is_token_text (chars s.name.now) ≡ true
    → has_name (map to_ascii_lowercase (chars s.name.now)) (sliced_pairs few) ≡ false
    → value_of s.value ≡ Some (value_text s.value)
    → few'.slices ≡ set few.slices few.len s → few'.len ≡ few.len + 1
    → (sliced_pairs few' ≡ sliced_pairs few ++ unless_named (sliced_pairs few)
    (pair_if (map to_ascii_lowercase (chars s.name.now)) (value_of s.value))) × AreTokens few'
one_pair_added few few' s x l t h v e f =
    let kept : kept_of few' ≡ kept_of few ++ (s ∷ []) = grind (arith, take_more_set, x.room) in
    let pairs : sliced_pairs few' ≡ sliced_pairs few ++ (sliced_pair s ∷ []) =
    ap (map (λ s. sliced_pair s)) kept ∙ map-append (λ s. sliced_pair s) (kept_of few) (s ∷ []) in
    let pair : pair_if (map to_ascii_lowercase (chars s.name.now)) (value_of s.value) ≡ sliced_pair s ∷ [] =
    grind (arith, token_text_lower) in (
      grind arith,
      record {
        room = ap length e ∙ length-set few.slices few.len s ∙ x.room;
        within = omega arith;
        tokens = grind (arith, list_all-append, kept, x.tokens);
      },
    )
