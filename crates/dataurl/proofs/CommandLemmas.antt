-- The words of the commands.
use Rattle.std.proofs.Common.{◌≡◌, ℕ, ◌<◌, ◌≤◌, List, [], ◌∷◌, get_or, length, map, None, String, string_bytes, codes}
use Rattle.std.proofs.Common.{sym, ap, not-suc-le-zero, le_of_suc-le-suc}
use Rattle.std.proofs.lemmas.Bool.{cond-false}
use Rattle.data_url.proofs.api.{test_from_different}
use Rattle.dataurl.specs.Command.{command_of_word, command_of_words}

-- a list with exactly one word is its first word alone
one_word : {A : Type 0} (words : List A) (w : A) → 1 ≤ length words → length words < 2 → w ≡ get_or words 0 w
    → words ≡ w ∷ []
one_word [] w some few e = absurd (not-suc-le-zero some)
one_word (v ∷ []) w some few e = ap (λ x. x ∷ []) (sym e)
one_word (v ∷ u ∷ words) w some few e = absurd (not-suc-le-zero (le_of_suc-le-suc (le_of_suc-le-suc few)))

-- a text that is none of the five words is no command
no_word : (s : List ℕ) → (s ≡ codes "body" → ⊥) → (s ≡ codes "mime" → ⊥) → (s ≡ codes "fragment" → ⊥)
    → (s ≡ codes "type" → ⊥) → (s ≡ codes "base64" → ⊥) → command_of_word s ≡ None
no_word s body mime fragment type base64 =
    cc (
      cond-false _ _ _ (test_from_different s (codes "body") body),
      cond-false _ _ _ (test_from_different s (codes "mime") mime),
      cond-false _ _ _ (test_from_different s (codes "fragment") fragment),
      cond-false _ _ _
          (test_from_different s (codes "type") type),
      cond-false _ _ _ (test_from_different s (codes "base64") base64),
    )

-- one word that is not the word of a command
pub no_command : {A : Type 0} (words : List (String A)) (w : String A) (s : List ℕ) → 1 ≤ length words
    → length words < 2 → w ≡ get_or words 0 w → s ≡ string_bytes w → (s ≡ codes "body" → ⊥) → (s ≡ codes "mime" → ⊥)
    → (s ≡ codes "fragment" → ⊥) → (s ≡ codes "type" → ⊥) → (s ≡ codes "base64" → ⊥)
    → None ≡ command_of_words (map string_bytes words)
no_command words w s some few is e body mime fragment type base64 =
    sym (cc (one_word words w some few is, no_word s body mime fragment type base64))
