-- Where the body of a tail ends. The tail is the input after the first comma.
use Rattle.std.specs.Prelude.{[], ◌∷◌, ◌≡◌, ◌≤◌, List, None, Option, Some, drop, length, ℕ}
use Rattle.data_url.specs.Url.{after, number_sign}

-- the text is empty or begins with '#'
abbrev pub BeginsFragment : List ℕ → Type 0
BeginsFragment [] = Unit {0}
BeginsFragment (b ∷ s) = b ≡ number_sign

-- the fragment, if the text begins with its '#'
abbrev pub rest_fragment : List ℕ → Option (List ℕ)
rest_fragment [] = None
rest_fragment (b ∷ s) = Some s

-- the body of the tail ends at the index: the tail ends there, or '#' and the fragment follow
pub record IsBodyEnd (tail : List ℕ) (place : ℕ) : Type 0 where
  pub within : place ≤ length tail
  pub begins : BeginsFragment (drop place tail)
  pub after_is : after number_sign tail ≡ rest_fragment (drop place tail)
