-- The parameters that the MIME parser keeps as slices.
use Rattle.std.specs.Char.{to_ascii_lowercase}
use Rattle.std.specs.List.{list_all}
use Rattle.std.specs.Prelude.{[], ◌++◌, ◌≡◌, ◌<◌, ◌≤◌, Bool, List, false, length, map, take, true, ℕ}
use Rattle.std.specs.Str.{chars}
use Rattle.data_url.specs.Mime.{Item, Items, Pair, is_token_text, kept_pairs}
use Rattle.data_url.specs.Steps.Parsing.{pair_in, unescaped, unless_named}
use Rattle.data_url.specs.declared.mime.few.FewParameters.{FewParameters}
use Rattle.data_url.specs.declared.mime.few.NameAndValue.{NameAndValue}
use Rattle.data_url.specs.declared.mime.parse.Parameter.{Parameter}
use Rattle.data_url.specs.declared.mime.values.Value.TheVariants as slices
use Rattle.data_url.specs.declared.mime.values.Value.{Value}

-- the text of a value, without the '\' before a code point of a quoted string
abbrev pub value_text : Value → List ℕ
value_text slices.Missing = []
value_text (slices.Unquoted text) = chars text.now
value_text (slices.Verbatim text) = chars text.now
value_text (slices.Quoted text) = unescaped false (chars text.now)

-- the pair of a name and a value that are slices
abbrev pub sliced_pair : NameAndValue → Pair
sliced_pair s = (map to_ascii_lowercase (chars s.name.now), value_text s.value)

-- the slices that are kept
abbrev pub kept_of : FewParameters → List NameAndValue
kept_of few = take few.len few.slices

-- the pairs that are kept
abbrev pub sliced_pairs : FewParameters → List Pair
sliced_pairs few = map (λ s. sliced_pair s) (kept_of few)

-- the names of slices are token texts
abbrev pub AreAllTokens : List NameAndValue → Type 0
AreAllTokens slices = list_all (λ (s : NameAndValue). is_token_text (chars s.name.now)) slices ≡ true

-- there is room for eight, and the names of those that are kept are token texts
pub record AreTokens (few : FewParameters) : Type 0 where
  pub room : length few.slices ≡ 8
  pub within : few.len ≤ 8
  pub tokens : AreAllTokens (kept_of few)

-- the pairs that are kept, and that of a parameter, if it is valid and has a new name
abbrev pub pairs_with : FewParameters → Parameter → List Pair
pairs_with few parameter = sliced_pairs few ++ unless_named (sliced_pairs few) (pair_in parameter)

-- a parameter was added, or there is no room for it, since it would be one more than eight
abbrev pub IsAdded : FewParameters → Parameter → Bool → FewParameters → Type 0
IsAdded old parameter true new = (sliced_pairs new ≡ pairs_with old parameter) × AreTokens new
IsAdded old parameter false new = 8 < length (pairs_with old parameter)

-- the pairs that are kept of the text of the parameters are kept as slices
pub record IsKept (text : List ℕ) (few : FewParameters) : Type 0 where
  pub items : List Item
  pub items_are : Items text items
  pub pairs_are : sliced_pairs few ≡ kept_pairs items
  pub tokens : AreTokens few

-- more than eight pairs are kept of the text of the parameters
abbrev pub AreMany : List ℕ → Type 0
AreMany text = (items : List Item) × Items text items × (8 < length (kept_pairs items))
