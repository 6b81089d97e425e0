-- The complete groups at the start of a text, and the bytes of groups that are held.
use Rattle.std.specs.Char.{is_ascii_whitespace}
use Rattle.std.specs.List.{filter, list_all}
use Rattle.std.specs.Prelude.{[], if◌then◌else◌, ◌%◌, ◌++◌, ◌+◌, ◌/◌, ◌==◌, ◌||◌, ◌∷◌, ◌≡◌, ◌≤◌, Bool, IsTrue, List}
use Rattle.std.specs.Prelude.{length, map, take, ℕ}
use Rattle.data_url.specs.Base64.{groups, is_symbol, symbol_value}
use Rattle.data_url.specs.declared.forgiving_base64.held.HeldGroups.{HeldGroups}

abbrev pub is_symbol_or_space : ℕ → Bool
is_symbol_or_space b = is_symbol b || is_ascii_whitespace b

-- the items whose bits are 0, from the lowest bit on
abbrev pub clear : List ℕ → ℕ → List ℕ
clear [] bits = []
clear (x ∷ xs) bits = if bits % 2 == 0 then x ∷ clear xs (bits / 2) else clear xs (bits / 2)

-- the text has only the symbols of complete groups, and white space
pub record IsWholeGroups (text : List ℕ) : Type 0 where
  pub spaced : IsTrue (list_all is_symbol_or_space text)
  pub whole : length (filter is_symbol text) % 4 ≡ 0

-- these are the first n symbols of the text, and before the last of them is so much white space
pub record IsOverGap (n : ℕ) (text symbols : List ℕ) (spaces : ℕ) : Type 0 where
  pub within : n + spaces ≤ length text
  pub long : length symbols ≡ n
  pub spaced : IsTrue (list_all is_symbol_or_space (take (n + spaces) text))
  pub symbols_are : filter is_symbol (take (n + spaces) text) ≡ symbols

-- the text has only complete groups and white space, and held' is held followed by the bytes of these
-- groups
pub record AddsGroups (held text held' : List ℕ) : Type 0 where
  pub whole : IsWholeGroups text
  pub held_are : held' ≡ held ++ groups (map symbol_value (filter is_symbol text))

-- the bytes of the groups that are held
abbrev pub held_bytes : HeldGroups → List ℕ
held_bytes p = take p.len p.bytes
