-- What the lemmas of `facts` say about the definitions of specs/.
use Rattle.std.specs.Prelude.{◌%◌, ◌++◌, ◌<◌, ◌↔◌, ◌≡◌, ◌≢◌, ◌⊎◌, Bool, IsTrue, List, None, Option, Some, false, length}
use Rattle.std.specs.{Prelude.{replicate, ℕ}, Option.{option_map}}
use Rattle.data_url.specs.{Base64.{without_whitespace, is_fault, is_symbol, is_valid}, Fetch.{before_comma}}
use Rattle.data_url.specs.{Fetch.{has_base64_suffix}, Mime.{Every, Item, Items, Parses, Record}, Url.{before, after}}
use Rattle.data_url.specs.Url.{in_path_set, percent_encoding, with_query}

-- the text is a concatenation of parameters, and has exactly one list of items
pub record HasOneItemList (r : List ℕ) : Type 0 where
  pub some : (items : List Item) × Items r items
  pub only : (a b : List Item) → Items r a → Items r b → a ≡ b

-- a text has at most one record
abbrev pub HasAtMostOneRecord : List ℕ → Type 0
HasAtMostOneRecord s = (m n : Record) → Parses s m → Parses s n → m ≡ n

-- b, without whitespace, is these symbols, followed by '=' as many times as `padding` says
pub record IsSymbolsAndPadding (b symbols : List ℕ) (padding : ℕ) : Type 0 where
  pub symbols_are : Every is_symbol symbols
  pub compact_is : without_whitespace b ≡ symbols ++ replicate padding 61

-- k symbols and p times '=' make a valid text
abbrev pub Fits : ℕ → ℕ → Type 0
Fits k p = ((p ≡ 0) × (k % 4 ≢ 1)) ⊎ ((p ≡ 1) × (k % 4 ≡ 3)) ⊎ ((p ≡ 2) × (k % 4 ≡ 2))

-- if b is symbols and padding, it is valid exactly if their numbers fit
abbrev pub PaddingFits : List ℕ → Type 0
PaddingFits b = (symbols : List ℕ) (padding : ℕ) → IsSymbolsAndPadding b symbols padding
    → IsTrue (is_valid b) ↔ Fits (length symbols) padding

-- the index is that of the first fault; without an index, the text has no fault
abbrev pub IsFirstFault : List ℕ → Option ℕ → Type 0
IsFirstFault b None = (i : ℕ) → i < length b → is_fault b i ≡ false
IsFirstFault b (Some i) = (i < length b) × IsTrue (is_fault b i)
    × ((k : ℕ) → k < i → is_fault b k ≡ false)

-- a front, serialised by the rule that no space of the path is encoded
abbrev pub serialised_with_spaces : List ℕ → List ℕ
serialised_with_spaces s = with_query (percent_encoding in_path_set (before 63 s)) (after 63 s)

-- whether the header of a serialised front has the base64 suffix, if there is a header
abbrev pub base64_flag : List ℕ → Option Bool
base64_flag s = option_map has_base64_suffix (before_comma s)
