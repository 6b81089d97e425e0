-- What the private functions of the MIME parser return. Texts are lists of code points.
use Rattle.std.specs.Char.{to_ascii_lowercase}
use Rattle.std.specs.Int.{is_in_range}
use Rattle.std.specs.List.{list_all, prefix_len}
use Rattle.std.specs.Prelude.{[], if◌then◌else◌, ◌&&◌, ◌++◌, ◌==◌, ◌||◌, ◌∷◌, ◌≡◌, ◌≤◌, ◌<◌, ◌+◌, Bool, IsTrue}
use Rattle.std.specs.Prelude.{List, None, Option, Some, drop, false, length, map, not, slice_index, suc, take, true}
use Rattle.std.specs.Prelude.{zero, ℕ}
use Rattle.std.specs.Str.{chars}
use Rattle.data_url.specs.CodePoints.{ends_name, is_http_whitespace, is_quotable, is_semicolon, is_token}
use Rattle.data_url.specs.Mime.{DoesNotBegin, Every, IsHead, Item, Pair, has_name, is_lowercase_name, is_token_text}
use Rattle.data_url.specs.Mime.{unless_empty, valid_of}
use Rattle.data_url.specs.Url.{without_end, without_start}
use Rattle.data_url.specs.declared.mime.parse.Parameter.{Parameter}
use Rattle.data_url.specs.declared.mime.values.Value.TheVariants as slices
use Rattle.data_url.specs.declared.mime.values.Value.{Value}

-- the longest prefix of code points that pass
abbrev pub front_of : (ℕ → Bool) → List ℕ → List ℕ
front_of p s = take (prefix_len p s) s

-- s is its longest prefix of token code points, which is not empty, and then rest
pub record IsTokens (s tokens rest : List ℕ) : Type 0 where
  pub front : front_of is_token s ≡ tokens
  pub after : without_start is_token s ≡ rest
  pub token : IsTrue (is_token_text tokens)

-- the text is empty, or its last code point does not pass
abbrev pub DoesNotEnd : (ℕ → Bool) → List ℕ → Type 0
DoesNotEnd p [] = Unit {0}
DoesNotEnd p (c ∷ []) = p c ≡ false
DoesNotEnd p (c ∷ d ∷ t) = DoesNotEnd p (d ∷ t)

-- t is s without the longest suffix of code points that pass
pub record IsTrimmedEnd (p : ℕ → Bool) (s t : List ℕ) : Type 0 where
  pub back : List ℕ
  pub joined : s ≡ t ++ back
  pub at_back : Every p back
  pub ends : DoesNotEnd p t

-- the text neither begins nor ends with HTTP whitespace
pub record IsTrimmed (s : List ℕ) : Type 0 where
  pub begins : DoesNotBegin is_http_whitespace s
  pub ends : DoesNotEnd is_http_whitespace s

-- the text after c, if the text begins with c
abbrev pub after_char : ℕ → List ℕ → Option (List ℕ)
after_char c [] = None
after_char c (b ∷ s) = if b == c then Some s else None

-- the code point does not end a value
abbrev pub in_value : ℕ → Bool
in_value c = not (is_semicolon c)

-- the code point does not end a name
abbrev pub in_name : ℕ → Bool
in_name c = not (ends_name c)

-- '"' or '\', before which a '\' is written
abbrev pub is_escaped : ℕ → Bool
is_escaped c = (c == 34) || (c == 92)

-- how many code points come before the closing quote, or in all; the flag says whether a '\' escapes the first one
abbrev pub quoted_len : Bool → List ℕ → ℕ
quoted_len escaped [] = zero
quoted_len true (c ∷ s) = suc (quoted_len false s)
quoted_len false (c ∷ s) = if c == 34 then zero else suc (quoted_len (c == 92) s)

-- the byte at a place, if there is one, is '"' or '\', and the closing quote is not before it; no '\' before the place
-- escapes this byte
pub record Quoting (bytes : List ℕ) (place : ℕ) : Type 0 where
  pub within : place ≤ length bytes
  pub mark : place < length bytes → is_escaped (slice_index bytes place) ≡ true
  pub joined : place + quoted_len false (drop place bytes) ≡ quoted_len false bytes

-- the text without each '\' that escapes the next code point; the flag says whether a '\' comes before the text
abbrev pub unescaped : Bool → List ℕ → List ℕ
unescaped false [] = []
unescaped true [] = 92 ∷ []
unescaped escaped (c ∷ s) = if (c == 92) && not escaped then unescaped true s else c ∷ unescaped false s

-- a value, if there is one, and the text after it
pub record Reading : Type 0 where
  pub value : Option (List ℕ)
  pub rest : List ℕ

-- the value without quotes at the front of a text
abbrev pub unquoted_reading : List ℕ → Reading
unquoted_reading s = record {
  value = unless_empty (without_end is_http_whitespace (front_of in_value s));
  rest = without_start in_value s;
}

-- the value in the text after a '"'
abbrev pub quoted_reading : List ℕ → Reading
quoted_reading s = record {
  value = Some (unescaped false (take (quoted_len false s) s));
  rest = without_start in_value (drop (suc (quoted_len false s)) s);
}

-- the value in a text, from the text after its '"' if it begins with one
abbrev pub reading_from : List ℕ → Option (List ℕ) → Reading
reading_from s None = unquoted_reading s
reading_from s (Some quoted) = quoted_reading quoted

-- the value in the text after a '='
abbrev pub given_reading : List ℕ → Reading
given_reading s = reading_from s (after_char 34 s)

-- the value in the text after a name, from the text after its '=' if it begins with one
abbrev pub reading : List ℕ → Option (List ℕ) → Reading
reading s None = record { value = None; rest = s }
reading s (Some given) = given_reading given

-- the text of a name and more, from the text after a ';'
abbrev pub named : List ℕ → List ℕ
named s = without_start is_http_whitespace s

-- the value of a parameter and the text after it, from the text after its ';'
abbrev pub reading_in : List ℕ → Reading
reading_in s = reading (without_start in_name (named s)) (after_char 61 (without_start in_name (named s)))

-- the item of a parameter, from the text after its ';'
abbrev pub item_in : List ℕ → Item
item_in s = (map to_ascii_lowercase (front_of in_name (named s)), (reading_in s).value)

-- a byte of the UTF-8 of quoted-string code points
unfoldable pub is_quotable_byte : ℕ → Bool
is_quotable_byte b = (b == 9) || is_in_range 32 126 b || is_in_range 128 195 b

-- such a byte, but not ';', which ends a value without quotes
abbrev pub is_unquoted_byte : ℕ → Bool
is_unquoted_byte b = is_quotable_byte b && not (is_semicolon b)

-- the value, if it has only HTTP quoted-string token code points
abbrev pub quotable_value : Option (List ℕ) → Option (List ℕ)
quotable_value None = None
quotable_value (Some value) = if list_all is_quotable value then Some value else None

-- the value of the slices, if it is there and has only HTTP quoted-string token code points
abbrev pub value_of : Value → Option (List ℕ)
value_of slices.Missing = None
value_of (slices.Unquoted text) = Some (chars text.now)
value_of (slices.Verbatim text) = quotable_value (Some (chars text.now))
value_of (slices.Quoted text) = quotable_value (Some (unescaped false (chars text.now)))

-- the pair of a name and a value: none if the name is not a token text, or there is no value
abbrev pub pair_if : List ℕ → Option (List ℕ) → List Pair
pair_if name None = []
pair_if name (Some value) = if is_token_text name then (name, value) ∷ [] else []

-- the pair of the slices
abbrev pub pair_in : Parameter → List Pair
pair_in parameter = pair_if (map to_ascii_lowercase (chars parameter.name.now)) (value_of parameter.value)

-- the pair that an item adds to the earlier ones: none if a pair has its name already
abbrev pub unless_named : List Pair → List Pair → List Pair
unless_named earlier [] = []
unless_named earlier (p ∷ ps) = if has_name p.0 earlier then [] else p ∷ []

abbrev pub added_pairs : List Pair → Item → List Pair
added_pairs earlier item = unless_named earlier (valid_of item)

-- all names are lower-case
abbrev pub HasLowercaseNames : List Pair → Type 0
HasLowercaseNames pairs = IsTrue (list_all (λ (p : Pair). is_lowercase_name p.0) pairs)

-- the text does not begin with a type and a subtype
abbrev pub HasNoHead : List ℕ → Type 0
HasNoHead s = (type_ subtype parameters : List ℕ) → IsHead s type_ subtype parameters → ⊥
