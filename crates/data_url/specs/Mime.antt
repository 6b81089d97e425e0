-- MIME types: the grammar of a text, the record that it gives, and the record's printed text (MIME
-- Sniffing Standard, section 4). Texts are lists of code points.
use Rattle.std.specs.Char.{to_ascii_lowercase}
use Rattle.std.specs.List.{AllByRecursion, flat_map, list_all, list_any}
use Rattle.std.specs.Prelude.{[], if◌then◌else◌, ◌&&◌, ◌++◌, ◌==◌, ◌||◌, ◌∷◌, ◌≡◌, ◌≢◌, ◌⊎◌, Bool, IsTrue, List, None}
use Rattle.std.specs.Prelude.{Option, Some, codes, false, map, not, true, ℕ}
use Rattle.std.specs.Str.{bytes_eq}
use Rattle.data_url.specs.CodePoints.{ends_name, is_http_whitespace, is_quotable, is_semicolon, is_token}
use Rattle.data_url.specs.Url.{without_end, without_start}

-- Records

-- a parameter of a record: its name and its value
abbrev pub Pair : Type 0
Pair = List ℕ × List ℕ

-- a MIME type record: its type, its subtype and its parameters in order
pub record Record : Type 0 where
  pub type_ : List ℕ
  pub subtype : List ℕ
  pub parameters : List Pair

-- text/plain;charset=US-ASCII
abbrev pub default_record : Record
default_record = record {
  type_ = codes "text";
  subtype = codes "plain";
  parameters = (codes "charset", codes "US-ASCII") ∷ [];
}

-- Texts and tests

-- each code point of the text passes
abbrev pub Every : (ℕ → Bool) → List ℕ → Type 0
Every p t = AllByRecursion (λ c. p c ≡ true) t

-- no code point of the text passes
abbrev pub Without : (ℕ → Bool) → List ℕ → Type 0
Without p t = Every (λ c. not (p c)) t

-- the text is empty, or its first code point does not pass
abbrev pub DoesNotBegin : (ℕ → Bool) → List ℕ → Type 0
DoesNotBegin p [] = Unit {0}
DoesNotBegin p (c ∷ t) = p c ≡ false

-- the text is not empty, and has only HTTP token code points
abbrev pub is_token_text : List ℕ → Bool
is_token_text [] = false
is_token_text (c ∷ t) = list_all is_token (c ∷ t)

-- HTTP quoted strings (Fetch, section 2.2), without their quotes

-- the text of a quoted string, and its value. A code point other than '"' and '\' stands for itself; a
-- '\' and the code point after it stand for that code point.
pub data Quoted : List ℕ → List ℕ → Type 0 where
  nothing_quoted : Quoted [] []
  as_itself : {text value : List ℕ} (c : ℕ) → c ≢ 34 → c ≢ 92 → Quoted text value
      → Quoted (c ∷ text) (c ∷ value)
  after_backslash : {text value : List ℕ} (c : ℕ) → Quoted text value → Quoted (92 ∷ c ∷ text) (c ∷ value)

-- the text of a quoted string without a closing quote: it may end with one more '\', which is then
-- the last code point of the value
abbrev pub QuotedOpen : List ℕ → List ℕ → Type 0
QuotedOpen text value = Quoted text value
    ⊎ ((text' value' : List ℕ) × (text ≡ text' ++ 92 ∷ []) × (value ≡ value' ++ 92 ∷ [])
    × Quoted text' value')

-- Parameters

-- a parameter as it is parsed: its name and, if there is one, its value
abbrev pub Item : Type 0
Item = List ℕ × Option (List ℕ)

-- the value, or none if it is empty
abbrev pub unless_empty : List ℕ → Option (List ℕ)
unless_empty [] = None
unless_empty (c ∷ t) = Some (c ∷ t)

abbrev pub is_quote : ℕ → Bool
is_quote c = c == 34

-- tail, the text between the name of a parameter and rest, gives the value
pub data GivesValue : List ℕ → List ℕ → Option (List ℕ) → Type 0 where
  -- no '='
  nothing : {rest : List ℕ} → GivesValue [] rest None
  -- '=' at the end of the input
  lone_equals : GivesValue (61 ∷ []) [] None
  -- '=' and a text that does not begin with '"'; HTTP whitespace at its end is removed
  unquoted : {rest : List ℕ} (text : List ℕ) → Without is_semicolon text → DoesNotBegin is_quote text
      → GivesValue (61 ∷ text) rest (unless_empty (without_end is_http_whitespace text))
  -- '=', a quoted string in quotes, and any code points up to the next ';'
  quoted : {value rest : List ℕ} (text junk : List ℕ) → Quoted text value
      → Without is_semicolon junk → GivesValue (61 ∷ 34 ∷ (text ++ (34 ∷ junk))) rest (Some value)
  -- '=' and a quoted string without a closing quote, at the end of the input
  unclosed : {value : List ℕ} (text : List ℕ) → QuotedOpen text value
      → GivesValue (61 ∷ 34 ∷ text) [] (Some value)

-- text, which rest follows, is a parameter: ';', HTTP whitespace, a name, and the text that gives
-- the value
pub record IsParameter (text rest : List ℕ) (item : Item) : Type 0 where
  pub gap : List ℕ
  pub name : List ℕ
  pub tail : List ℕ
  pub joined : text ≡ 59 ∷ (gap ++ (name ++ tail))
  pub in_gap : Every is_http_whitespace gap
  pub begins : DoesNotBegin is_http_whitespace name
  pub in_name : Without ends_name name
  pub name_is : item.0 ≡ map to_ascii_lowercase name
  pub value_is : GivesValue tail rest item.1

-- the text is a concatenation of parameters, and the list holds their items in order
abbrev pub Items : List ℕ → List Item → Type 0
Items r [] = r ≡ []
Items r (item ∷ items) = (text rest : List ℕ) × (r ≡ text ++ rest) × IsParameter text rest item
    × Items rest items

-- the pair of an item, if the name is not empty and has only HTTP token code points, and there is a
-- value, which has only HTTP quoted-string token code points
abbrev pub valid_of : Item → List Pair
valid_of (name, None) = []
valid_of (name, Some value) =
    if is_token_text name && list_all is_quotable value then (name, value) ∷ []
    else []

abbrev pub valid_pairs : List Item → List Pair
valid_pairs items = flat_map valid_of items

abbrev pub has_name : List ℕ → List Pair → Bool
has_name name pairs = list_any (λ (p : Pair). bytes_eq p.0 name) pairs

-- the pairs whose name is not the name of an earlier pair
abbrev pub first_of_each_name : List Pair → List Pair → List Pair
first_of_each_name earlier [] = []
first_of_each_name earlier (p ∷ ps) =
    if has_name p.0 earlier then first_of_each_name (earlier ++ p ∷ []) ps
    else p ∷ first_of_each_name (earlier ++ p ∷ []) ps

-- the first valid pair of each name
abbrev pub kept_pairs : List Item → List Pair
kept_pairs items = first_of_each_name [] (valid_pairs items)

-- Parse a MIME type (MIME Sniffing, section 4.4)

-- the text is empty or begins with ';'
abbrev pub BeginsParameters : List ℕ → Type 0
BeginsParameters [] = Unit {0}
BeginsParameters (c ∷ r) = c ≡ 59

-- s, without HTTP whitespace at both ends, is a type, '/', a subtype, HTTP whitespace, and the text
-- of the parameters
pub record IsHead (s type_ subtype parameters : List ℕ) : Type 0 where
  pub gap : List ℕ
  pub joined : without_end is_http_whitespace (without_start is_http_whitespace s)
      ≡ type_ ++ (47 ∷ (subtype ++ (gap ++ parameters)))
  pub is_type : IsTrue (is_token_text type_)
  pub is_subtype : IsTrue (is_token_text subtype)
  pub in_gap : Every is_http_whitespace gap
  pub begins : BeginsParameters parameters

-- m is the record of a type, a subtype, and the text of the parameters
pub record IsRecordOfParts (type_ subtype parameters : List ℕ) (m : Record) : Type 0 where
  pub items : List Item
  pub items_are : Items parameters items
  pub type_is : m.type_ ≡ map to_ascii_lowercase type_
  pub subtype_is : m.subtype ≡ map to_ascii_lowercase subtype
  pub parameters_are : m.parameters ≡ kept_pairs items

-- s is a valid MIME type, and m is its record
pub record Parses (s : List ℕ) (m : Record) : Type 0 where
  pub type_ : List ℕ
  pub subtype : List ℕ
  pub parameters : List ℕ
  pub head : IsHead s type_ subtype parameters
  pub record_is : IsRecordOfParts type_ subtype parameters m

-- the text has no record: parsing it fails
abbrev pub HasNoRecord : List ℕ → Type 0
HasNoRecord s = (m : Record) → Parses s m → ⊥

-- m is the record of the text or, if parsing fails, the default record
abbrev pub IsRecordOf : List ℕ → Record → Type 0
IsRecordOf s m = Parses s m ⊎ (HasNoRecord s × (m ≡ default_record))

-- Serialize a MIME type (MIME Sniffing, section 4.5)

-- the code point, with a '\' before it if it is '"' or '\'
abbrev pub escaped_code_point : ℕ → List ℕ
escaped_code_point c = if (c == 34) || (c == 92) then 92 ∷ c ∷ [] else c ∷ []

-- the value as it is, if it is not empty and has only HTTP token code points; otherwise in quotes
abbrev pub printed_value : List ℕ → List ℕ
printed_value v = if is_token_text v then v else 34 ∷ (flat_map escaped_code_point v ++ 34 ∷ [])

abbrev pub printed_pair : Pair → List ℕ
printed_pair p = 59 ∷ (p.0 ++ (61 ∷ printed_value p.1))

-- the serialisation of a record, which need not be well-formed
unfoldable pub printed : Record → List ℕ
printed m = m.type_ ++ (47 ∷ (m.subtype ++ flat_map printed_pair m.parameters))

-- Records that parsing can return

-- the text is not empty, has only HTTP token code points, and has none of 'A' to 'Z'
abbrev pub is_lowercase_name : List ℕ → Bool
is_lowercase_name t = is_token_text t && bytes_eq (map to_ascii_lowercase t) t

abbrev pub has_distinct_names : List Pair → Bool
has_distinct_names [] = true
has_distinct_names (p ∷ ps) = not (has_name p.0 ps) && has_distinct_names ps

-- the type, the subtype and the names are lower-case names, no two names are equal, and the values
-- have only HTTP quoted-string token code points
pub record IsWellformed (m : Record) : Type 0 where
  pub type_ : IsTrue (is_lowercase_name m.type_)
  pub subtype : IsTrue (is_lowercase_name m.subtype)
  pub names : IsTrue (list_all (λ (p : Pair). is_lowercase_name p.0) m.parameters)
  pub distinct : IsTrue (has_distinct_names m.parameters)
  pub values : IsTrue (list_all (λ (p : Pair). list_all is_quotable p.1) m.parameters)
