-- MIME types with their records and printed texts, by computation.
use Rattle.std.proofs.Common.{arith, map, IsTrue, ◌≡◌, ℕ, true, List, [], ◌∷◌, ◌++◌, inr, codes, eq-eqb, length, refl}
use Rattle.std.{proofs.Common.{sym}, specs.Char.{to_ascii_lowercase}, specs.List.{list_all}}
use Rattle.data_url.specs.{CodePoints.{is_http_whitespace}, Mime.{Parses, Record, default_record, is_token_text}}
use Rattle.data_url.specs.Mime.{kept_pairs, printed, BeginsParameters, HasNoRecord, IsRecordOf, Pair}
use Rattle.data_url.proofs.{examples.Literals.{on_literals}, mime.Items.{has_items, has_parts, items_in, parameters_in}}
use Rattle.data_url.proofs.{mime.Items.{subtype_in, trimmed_of, type_in}, mime.TokenTexts.{every_from_all}}

-- Texts with a record

-- the record of a type, a subtype and parameters
abbrev of : List ℕ → List ℕ → List Pair → Record
of type_ subtype pairs = record { type_ = type_; subtype = subtype; parameters = pairs }

-- a text of a type, a subtype, whitespace and parameters has the record with these
reads : (s type_ subtype gap r : List ℕ) (pairs : List Pair) → IsTrue (is_token_text type_)
    → IsTrue (is_token_text subtype) → list_all is_http_whitespace gap ≡ true → BeginsParameters r
    → trimmed_of is_http_whitespace s ≡ type_ ++ (47 ∷ (subtype ++ (gap ++ r)))
    → kept_pairs (items_in (length r) r) ≡ pairs
    → Parses s (of (map to_ascii_lowercase type_) (map to_ascii_lowercase subtype) pairs)
reads s type_ subtype gap r pairs t u spaces begins joined are = record {
  type_ = type_;
  subtype = subtype;
  parameters = r;
  head = record {
    gap = gap;
    joined = joined;
    is_type = t;
    is_subtype = u;
    in_gap = every_from_all is_http_whitespace gap spaces;
    begins = begins;
  };
  record_is = record {
    items = items_in (length r) r;
    items_are = has_items r begins;
    type_is = refl;
    subtype_is = refl;
    parameters_are = sym are;
  };
}

-- a semicolon in quotes, a missing value, and an empty value in quotes
quotes : Parses (codes "TEXT/HTML;a=" ++ (34 ∷ codes "b;c" ++ (34 ∷ codes ";d=;e=" ++ (34 ∷ 34 ∷ []))))
    (of (codes "text") (codes "html") ((codes "a", codes "b;c") ∷ (codes "e", []) ∷ []))
unfolding on_literals
quotes = reads _ (codes "TEXT") (codes "HTML") []
    (codes ";a=" ++ (34 ∷ codes "b;c" ++ (34 ∷ codes ";d=;e=" ++ (34 ∷ 34 ∷ [])))) _ refl refl refl refl refl refl

-- whitespace is removed at both ends, after the subtype and before a name; at the end of a name it is kept
whitespace : Parses (codes " a/b ; c=d ") (of (codes "a") (codes "b") ((codes "c", codes "d") ∷ []))
unfolding on_literals
whitespace = reads _ (codes "a") (codes "b") (codes " ") (codes "; c=d") _ refl refl refl refl refl refl

-- texts of type and subtype x, from the first ';' on, each with its parameters
abbrev x_texts : List (List ℕ × List Pair)
x_texts =
    -- a name can have every mark that is a token code point
    (codes ";!#$%&'*+-.^_`|~=v", (codes "!#$%&'*+-.^_`|~", codes "v") ∷ [])
    -- a value cannot have U+007F or U+0100; it can have U+0080 and U+00FF
    ∷ (
      codes ";a=" ++ (127 ∷ codes ";b=" ++ (128 ∷ codes ";c=" ++ (255 ∷ codes ";d=" ++ (256 ∷ [])))),
      (codes "b", 128 ∷ []) ∷ (codes "c", 255 ∷ []) ∷ [],
    )
    -- names are lower-cased before they are compared, and the first pair of a name is kept
    ∷ (codes ";a=1;A=2", (codes "a", codes "1") ∷ [])
    -- the code points after a closing quote are ignored
    ∷ (codes ";a=" ++ (34 ∷ 98 ∷ 34 ∷ 256 ∷ []), (codes "a", codes "b") ∷ [])
    -- a quoted value is tested as a whole: it can have a semicolon, and U+0100 makes its pair invalid
    ∷ (codes ";a=" ++ (34 ∷ 98 ∷ 59 ∷ 256 ∷ 34 ∷ []), [])
    -- a backslash at the end of the input is part of the value
    ∷ (codes ";a=" ++ (34 ∷ 92 ∷ []), (codes "a", 92 ∷ []) ∷ [])
    -- escapes, a quote inside a value without quotes, and a quoted string that ends with the input
    ∷ (
      codes ";a=" ++ (34 ∷ 113 ∷ 92 ∷ 34 ∷ 114 ∷ 34 ∷ codes
          ";b=" ++ (34 ∷ 92 ∷ 97 ∷ 34 ∷ codes ";c=d" ++ (34 ∷ codes "e;f=" ++ (34 ∷ 103 ∷ [])))),
      (codes "a", 113 ∷ 34 ∷ 114 ∷ []) ∷ (codes "b", codes "a") ∷ (codes "c", 100 ∷ 34 ∷ 101 ∷ [])
          ∷ (codes "f", codes "g") ∷ [],
    )
    -- a parameter whose name is empty or not a token is ignored together with its quoted string
    ∷ (codes ";=q;" ++ (233 ∷ codes "=" ++ (34 ∷ codes "a;b=c" ++ (34 ∷ codes ";d=e"))), (codes "d", codes "e") ∷ [])
    ∷ []

-- each text has the record x/x with its parameters
abbrev AllRead : List (List ℕ × List Pair) → Type 0
AllRead [] = Unit {0}
AllRead ((r, pairs) ∷ rows) = Parses (codes "x/x" ++ r) (of (codes "x") (codes "x") pairs) × AllRead rows

-- a text of type and subtype x has these parameters
reads_x : (r : List ℕ) (pairs : List Pair) → BeginsParameters r
    → trimmed_of is_http_whitespace (codes "x/x" ++ r) ≡ codes "x/x" ++ r → kept_pairs (items_in (length r) r) ≡ pairs
    → Parses (codes "x/x" ++ r) (of (codes "x") (codes "x") pairs)
unfolding on_literals
reads_x r pairs begins ends are =
    reads (codes "x/x" ++ r) (codes "x") (codes "x") [] r pairs refl refl refl begins ends are

-- each of the texts of type and subtype x has its parameters
x_records : AllRead x_texts
unfolding on_literals
x_records = grind (arith, reads_x)

-- Texts without a record

-- a text whose type is empty has no record
no_type : (s : List ℕ) → type_in (trimmed_of is_http_whitespace s) ≡ [] → HasNoRecord s
unfolding on_literals
no_type s e m h = grind (arith, h.head.is_type, has_parts s h.type_ h.subtype h.parameters h.head)

-- a text whose subtype is empty has no record
no_subtype : (s : List ℕ) → subtype_in (trimmed_of is_http_whitespace s) ≡ [] → HasNoRecord s
unfolding on_literals
no_subtype s e m h = grind (arith, h.head.is_subtype, has_parts s h.type_ h.subtype h.parameters h.head)

-- the text after the subtype does not begin a parameter
no_parameters : (s : List ℕ) (r : List ℕ) → parameters_in (trimmed_of is_http_whitespace s) ≡ r
    → (BeginsParameters r → ⊥) → HasNoRecord s
unfolding on_literals
no_parameters s r e n m h = grind (arith, has_parts s h.type_ h.subtype h.parameters h.head)

-- the empty text has no record
pub empty_text : HasNoRecord []
unfolding on_literals
empty_text = no_type [] refl

-- no slash, no subtype, no type, and a space in the subtype
other_texts : HasNoRecord (codes "a") × HasNoRecord (codes "a/") × HasNoRecord (codes "/b")
    × HasNoRecord (codes "a/b c")
unfolding on_literals
other_texts = (
  no_subtype (codes "a") refl,
  no_subtype (codes "a/") refl,
  no_type (codes "/b") refl,
  no_parameters (codes "a/b c") (codes "c") refl (λ (e : ◌≡◌ {A = ℕ} 99 59). let k = eq-eqb 99 59 e in cc),
)

-- '?' is not a token code point, so a header with a query after its subtype has the default record
question_mark : IsRecordOf (codes "a/b?c") default_record
unfolding on_literals
question_mark = inr (
  no_parameters (codes "a/b?c") (codes "?c") refl (λ (e : ◌≡◌ {A = ℕ} 63 59). let k = eq-eqb 63 59 e in cc),
  refl,
)

-- the empty header has the default record too
empty_header : IsRecordOf [] default_record
unfolding on_literals
empty_header = inr (empty_text, refl)

-- Printed texts

-- records, each with its text
abbrev records : List (Record × List ℕ)
records =
    (default_record, codes "text/plain;charset=US-ASCII")
    -- a value that needs quotes, and an empty one
    ∷ (
      of (codes "text") (codes "html") ((codes "a", codes "b;c") ∷ (codes "e", []) ∷ []),
      codes "text/html;a=" ++ (34 ∷ codes "b;c" ++ (34 ∷ codes ";e=" ++ (34 ∷ 34 ∷ []))),
    )
    -- '"' and '\' are escaped
    ∷ (
      of (codes "x") (codes "x") ((codes "a", codes "q" ++ (34 ∷ codes "r")) ∷ (codes "b", 92 ∷ [])
          ∷ (codes "f", codes "g") ∷ []),
      codes "x/x;a=" ++ (34 ∷ 113 ∷ 92 ∷ 34 ∷ 114 ∷ 34 ∷ codes ";b=" ++ (34 ∷ 92 ∷ 92 ∷ 34 ∷ codes ";f=g")),
    )
    -- a record that parsing cannot return is printed too
    ∷ (of (codes "a b") [] (([], 233 ∷ []) ∷ []), codes "a b/;=" ++ (34 ∷ 233 ∷ 34 ∷ []))
    ∷ []

-- each record is printed as its text
texts : map (λ row. printed row.0) records ≡ map (λ row. row.1) records
unfolding on_literals
texts = refl
