-- A text has one list of items, and at most one record.
use Rattle.std.proofs.Common.{inl, inr, Some, length, refl, sym, ap, ◌∙◌, append_assoc, append-nil, arith, drop, take}
use Rattle.std.proofs.Common.{one-add, ◌+◌, length-append, eqb-true, take-append-drop, ◌≡◌, ℕ, zero, suc, ◌≤◌, ◌==◌}
use Rattle.std.proofs.Common.{Bool, false, cond, List, [], ◌∷◌, ◌++◌, Option, true, None}
use Rattle.std.{proofs.lemmas.Bool.{cases_Bool, not-false}, specs.List.{prefix_len}}
use Rattle.data_url.specs.{CodePoints.{is_http_whitespace, is_token}, Mime.{BeginsParameters, DoesNotBegin, Every}}
use Rattle.data_url.specs.Mime.{GivesValue, IsParameter, Item, Items, is_quote, lone_equals, nothing, unquoted, quoted}
use Rattle.data_url.specs.{Mime.{unclosed, unless_empty, IsHead}, Steps.Parsing.{Reading, after_char, front_of}}
use Rattle.data_url.specs.Steps.Parsing.{given_reading, in_name, in_value, item_in, named, unquoted_reading}
use Rattle.data_url.specs.{Steps.Parsing.{quoted_reading, reading, reading_in}, Url.{without_end, without_start}}
use Rattle.data_url.proofs.{facts.Definitions.{HasOneItemList, HasAtMostOneRecord}, mime.TokenTexts.{IsRead}}
use Rattle.data_url.proofs.mime.TokenTexts.{closed_reading, is_closed, is_open, is_read, open_reading, every_token}
use Rattle.data_url.proofs.texts.CodePoints.{after_begins, front_is, front_passes}

-- if ';' does not pass, a text that is empty or begins with ';' does not begin with a code point that passes
pub ends_of_rest : (p : ℕ → Bool) → p 59 ≡ false → (rest : List ℕ) → BeginsParameters rest → DoesNotBegin p rest
ends_of_rest p e [] b = tt
ends_of_rest p e (c ∷ r) b = ap p b ∙ e

-- a text that does not begin with a code point of a value is empty or begins with ';'
pub begins_from : (s : List ℕ) → DoesNotBegin in_value s → BeginsParameters s
begins_from [] h = tt
begins_from (c ∷ s) h = eqb-true c 59 (not-false (c == 59) h)

-- if neither a nor b begins with a code point that passes, a ++ b does not either
pub not_begins_append : (p : ℕ → Bool) (a b : List ℕ) → DoesNotBegin p a → DoesNotBegin p b → DoesNotBegin p (a ++ b)
not_begins_append p [] b h e = e
not_begins_append p (c ∷ a) b h e = h

-- the reading of a text after a name
abbrev pub reading_of : List ℕ → Reading
reading_of x = reading x (after_char 61 x)

-- a text that does not begin with '"' has no text after it
no_quote : (s : List ℕ) → DoesNotBegin is_quote s → after_char 34 s ≡ None
no_quote [] d = refl
no_quote (c ∷ s) d = grind arith

-- a text without ';' that does not begin with '"', and then the rest, is read without quotes
unquoted_is : (text rest : List ℕ) → Every in_value text → DoesNotBegin is_quote text → BeginsParameters rest
    → given_reading (text ++ rest) ≡ record { value = unless_empty (without_end is_http_whitespace text); rest = rest }
unquoted_is text rest e d b = grind (arith, no_quote, not_begins_append, ends_of_rest, front_is)

-- reading a text that gives a value, and then the rest, returns the value and the rest
reading_is : (tail rest : List ℕ) (value : Option (List ℕ)) → GivesValue tail rest value → BeginsParameters rest
    → reading_of (tail ++ rest) ≡ record { value = value; rest = rest }
reading_is _ _ _ (nothing {rest = []}) b = refl
reading_is _ _ _ (nothing {rest = c ∷ rest}) b = grind arith
reading_is _ _ _ lone_equals b = refl
reading_is _ _ _ (unquoted {rest} text e d) b = unquoted_is text rest e d b
reading_is _ _ _ (quoted {value} {rest} text junk h e) b =
    grind (arith, append_assoc, closed_reading, front_is in_value junk rest e (ends_of_rest in_value refl rest b))
reading_is _ _ _ (unclosed {value} text h) b = rw (append-nil text) (open_reading text value h)

-- the value that is read is given by a text, which the rest follows
pub record IsReading (x : List ℕ) (r : Reading) : Type 0 where
  pub tail : List ℕ
  pub joined : x ≡ tail ++ r.rest
  pub gives : GivesValue tail r.rest r.value
  pub begins : BeginsParameters r.rest

-- '=', '"' and a text give the value of the quoted string that is read from the text
is_quoted_reading : (s : List ℕ) → IsRead s → IsReading (61 ∷ 34 ∷ s) (quoted_reading s)
is_quoted_reading s (is_open v h) = rw (open_reading s v h)
    (record { tail = 61 ∷ 34 ∷ s; joined = sym (append-nil (61 ∷ 34 ∷ s)); gives = unclosed s h; begins = tt })
is_quoted_reading s (is_closed q v w e h) =
    let junk = front_of in_value w in
    let after = without_start in_value w in
    let is : quoted_reading s ≡ record { value = Some v; rest = after } = cc (closed_reading q v w h) in
    rw is (record {
      tail = 61 ∷ 34 ∷ (q ++ 34 ∷ junk);
      joined = cc (take-append-drop (prefix_len in_value w) w, append_assoc q (34 ∷ junk) after);
      gives = quoted q junk h (front_passes in_value w);
      begins = begins_from after (after_begins in_value w);
    })

-- if a text does not begin with a code point that passes p, its longest prefix that passes q does not either
not_begins_front : (p q : ℕ → Bool) (s : List ℕ) → DoesNotBegin p s → DoesNotBegin p (front_of q s)
not_begins_front p q [] h = tt
not_begins_front p q (c ∷ s) h = elim (q c) as (λ v. DoesNotBegin p (take (cond v (1 + prefix_len q s) 0) (c ∷ s))) [
  | true ↦ rw one-add h
  | false ↦ tt
]

-- if a text does not begin with '"', '=' and the text give the value that is read without quotes
is_unquoted_reading : (s : List ℕ) → DoesNotBegin is_quote s → IsReading (61 ∷ s) (unquoted_reading s)
is_unquoted_reading s h =
    let gives = unquoted (front_of in_value s) (front_passes in_value s) (not_begins_front is_quote in_value s h) in
    let begins = begins_from (without_start in_value s) (after_begins in_value s) in
    record { tail = 61 ∷ front_of in_value s; joined = grind (arith, take-append-drop); gives = gives; begins = begins }

-- '=' and any text give the value that is read from the text
is_given_reading : (s : List ℕ) → IsReading (61 ∷ s) (given_reading s)
is_given_reading [] = is_unquoted_reading [] tt
is_given_reading (c ∷ s) = elim (cases_Bool (c == 34)) [
  | inl e ↦ rw (eqb-true c 34 e) (is_quoted_reading s (is_read false s))
  | inr e ↦ rw e (is_unquoted_reading (c ∷ s) e)
]

-- reading a text that is empty or begins with ';' or '=' returns a value that it gives, and the rest
pub is_reading : (x : List ℕ) → DoesNotBegin in_name x → IsReading x (reading_of x)
is_reading [] h = record { tail = []; joined = refl; gives = nothing; begins = tt }
is_reading (c ∷ s) h = elim (cases_Bool (c == 61)) [
  | inl e ↦ rw (eqb-true c 61 e) (is_given_reading s)
  | inr e ↦ rw e (record { tail = []; joined = refl; gives = nothing; begins = grind arith })
]

-- ';' and s are a parameter with this item, and then the rest
pub record HasParameterBefore (s : List ℕ) (item : Item) (rest : List ℕ) : Type 0 where
  pub text : List ℕ
  pub joined : 59 ∷ s ≡ text ++ rest
  pub is_parameter : IsParameter text rest item
  pub begins : BeginsParameters rest

-- ';' and a text begin with the parameter that is read from the text
pub has_parameter : (s : List ℕ) → HasParameterBefore s (item_in s) (reading_in s).rest
has_parameter s =
    let x = named s in
    let i = is_reading (without_start in_name x) (after_begins in_name x) in
    let gap = front_of is_http_whitespace s in
    let name = front_of in_name x in
    record {
      text = 59 ∷ (gap ++ (name ++ i.tail));
      joined = grind (arith, take-append-drop, append_assoc, i.joined);
      is_parameter = grind (arith, front_passes, not_begins_front, after_begins);
      begins = i.begins;
    }

-- if ';' and '=' do not pass, the text of a value and the rest do not begin with a code point that passes
ends_of_tail : (p : ℕ → Bool) → p 59 ≡ false → p 61 ≡ false → (tail rest : List ℕ) (value : Option (List ℕ))
    → GivesValue tail rest value → BeginsParameters rest → DoesNotBegin p (tail ++ rest)
ends_of_tail p e f _ _ _ (nothing {rest}) b = ends_of_rest p e rest b
ends_of_tail p e f _ _ _ lone_equals b = f
ends_of_tail p e f _ _ _ (unquoted text w d) b = f
ends_of_tail p e f _ _ _ (quoted text junk h w) b = f
ends_of_tail p e f _ _ _ (unclosed text h) b = f

-- the item and the rest that are read from the text of a parameter are its item and the text after it
parameter_is : (s text rest : List ℕ) (item : Item) → IsParameter text rest item → 59 ∷ s ≡ text ++ rest
    → BeginsParameters rest → (item_in s ≡ item) × ((reading_in s).rest ≡ rest)
parameter_is s text rest item h e b =
    let more = h.tail ++ rest in
    let is : s ≡ h.gap ++ (h.name ++ more) = grind (arith, append_assoc, h.joined) in
    let ends = ends_of_tail is_http_whitespace refl refl h.tail rest item.1 h.value_is b in
    let x = front_is is_http_whitespace h.gap (h.name ++ more) h.in_gap
    (not_begins_append is_http_whitespace h.name more h.begins ends) in
    let y = front_is in_name h.name more h.in_name (ends_of_tail in_name refl refl h.tail rest item.1 h.value_is b) in
    grind (arith, reading_is, h.name_is)

-- the items of a text, of which each parameter has a code point; at most n items
abbrev pub items_in : ℕ → List ℕ → List Item
items_in zero r = []
items_in (suc n) [] = []
items_in (suc n) (c ∷ s) = item_in s ∷ items_in n (reading_in s).rest

-- the text after a parameter is not longer than the text after its ';'
pub rest_shorter : (s : List ℕ) → length (reading_in s).rest ≤ length s
rest_shorter s = grind (arith, has_parameter s, length-append)

-- a text of at most n code points that is empty or begins with ';' has these items
items_below : (n : ℕ) (r : List ℕ) → length r ≤ n → BeginsParameters r → Items r (items_in n r)
items_below zero [] l b = refl
items_below zero (c ∷ s) l b = absurd (omega arith)
items_below (suc n) [] l b = refl
items_below (suc n) (c ∷ s) l b =
    let p = has_parameter s in
    let rest = (reading_in s).rest in
    rw b (p.text, rest, p.joined, p.is_parameter, items_below n rest (omega (arith, rest_shorter s)) p.begins)

-- a text with a list of items is empty or begins with ';'
begins_of_items : (r : List ℕ) (items : List Item) → Items r items → BeginsParameters r
begins_of_items r [] h = rw h tt
begins_of_items r (item ∷ items) h = rw (h.2, h.3.joined) refl

-- a list of items of a text of at most n code points is this one
pub items_are : (n : ℕ) (r : List ℕ) (items : List Item) → length r ≤ n → Items r items → items_in n r ≡ items
items_are zero r [] l h = refl
items_are (suc n) [] [] l h = refl
items_are (suc n) (c ∷ s) [] l h = absurd (cc)
items_are n [] (item ∷ items) l h = absurd (cc (h.2, h.3.joined))
items_are zero (c ∷ s) (item ∷ items) l h = absurd (omega arith)
items_are (suc n) (c ∷ s) (item ∷ items) l h =
    let e : 59 ∷ s ≡ h.0 ++ h.1 = cc (h.2, h.3.joined) in
    let p = parameter_is s h.0 h.1 item h.3 e (begins_of_items h.1 items h.4) in
    grind (arith, items_are n h.1 items (omega (arith, ap length e, ap length h.3.joined, length-append h.0 h.1)) h.4)

-- the items of a text that is empty or begins with ';'
pub has_items : (r : List ℕ) → BeginsParameters r → Items r (items_in (length r) r)
has_items r b = items_below (length r) r (omega arith) b

-- a text that is empty or begins with ';' has exactly one list of items
pub has_one_item_list : (r : List ℕ) → BeginsParameters r → HasOneItemList r
has_one_item_list r b = grind (arith, has_items, items_are)

-- the text without the longest prefix and the longest suffix of code points that pass
abbrev pub trimmed_of : (ℕ → Bool) → List ℕ → List ℕ
trimmed_of p s = without_end p (without_start p s)

-- the type of a trimmed text
abbrev pub type_in : List ℕ → List ℕ
type_in t = front_of is_token t

-- the text after the slash that follows the type
abbrev pub after_slash : List ℕ → List ℕ
after_slash t = drop 1 (without_start is_token t)

-- the subtype of a trimmed text
abbrev pub subtype_in : List ℕ → List ℕ
subtype_in t = front_of is_token (after_slash t)

-- the text of the parameters of a trimmed text
abbrev pub parameters_in : List ℕ → List ℕ
parameters_in t = without_start is_http_whitespace (without_start is_token (after_slash t))

-- HTTP whitespace and then a text that is empty or begins with ';' do not begin with a token code point
gap_no_token : (gap r : List ℕ) → Every is_http_whitespace gap → BeginsParameters r → DoesNotBegin is_token (gap ++ r)
unfolding is_token
gap_no_token [] r g b = ends_of_rest is_token refl r b
gap_no_token (c ∷ gap) r g b = grind (arith, eqb-true)

-- the parts that are read from t
pub record HasParts (t type_ subtype parameters : List ℕ) : Type 0 where
  pub type_is : type_in t ≡ type_
  pub slash : after_char 47 (without_start is_token t) ≡ Some (after_slash t)
  pub subtype_is : subtype_in t ≡ subtype
  pub parameters_are : parameters_in t ≡ parameters

-- if a text has a head, its parts are those read from the text without HTTP whitespace at both ends
pub has_parts : (s a b c : List ℕ) → IsHead s a b c → HasParts (trimmed_of is_http_whitespace s) a b c
unfolding is_token
has_parts s a b c h =
    let y = b ++ (h.gap ++ c) in
    let first = front_is is_token a (47 ∷ y) (every_token a h.is_type) refl in
    let second = front_is is_token b (h.gap ++ c) (every_token b h.is_subtype)
    (gap_no_token h.gap c h.in_gap h.begins) in
    let third = front_is is_http_whitespace h.gap c h.in_gap (ends_of_rest is_http_whitespace refl c h.begins) in
    rw (h.joined) (grind arith)

-- two records of the same text are equal
pub has_at_most_one_record : (s : List ℕ) → HasAtMostOneRecord s
has_at_most_one_record s m n h k =
    let p = has_parts s h.type_ h.subtype h.parameters h.head in
    let q = has_parts s k.type_ k.subtype k.parameters k.head in
    let b = items_are (length k.parameters) k.parameters k.record_is.items (omega arith) k.record_is.items_are in
    grind (arith, items_are, h.record_is, k.record_is)
