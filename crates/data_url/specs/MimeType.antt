-- What contracts see of a `Mime`.
use Rattle.std.specs.Borrow.{Bor}
use Rattle.std.specs.Cmp.Lexicographic.{lists_equiv, on_texts_equal, pointwise}
use Rattle.std.specs.Cmp.{IsEquivalence, and_equiv, on_equiv}
use Rattle.std.specs.List.{find}
use Rattle.std.specs.Option.{option_map}
use Rattle.std.specs.Ordering.{eq_of_both, on}
use Rattle.std.specs.Prelude.{◌≡◌, Bool, List, Option, String, map, string_bytes, ℕ}
use Rattle.std.specs.Str.{bytes_eq, chars}
use Rattle.data_url.specs.Mime.{Pair, Record}
use Rattle.data_url.specs.declared.mime.Mime.{Mime}

-- the code points of a text
abbrev pub code_points : {A : Type 0} → String A → List ℕ
code_points s = chars (string_bytes s)

abbrev pub pair_of : {A B : Type 0} → String A × String B → Pair
pair_of p = (code_points p.0, code_points p.1)

-- the record as lists of code points
abbrev pub record_of : Mime → Record
record_of m = record {
  type_ = code_points m.type_;
  subtype = code_points m.subtype;
  parameters = map pair_of m.parameters.items;
}

-- the bytes of both texts of a pair
abbrev pub texts_of_pair : {A B : Type 0} → String A × String B → List ℕ × List ℕ
texts_of_pair p = (string_bytes p.0, string_bytes p.1)

-- all texts of m and n have the same bytes, and the pairs come in the same order
pub record SameTexts (m n : Mime) : Type 0 where
  pub type_ : string_bytes m.type_ ≡ string_bytes n.type_
  pub subtype : string_bytes m.subtype ≡ string_bytes n.subtype
  pub parameters : map texts_of_pair m.parameters.items ≡ map texts_of_pair n.parameters.items

-- tests whether two pairs have the same texts
abbrev pub same_pair : {A B : Type 0} → String A × String B → String A × String B → Bool
same_pair = eq_of_both (on (λ p. string_bytes p.0) bytes_eq) (on (λ p. string_bytes p.1) bytes_eq)

-- tests whether two MIME types have the same texts
abbrev pub same_texts : Mime → Mime → Bool
same_texts = eq_of_both (on (λ m. string_bytes m.type_) bytes_eq)
    (eq_of_both (on (λ m. string_bytes m.subtype) bytes_eq)
    (on (λ m. m.parameters.items) (pointwise same_pair)))

-- this test is an equivalence relation
pub same_texts_equiv : IsEquivalence same_texts
same_texts_equiv = and_equiv (on_texts_equal (λ m. string_bytes m.type_))
    (and_equiv (on_texts_equal (λ m. string_bytes m.subtype))
    (on_equiv (λ m. m.parameters.items)
    (lists_equiv (and_equiv (on_texts_equal (λ p. string_bytes p.0))
    (on_texts_equal (λ p. string_bytes p.1))))))

-- the text that a reference refers to, if there is a reference
abbrev pub as_option : Option (Bor (List ℕ)) → Option (List ℕ)
as_option o = option_map (λ s. s.now) o

-- the value of the first pair that has the name; names and values are bytes
abbrev pub value_of_name : {A B : Type 0} → List ℕ → List (String A × String B) → Option (List ℕ)
value_of_name name ps =
    option_map (λ p. string_bytes p.1) (find (λ p. bytes_eq (string_bytes p.0) name) ps)
