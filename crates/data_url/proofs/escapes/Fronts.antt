-- The bytes of a block before its first stop: what is packed of them is their part of the body. For `pack_to_stop`,
-- `pack_whole` and `pack_end`.
use Rattle.std.proofs.Common.{List, arith, cond, eqb, false, inl, inr, length, lit<, map, not, refl, suc, take, true}
use Rattle.std.proofs.{Common.{[], ℕ, ◌*◌, ◌++◌, ◌+◌, ◌<◌, ◌==◌, ◌∷◌, ◌≡◌, ◌≤◌}, lemmas.Bool.{and_parts, cases_Bool}}
use Rattle.std.{proofs.lemmas.Bool.{eqb-true}, specs.Char.{digit_value, is_ascii_hexdigit}, specs.List.{prefix_len}}
use Rattle.data_url.proofs.escapes.EscapeDigits.{begins_other, begins_with_digit, cleaned_keeps, cleaned_passes}
use Rattle.data_url.proofs.escapes.{EscapeDigits.{hex_other, no_escape}, Reading.{decoded_byte, plain_is}}
use Rattle.data_url.proofs.{forgiving_base64.Spaces.{clear_bit}, percent.Encoding.{decoded_escape}}
use Rattle.data_url.{proofs.texts.Bytes.{after_other}, specs.Fetch.{plain_body}, specs.Percent.{begins_with_escape}}
use Rattle.data_url.specs.Steps.{Digits.{cleaned}, Escapes.{escape_starts, first_value, is_unsure, packed_values}}
use Rattle.data_url.specs.{Steps.Escapes.{place_values, stops}, Url.{after, is_tab_or_newline}}
use lib.Lanes.{mask_l}

-- a byte at which no escape begins stays
pub first_stays : (b : ℕ) (s : List ℕ) → begins_with_escape (b ∷ s) ≡ false → first_value (b ∷ s) ≡ b
first_stays b [] h = refl
first_stays b (c ∷ []) h = refl
first_stays b (c ∷ d ∷ s) h = grind arith

-- the bits of the bytes that are digits of an escape, and of tabs and newlines
abbrev pub dropped : List ℕ → ℕ
dropped s = 6 * mask_l (escape_starts s) + mask_l (map is_tab_or_newline s)

-- where no escape begins, the bit of the first byte is set if it is a tab or newline
pub dropped_other : (b : ℕ) (s : List ℕ) → begins_with_escape (b ∷ s) ≡ false
    → dropped (b ∷ s) ≡ cond (is_tab_or_newline b) 1 0 + 2 * dropped s
dropped_other b s h = grind (arith, cases_Bool (is_tab_or_newline b))

-- where an escape begins, the bits of the two bytes after the first are set
pub dropped_escape : (h l : ℕ) (s : List ℕ) → is_ascii_hexdigit h ≡ true → is_ascii_hexdigit l ≡ true
    → dropped (37 ∷ h ∷ l ∷ s) ≡ 0 + 2 * (1 + 2 * (1 + 2 * dropped s))
dropped_escape h l s p q = grind (arith, begins_other, hex_other)

-- what is packed, byte by byte
packed_tab : (b : ℕ) (s : List ℕ) (n : ℕ) → is_tab_or_newline b ≡ true
    → packed_values (b ∷ s) (suc n) ≡ packed_values s n
packed_tab b s n t = grind (arith, dropped_other, begins_other, clear_bit, first_value, place_values)

packed_other : (b : ℕ) (s : List ℕ) (n : ℕ) → is_tab_or_newline b ≡ false → begins_with_escape (b ∷ s) ≡ false
    → packed_values (b ∷ s) (suc n) ≡ b ∷ packed_values s n
packed_other b s n t h = grind (arith, dropped_other, first_stays, clear_bit, first_value, place_values)

packed_escape : (h l : ℕ) (s : List ℕ) (n : ℕ) → is_ascii_hexdigit h ≡ true → is_ascii_hexdigit l ≡ true
    → packed_values (37 ∷ h ∷ l ∷ s) (suc (suc (suc n))) ≡ (16 * digit_value h + digit_value l) ∷ packed_values s n
packed_escape h l s n p q =
    let vs = take n (place_values s) in
    let y = first_value (h ∷ l ∷ s) in
    let z = first_value (l ∷ s) in
    let first = clear_bit false (first_value (37 ∷ h ∷ l ∷ s)) (y ∷ z ∷ vs) (1 + 2 * (1 + 2 * dropped s)) in
    let second = clear_bit true y (z ∷ vs) (1 + 2 * dropped s) in
    let third = clear_bit true z vs (dropped s) in
    grind (arith, dropped_escape h l s p q)

-- a body, byte by byte
plain_passes : (b : ℕ) (s : List ℕ) → is_tab_or_newline b ≡ true → plain_body (b ∷ s) ≡ plain_body s
plain_passes b s h = grind (arith, plain_is, cleaned_passes)

plain_keeps : (b : ℕ) (s : List ℕ) → is_tab_or_newline b ≡ false → (b == 35) ≡ false
    → begins_with_escape (b ∷ cleaned s) ≡ false → plain_body (b ∷ s) ≡ b ∷ plain_body s
plain_keeps b s t h e = grind (arith, plain_is, cleaned_keeps, decoded_byte)

plain_escape : (h l : ℕ) (s : List ℕ) → is_ascii_hexdigit h ≡ true → is_ascii_hexdigit l ≡ true
    → plain_body (37 ∷ h ∷ l ∷ s) ≡ (16 * digit_value h + digit_value l) ∷ plain_body s
plain_escape h l s p q = grind (arith, plain_is, cleaned_keeps, hex_other, decoded_escape)

-- what is known of the first byte where no stop is
pub record IsFree (b : ℕ) (s : List ℕ) (n : ℕ) : Type 0 where
  pub hash : (b == 35) ≡ false
  pub sure : (b == 37) ≡ true → is_unsure s ≡ false
  pub more : n ≤ prefix_len not (stops s)

free : (b : ℕ) (s : List ℕ) (n : ℕ) → suc n ≤ prefix_len not (stops (b ∷ s)) → IsFree b s n
free b s n l = grind (arith, cases_Bool (b == 35), cases_Bool (b == 37), cases_Bool (is_unsure s))

-- a '%' that begins no escape in the block also begins none without tabs and newlines
lone : (x y t : List ℕ) → is_unsure (x ++ y) ≡ false → length x ≤ prefix_len not (stops (x ++ y))
    → (0 < length y → begins_with_digit (cleaned t) ≡ false) → begins_with_escape (37 ∷ (x ++ y)) ≡ false
    → begins_with_escape (37 ∷ cleaned (x ++ t)) ≡ false
lone [] [] t u l o e = grind arith
lone [] (c ∷ y) t u l o e = no_escape 37 [] (cleaned t) (lit< tt) (o (omega arith))
lone (c ∷ []) [] t u l o e = grind arith
lone (c ∷ []) (d ∷ y) t u l o e =
    let f = free c (d ∷ y) 0 l in
    let none = no_escape 37 (c ∷ []) (cleaned t) (lit< tt) (o (omega arith)) in
    grind (arith, cases_Bool (is_tab_or_newline c), cleaned_keeps c t)
lone (c ∷ d ∷ x) y t u l o e =
    let f = free c (d ∷ x ++ y) (suc (length x)) l in
    let g = free d (x ++ y) (length x) f.more in
    grind (arith, cases_Bool (is_tab_or_newline c), cases_Bool (is_tab_or_newline d), cleaned_keeps)

-- x is the front of a block, y the rest of it, and t the text after the front
pub record IsFront (x y t : List ℕ) : Type 0 where
  pub free : length x ≤ prefix_len not (stops (x ++ y))
  pub closed : begins_with_digit y ≡ false
  pub apart : 0 < length y → begins_with_digit (cleaned t) ≡ false

-- the values that are packed of a front are its part of the body
pub record Decodes (x y t : List ℕ) : Type 0 where
  pub few : length (packed_values (x ++ y) (length x)) ≤ length x
  pub body_is : plain_body (x ++ t) ≡ packed_values (x ++ y) (length x) ++ plain_body t
  pub after_is : after 35 (x ++ t) ≡ after 35 t

decodes_tab : (b : ℕ) (x y t : List ℕ) → is_tab_or_newline b ≡ true → Decodes x y t → Decodes (b ∷ x) y t
decodes_tab b x y t h w =
    grind (arith, packed_tab b (x ++ y) (length x) h, plain_passes b (x ++ t) h, after_other 35 b (x ++ t))

decodes_other : (b : ℕ) (x y t : List ℕ) → is_tab_or_newline b ≡ false → (b == 35) ≡ false
    → begins_with_escape (b ∷ (x ++ y)) ≡ false → begins_with_escape (b ∷ cleaned (x ++ t)) ≡ false
    → Decodes x y t → Decodes (b ∷ x) y t
decodes_other b x y t h k e f w =
    grind (arith, packed_other b (x ++ y) (length x) h e, plain_keeps b (x ++ t) h k f, after_other 35 b (x ++ t))

decodes_escape : (h l : ℕ) (x y t : List ℕ) → is_ascii_hexdigit h ≡ true → is_ascii_hexdigit l ≡ true
    → Decodes x y t → Decodes (37 ∷ h ∷ l ∷ x) y t
decodes_escape h l x y t p q w =
    let values = packed_escape h l (x ++ y) (length x) p q in
    let body = plain_escape h l (x ++ t) p q in
    grind (arith, hex_other, after_other)

-- a byte at which no escape begins, or a tab or newline
decodes_more : (b : ℕ) (x y t : List ℕ) → IsFront (b ∷ x) y t → begins_with_escape (b ∷ (x ++ y)) ≡ false
    → Decodes x y t → Decodes (b ∷ x) y t
decodes_more b x y t f e w =
    let i = free b (x ++ y) (length x) f.free in
    elim (cases_Bool (is_tab_or_newline b)) [
      | inl h ↦ decodes_tab b x y t h w
      | inr h ↦
          let none : begins_with_escape (b ∷ cleaned (x ++ t)) ≡ false = elim (cases_Bool (b == 37)) [
            | inl p ↦ let is = eqb-true b 37 p in
                rw is (lone x y t (i.sure p) i.more f.apart (rw is at e))
            | inr p ↦ begins_other b (cleaned (x ++ t)) p
          ] in
          decodes_other b x y t h i.hash e none w
    ]

-- x without its first byte
front_more : (b : ℕ) (x y t : List ℕ) → IsFront (b ∷ x) y t → IsFront x y t
front_more b x y t f =
    record { free = (free b (x ++ y) (length x) f.free).more; closed = f.closed; apart = f.apart }

pub decodes : (x y t : List ℕ) → IsFront x y t → Decodes x y t
decodes [] y t f = grind arith
decodes (b ∷ []) y t f =
    decodes_more b [] y t f (no_escape b [] y (lit< tt) f.closed) (decodes [] y t (front_more b [] y t f))
decodes (b ∷ c ∷ []) y t f =
    decodes_more b (c ∷ []) y t f (no_escape b (c ∷ []) y (lit< tt) f.closed)
    (decodes (c ∷ []) y t (front_more b (c ∷ []) y t f))
decodes (b ∷ c ∷ d ∷ x) y t f =
    let g = front_more b (c ∷ d ∷ x) y t f in
    elim (cases_Bool (begins_with_escape (b ∷ c ∷ d ∷ x))) [
      | inl p ↦
          let i = and_parts (eqb b 37) _ p in
          let j = and_parts (is_ascii_hexdigit c) (is_ascii_hexdigit d) i.1 in
          let w = decodes x y t (front_more d x y t (front_more c (d ∷ x) y t g)) in
          rw (eqb-true b 37 i.0) (decodes_escape c d x y t j.0 j.1 w)
      | inr p ↦ decodes_more b (c ∷ d ∷ x) y t f p (decodes (c ∷ d ∷ x) y t g)
    ]
