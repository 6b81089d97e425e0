-- What the parser cuts: values of parameters, type, subtype and parameters. For `parse.rt`, `values.rt`, `cuts.rt`.
use Rattle.std.proofs.Common.{length, take, drop, encode_utf8_all, refl, sym, ap, ◌∙◌, arith, take-append-drop}
use Rattle.std.proofs.Common.{length-take-le, codes, subst, take-take, length-take, ◌≡◌, ℕ, zero, suc, ◌+◌, ◌-◌, ◌<◌}
use Rattle.std.proofs.Common.{get_or, ◌≢◌, ◌==◌, Bool, true, false, not, List, [], ◌∷◌, ◌++◌, ◌≤◌, ◌||◌, ◌⊎◌, None}
use Rattle.std.proofs.Common.{Some, append-nil, cond}
use Rattle.std.proofs.{Common.{nat_le, encode_utf8, map, Option, eqb-true}, Math.Seq.{take-length}}
use Rattle.std.proofs.lemmas.{List.{drop_more, take_rest, Folds.{list_all-append}}, Bool.{agree_below_at, false≢true}}
use Rattle.std.proofs.lemmas.List.Sums.{prefix_len-le-length, prefix_len_passes, suffix_len-le-length}
use Rattle.std.proofs.lemmas.Str.{chars_past_char, encode_ascii, encodes-chars}
use Rattle.std.specs.Option.{MatchOption}
use Rattle.std.specs.{Str.{IsCharBoundary, IsUtf8, chars}, Char.{to_ascii_lowercase}, List.{list_all, prefix_len}}
use Rattle.data_url.specs.{CodePoints.{is_http_whitespace, is_quotable, is_token}, Url.{without_end, without_start}}
use Rattle.data_url.specs.Mime.{DoesNotBegin, Every, unless_empty, BeginsParameters, IsHead, is_token_text, valid_of}
use Rattle.data_url.specs.Steps.Parsing.{DoesNotEnd, front_of, in_value, is_escaped, is_quotable_byte, is_unquoted_byte}
use Rattle.data_url.specs.Steps.Parsing.{item_in, named, pair_if, reading, reading_in, IsTrimmed, IsTrimmedEnd}
use Rattle.data_url.specs.Steps.Parsing.{quotable_value}
use Rattle.data_url.specs.Steps.Parsing.{unescaped, HasNoHead, IsTokens, after_char, in_name}
use Rattle.data_url.specs.declared.mime.parse.Head.{Head}
use Rattle.data_url.proofs.examples.Literals.{on_literals}
use Rattle.data_url.proofs.texts.CodePoints.{after_begins, end_stays, same_empty, start_stays}
use Rattle.data_url.proofs.texts.CodePoints.{trimmed_end_is, IsCutInto}
use Rattle.data_url.proofs.texts.CodePoints.{IsSteady, cut_front, cut_into, front_further, front_passes}
use Rattle.data_url.proofs.mime.Items.{has_parts}
use Rattle.data_url.proofs.{mime.{Items.{trimmed_of}, TokenTexts.{values_steady, whole_front}}}
use Rattle.data_url.proofs.mime.TokenTexts.{all_from_every, spaces_end, spaces_steady, tokens}
use lib.Utf8.{encode}

-- a byte of the UTF-8 of quoted-string code points is below 196
quotable_byte_below : (b : ℕ) → is_quotable_byte b ≡ true → b < 196
unfolding is_quotable_byte
quotable_byte_below b h = grind arith

-- for a code point below 2048, its bytes are all quotable exactly if it is a quoted-string code point
low_quotable : (c : ℕ) → c < 2048 → list_all is_quotable_byte (encode c) ≡ is_quotable c
unfolding encode is_quotable is_quotable_byte
low_quotable c l = agree_below_at (λ x. list_all is_quotable_byte (encode x)) is_quotable 2048 c refl l

-- the bytes of an encoded text are all quotable exactly if its code points are all quotable
quotable_bytes : (cs : List ℕ) → list_all is_quotable_byte (encode_utf8_all cs) ≡ list_all is_quotable cs
unfolding encode is_quotable
quotable_bytes [] = refl
quotable_bytes (c ∷ cs) = grind (arith, list_all-append, low_quotable, quotable_byte_below, quotable_bytes cs)

-- each byte of a UTF-8 text passes `is_quotable_byte` exactly if each of its code points passes `is_quotable`
quotable_chars : (bs : List ℕ) → IsUtf8 bs → list_all is_quotable_byte bs ≡ list_all is_quotable (chars bs)
quotable_chars bs u = ap (list_all is_quotable_byte) (sym (encodes-chars bs u)) ∙ quotable_bytes (chars bs)

-- the first bytes of a value are all quotable exactly if there are no more of them than unquoted bytes at its front
quotable_front : (s : List ℕ) (k : ℕ) → k ≤ prefix_len in_value s
    → list_all is_quotable_byte (take k s) ≡ nat_le k (prefix_len is_unquoted_byte s)
quotable_front s zero l = grind arith
quotable_front [] (suc k) l = absurd (omega arith)
quotable_front (c ∷ s) (suc k) l = grind (arith, quotable_front s k)

-- a value is quotable if it is not empty and has only quoted-string code points
value_if : (v : List ℕ) → quotable_value (unless_empty v)
    ≡ cond ((length v == 0) || not (list_all is_quotable v)) None (Some v)
value_if [] = refl
value_if (c ∷ v) = grind arith

module _ {text bytes : List ℕ} {q more : ℕ} (u : IsUtf8 text) (e : bytes ≡ text)
    (f : q ≡ prefix_len is_unquoted_byte bytes) (g : more ≡ prefix_len in_value (take (length bytes - q)
    (drop q bytes))) where
  -- the longest prefix without ';' is the longest one of unquoted bytes, and then that without ';' of the rest
  front_len : q + more ≡ prefix_len in_value text
  front_len = grind (arith, take_rest, front_further, prefix_len-le-length, prefix_len_passes)

  -- a UTF-8 text can be cut there
  pub cut_plain : IsCutInto text (q + more) (front_of in_value (chars text)) (without_start in_value (chars text))
  cut_plain = rw front_len (cut_front in_value values_steady text u)

  module _ {front t : List ℕ} {b : Bool} (w : IsUtf8 t) (h : front ≡ take (q + more) text) (k : t ≡ take
      (length t) front)
      (l : chars t ≡ without_end is_http_whitespace (chars front)) (z : b ≡ (length t == 0)) where
    -- the value at the front has only quoted-string code points if it has no more than the unquoted bytes
    quotable_if : list_all is_quotable (chars t) ≡ nat_le (length t) q
    quotable_if =
        let n = front_len in
        let few : length t ≤ q + more = grind (arith, length-take) in
        let t_is : t ≡ take (length t) text = cc (take-take (length t) (q + more) text few) in
        cc (quotable_chars t w, quotable_front text (length t) (omega arith))

    -- the value is this text if it is not empty and has no more
    value_is : quotable_value (unless_empty (without_end is_http_whitespace (front_of in_value (chars text))))
        ≡ cond (b || not (nat_le (length t) q)) None (Some (chars t))
    value_is = grind (arith, cut_plain, value_if, same_empty, quotable_if)

    -- otherwise, there is no value
    pub no_value : (b ≡ true) ⊎ ((b ≡ false) × (q < length t)) → None
        ≡ quotable_value (unless_empty (without_end is_http_whitespace (front_of in_value (chars text))))
    no_value x = let v = value_is in grind arith

    -- the value
    pub some_value : b ≡ false → length t ≤ q → Some (chars t)
        ≡ quotable_value (unless_empty (without_end is_http_whitespace (front_of in_value (chars text))))
    some_value x m = let v = value_is in grind arith

-- the text of a quoted string has only quoted-string code points exactly if its value has
pub unescaped_quotable : (e : Bool) (s : List ℕ) → list_all is_quotable (unescaped e s) ≡ list_all is_quotable s
unfolding is_quotable
unescaped_quotable true [] = refl
unescaped_quotable false [] = refl
unescaped_quotable true (c ∷ s) = grind (arith, unescaped_quotable false s)
unescaped_quotable false (c ∷ s) = grind (arith, unescaped_quotable false s, unescaped_quotable true s)

-- the code points of a text are quotable exactly if the longest prefix of quotable bytes is the whole text
pub quotable_by : (bs : List ℕ) → IsUtf8 bs
    → list_all is_quotable (chars bs) ≡ (prefix_len is_quotable_byte bs == length bs)
quotable_by bs u = cc (quotable_chars bs u, whole_front is_quotable_byte bs)

-- the lemmas for `values.rt`
pub ruleset quotable_values = (quotable_by, unescaped_quotable)

-- if a class is steady, and each byte of a UTF-8 text passes, so does each of its code points
pub whole_passes : (p : ℕ → Bool) → IsSteady p → (bs bytes : List ℕ) (n : ℕ) → IsUtf8 bs → bytes ≡ bs
    → n ≡ prefix_len p bytes → n ≡ length bs → Every p (chars bs)
whole_passes p s bs bytes n u e f g = grind (arith, cut_front, take-length, front_passes)

-- removing the escapes of a text without '"' and '\' does not change it
stays_unescaped : (cs : List ℕ) → Every (λ c. not (is_escaped c)) cs → unescaped false cs ≡ cs
stays_unescaped [] h = refl
stays_unescaped (c ∷ cs) h = grind (arith, stays_unescaped cs h.1)

-- all code points beyond ASCII stand for themselves in a quoted string
pub unescaped_steady : IsSteady (λ c. not (is_escaped c))
unescaped_steady c l = grind arith

-- the value of a quoted string that comes before the first '"' and the first '\' is its text
pub verbatim : (bytes text : List ℕ) (n : ℕ) → IsUtf8 text → n ≡ prefix_len (λ c. not (is_escaped c)) bytes
    → text ≡ take n bytes → unescaped false (chars text) ≡ chars text
verbatim bytes text n u e f =
    let p = λ (c : ℕ). not (is_escaped c) in
    let every : Every p text = rw (f ∙ ap (λ k. take k bytes) e) (front_passes p bytes) in
    let whole = sym (eqb-true _ _ (sym (whole_front p text) ∙ all_from_every p text every)) in
    stays_unescaped (chars text) (whole_passes p unescaped_steady text text (length text) u refl whole refl)

-- the lemmas for `read_unquoted`
pub ruleset unquoted_values = (cut_plain, no_value, some_value)

-- if a text begins with an ASCII byte, its code points begin with it
pub first_char : (bs : List ℕ) (c : ℕ) → IsUtf8 bs → c < 128 → 0 < length bs → get_or bs 0 0 ≡ c
    → after_char c (chars bs) ≡ Some (chars (drop 1 bs))
first_char bs c u l n e =
    grind (
      arith,
      chars_past_char bs (drop 1 bs) c u (drop_more bs 0 0 n ∙ ap (λ x. x ∷ drop 1 bs) e
          ∙ ap (λ x. x ++ drop 1 bs) (sym (encode_ascii c l))),
    )

-- if an encoded text is empty or begins with another byte, the text does not begin with it
no_first : (cs bs : List ℕ) (c : ℕ) → encode_utf8_all cs ≡ bs → c < 128 → (length bs ≡ 0) ⊎ (get_or bs 0 0 ≢ c)
    → after_char c cs ≡ None
no_first [] bs c e l n = refl
no_first (b ∷ cs) bs c e l n = grind (arith, eqb-true, encode_ascii)

-- if a text is empty or begins with another byte, its code points do not begin with it
pub no_first_char : (bs : List ℕ) (c : ℕ) → IsUtf8 bs → c < 128 → (length bs ≡ 0) ⊎ (get_or bs 0 0 ≢ c)
    → after_char c (chars bs) ≡ None
no_first_char bs c u l n = no_first (chars bs) bs c (encodes-chars bs u) l n

-- if a text is not empty and does not begin with ';', it does not begin parameters
not_begins : (s : List ℕ) → after_char 59 s ≡ None → (length s == 0) ≡ false → BeginsParameters s → ⊥
not_begins [] e n b = absurd (cc)
not_begins (c ∷ s) e n b = absurd (grind arith)

-- a text that begins with ';' begins parameters
pub begins_mark : (s rest : List ℕ) → after_char 59 s ≡ Some rest → BeginsParameters s
begins_mark [] rest e = tt
begins_mark (c ∷ s) rest e = grind arith

-- an empty text begins parameters
pub begins_empty : (s : List ℕ) → (length s == 0) ≡ true → BeginsParameters s
begins_empty [] h = tt
begins_empty (c ∷ s) h = absurd (grind arith)

-- a text that begins with c is c and the rest
pub mark_is : (c : ℕ) (s rest : List ℕ) → after_char c s ≡ Some rest → s ≡ c ∷ rest
mark_is c [] rest e = absurd (cc)
mark_is c (b ∷ s) rest e = grind (arith, eqb-true)

-- a token text is not empty
token_not_nil : (a : List ℕ) → is_token_text a ≡ true → a ≡ [] → ⊥
token_not_nil [] h e = absurd (false≢true h)
token_not_nil (c ∷ a) h e = absurd (cc)

-- a text that neither begins nor ends with HTTP whitespace stays as it is without it
pub trimmed_stays : (s : List ℕ) → IsTrimmed s → trimmed_of is_http_whitespace s ≡ s
trimmed_stays s h = ap (without_end is_http_whitespace) (start_stays is_http_whitespace s h.begins)
    ∙ end_stays is_http_whitespace s h.ends

-- if a ++ b does not begin with a code point that passes, a does not either
begins_left : (p : ℕ → Bool) (a b : List ℕ) → DoesNotBegin p (a ++ b) → DoesNotBegin p a
begins_left p [] b h = tt
begins_left p (c ∷ a) b h = h

-- without HTTP whitespace at both ends, a text neither begins nor ends with it
pub is_trimmed : (s r t : List ℕ) → r ≡ without_start is_http_whitespace s → IsTrimmedEnd is_http_whitespace r t
    → IsTrimmed t
is_trimmed s r t e w = record {
  begins = begins_left is_http_whitespace t w.back
      (subst (DoesNotBegin is_http_whitespace) (sym e ∙ w.joined) (after_begins is_http_whitespace s));
  ends = w.ends;
}

-- texts that are the same without HTTP whitespace at both ends have the same heads
pub same_head : {s t a b c : List ℕ} → trimmed_of is_http_whitespace s ≡ trimmed_of is_http_whitespace t
    → IsHead s a b c → IsHead t a b c
same_head e h = record {
  gap = h.gap;
  joined = sym e ∙ h.joined;
  is_type = h.is_type;
  is_subtype = h.is_subtype;
  in_gap = h.in_gap;
  begins = h.begins;
}

-- what is read of a text without HTTP whitespace at both ends is what is in the text
pub head_of_trimmed : (s : List ℕ) {t : List ℕ} (o : Option Head) → t ≡ trimmed_of is_http_whitespace s → IsTrimmed t
    → MatchOption o (HasNoHead t) (λ h. IsHead t (chars h.type_.now) (chars h.subtype.now) (chars h.parameters.now))
    → MatchOption o (HasNoHead s) (λ h. IsHead s (chars h.type_.now) (chars h.subtype.now) (chars h.parameters.now))
head_of_trimmed s {t} None e h n = λ a b c k. n a b c (same_head (sym (trimmed_stays t h ∙ e)) k)
head_of_trimmed s {t} (Some found) e h k = same_head (trimmed_stays t h ∙ e) k

-- a text that is not empty and begins parameters can be cut after its ';'
past_first : (bs cs : List ℕ) → IsUtf8 bs → chars bs ≡ cs → BeginsParameters cs → 0 < length bs
    → IsCharBoundary bs 1 × (chars bs ≡ 59 ∷ chars (drop 1 bs))
unfolding encode
past_first bs [] u e b l = absurd (grind (arith, same_empty bs u))
past_first bs (c ∷ s) u e b l =
    let cut = cut_into bs (59 ∷ []) s 1 u (e ∙ ap (λ x. x ∷ s) b) refl in
    (cut.boundary, e ∙ ap (λ x. x ∷ s) b ∙ ap (λ x. 59 ∷ x) (sym cut.after))

pub past_semicolon : (bs : List ℕ) → IsUtf8 bs → BeginsParameters (chars bs) → 0 < length bs
    → IsCharBoundary bs 1 × (chars bs ≡ 59 ∷ chars (drop 1 bs))
past_semicolon bs u b l = past_first bs (chars bs) u refl b l

-- if the type is empty, there is no head
pub no_type : (s t : List ℕ) → t ≡ trimmed_of is_http_whitespace s → front_of is_token t ≡ [] → HasNoHead s
no_type s t e z a b c h = grind (arith, has_parts, token_not_nil)

module _ {s t a x : List ℕ} (first : IsTokens t a x) (e : t ≡ trimmed_of is_http_whitespace s) where
  -- if the text after the type does not begin with '/', there is no head
  pub no_slash : after_char 47 x ≡ None → HasNoHead s
  no_slash z a' b c h = let p = has_parts s a' b c h in absurd (cc (p.slash, first.after))

  module _ (y : List ℕ) (slash : after_char 47 x ≡ Some y) where
    -- if the subtype is empty, there is no head
    pub no_subtype : front_of is_token y ≡ [] → HasNoHead s
    no_subtype z a' b c h = grind (arith, has_parts s a' b c h, token_not_nil, mark_is)

    module _ {b z : List ℕ} (bs : List ℕ) (second : IsTokens y b z) (r : chars bs
        ≡ without_start is_http_whitespace z) where
      -- if the text after the subtype and HTTP whitespace is not empty and does not begin with ';', there is no head
      pub no_parameters : (length (chars bs) == 0) ≡ false → after_char 59 (chars bs) ≡ None → HasNoHead s
      no_parameters n m a' b' c h = grind (arith, has_parts s a' b' c h, mark_is, not_begins)

      -- if that text is empty or begins with ';', the parts are the head
      pub is_head : BeginsParameters (chars bs) → IsHead s a b (chars bs)
      is_head begins = grind (arith, take-append-drop, mark_is, front_passes is_http_whitespace z)

-- the pair and the rest that are read from a text that is cut after a name
pub parameter_by : (s t front after : List ℕ) {o : Option (List ℕ)} → chars front ≡ front_of in_name (chars t)
    → chars after ≡ without_start in_name (chars t) → chars t ≡ named s → after_char 61 (chars after) ≡ o
    → (value : Option (List ℕ)) → value ≡ quotable_value (reading (chars after) o).value
    → (pair_if (map to_ascii_lowercase (chars front)) value ≡ valid_of (item_in s))
    × ((reading (chars after) o).rest ≡ (reading_in s).rest)
parameter_by s t front after {o = o} g h k m value v = grind arith

-- after a code point that does not pass
pub ends_after : (p : ℕ → _) (c : ℕ) (t : List ℕ) → p c ≡ false → DoesNotEnd p t → DoesNotEnd p (c ∷ t)
ends_after p c [] n h = n
ends_after p c (d ∷ t) n h = h

-- if s is trimmed, and is empty or begins with ';', the parts of "text/plain" ++ s are "text", "plain" and s
pub text_plain_head_is : (s : List ℕ) → BeginsParameters s → IsTrimmed s
    → IsHead (codes "text/plain" ++ s) (chars (codes "text")) (chars (codes "plain")) s
unfolding on_literals chars
text_plain_head_is s b h =
    let e : IsTrimmedEnd is_http_whitespace s s =
    record { back = []; joined = sym (append-nil s); at_back = tt; ends = h.ends } in
    record {
      gap = [];
      joined = sym (trimmed_end_is is_http_whitespace (codes "text/plain" ++ s) (codes "text/plain" ++ s)
          (search (arith, e, ends_after)));
      is_type = refl;
      is_subtype = refl;
      in_gap = tt;
      begins = b;
    }

-- the lemmas for `cuts.rt`
pub ruleset cuts = (tokens, spaces_end, spaces_steady, values_steady, suffix_len-le-length, length-take-le)

-- the lemmas for `read_head`
pub ruleset heads = (same_empty, begins_empty, begins_mark, is_head, no_parameters, no_slash, no_subtype, no_type)
