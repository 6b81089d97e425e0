-- Texts of code points, cut at the first code point that does not pass, and where their bytes can be cut.
use Rattle.std.proofs.{lemmas.Grind.{common_steps}, Common.{append-nil, ◌==◌, take-append-drop, length-append, drop}}
use Rattle.std.proofs.Common.{refl, one-add, subst, sym, ap, ◌∙◌, arith, zero, suc, get_or, encode_utf8_all, ◌≡◌, ℕ}
use Rattle.std.proofs.Common.{◌≤◌, ◌<◌, ◌+◌, ◌-◌, Bool, true, false, cond, List, [], ◌∷◌, ◌++◌, length, take}
use Rattle.std.proofs.{Math.Seq.{take-append_seam, drop-append_seam}, lemmas.List.Sums.{suffix_len-le-length}}
use Rattle.std.proofs.lemmas.Str.{IsUtf8-take, chars-append, chars-encodes, encodes-append, Ascii.{IsAscii-nil}}
use Rattle.std.proofs.lemmas.Str.{encodes-chars, IsCharBoundary-at_seam, encode_ascii, chars-nil, length-le-encodes}
use Rattle.std.proofs.lemmas.Str.{chars-IsAscii, IsUtf8-from_ascii}
use Rattle.std.specs.{List.{prefix_len, suffix_len}, Str.{chars, IsCharBoundary, IsUtf8, all_scalars, IsAscii}}
use Rattle.data_url.specs.{Mime.{DoesNotBegin, Every}, Steps.Parsing.{IsTrimmedEnd, front_of, DoesNotEnd}}
use Rattle.data_url.specs.Url.{is_c0_control_or_space, without_end, without_start}
use lib.Utf8.{encode}
use mathlib.Core.List.{reverse_aux}

-- if all of a passes, and b does not begin with a code point that passes, a is the longest prefix of a ++ b that passes
pub front_len : (p : ℕ → Bool) (a b : List ℕ) → Every p a → DoesNotBegin p b → prefix_len p (a ++ b) ≡ length a
front_len p [] [] h e = refl
front_len p [] (c ∷ b) h e = grind arith
front_len p (c ∷ a) b h e = grind (arith, front_len p a b h.1 e)

-- a is then the longest prefix, and b the text after it
pub front_is : (p : ℕ → Bool) (a b : List ℕ) → Every p a → DoesNotBegin p b → (front_of p (a ++ b) ≡ a) ×
    (without_start p (a ++ b) ≡ b)
front_is p a b h e = grind (arith, front_len, take-append_seam, drop-append_seam)

-- each code point of the longest prefix that passes does pass
pub front_passes : (p : ℕ → Bool) (s : List ℕ) → Every p (front_of p s)
front_passes p [] = tt
front_passes p (c ∷ s) = elim (p c) as (λ v. p c ≡ v → Every p (take (cond v (1 + prefix_len p s) 0) (c ∷ s))) [
  | true ↦ λ e. rw one-add (e, front_passes p s)
  | false ↦ λ e. tt
] refl

-- the text after the longest prefix that passes does not begin with a code point that passes
pub after_begins : (p : ℕ → Bool) (s : List ℕ) → DoesNotBegin p (without_start p s)
after_begins p [] = tt
after_begins p (c ∷ s) = elim (p c) as (λ v. p c ≡ v → DoesNotBegin p (drop (cond v (1 + prefix_len p s) 0) (c ∷ s))) [
  | true ↦ λ e. rw one-add (after_begins p s)
  | false ↦ λ e. e
] refl

-- if the first n bytes pass, the longest prefix that passes is n bytes longer than that of the text after these bytes
pub front_further : (p : ℕ → Bool) (bytes : List ℕ) (n : ℕ) → n ≤ length bytes
    → ((k : ℕ) → k < n → p (get_or bytes k 0) ≡ true) → prefix_len p bytes ≡ n + prefix_len p (drop n bytes)
front_further p bytes zero l h = omega arith
front_further p [] (suc n) l h = absurd (omega arith)
front_further p (b ∷ bytes) (suc n) l h =
    grind (arith, h 0 (omega arith), front_further p bytes n (omega arith) (λ k m. h (suc k) (omega arith)))

-- if each code point of `back` passes, putting it before a text in reverse makes the prefix that passes longer by it
onto_len : (p : ℕ → Bool) (back acc : List ℕ) → Every p back
    → prefix_len p (reverse_aux back acc) ≡ length back + prefix_len p acc
onto_len p [] acc h = omega arith
onto_len p (c ∷ back) acc h = grind (arith, onto_len p back (c ∷ acc) h.1)

-- the same, if a text that does not end with a code point that passes comes first
end_onto : (p : ℕ → Bool) (c : ℕ) (t back acc : List ℕ) → Every p back → DoesNotEnd p (c ∷ t)
    → prefix_len p (reverse_aux ((c ∷ t) ++ back) acc) ≡ length back
end_onto p c [] back acc h e = grind (arith, onto_len p back (c ∷ acc) h)
end_onto p c (d ∷ t) back acc h e = end_onto p d t back (c ∷ acc) h e

-- the longest suffix of t ++ back that passes is `back`, if `back` passes and t does not end with one that passes
end_len : (p : ℕ → Bool) (t back : List ℕ) → Every p back → DoesNotEnd p t → suffix_len p (t ++ back) ≡ length back
end_len p [] back h e = grind (arith, onto_len p back [] h)
end_len p (c ∷ t) back h e = end_onto p c t back [] h e

-- if t is s without its longest suffix that passes, t is `without_end p s`
pub trimmed_end_is : (p : ℕ → Bool) (s t : List ℕ) → IsTrimmedEnd p s t → t ≡ without_end p s
trimmed_end_is p s t h = grind (arith, common_steps, end_len)

-- a text that does not end with a code point that passes has no suffix that passes
pub end_stays : (p : ℕ → Bool) (t : List ℕ) → DoesNotEnd p t → without_end p t ≡ t
end_stays p t e = sym (trimmed_end_is p t t (record { back = []; joined = sym (append-nil t); at_back = tt; ends = e }))

-- so is a text without its longest prefix that passes, if it does not begin with a code point that passes
pub start_stays : (p : ℕ → Bool) (s : List ℕ) → DoesNotBegin p s → without_start p s ≡ s
start_stays p [] h = refl
start_stays p (c ∷ s) h = grind (arith, h)

-- if no code point of a class passes, a text of this class does not end with one that passes
pub not_ends_every : (p q : ℕ → Bool) → ((c : ℕ) → q c ≡ true → p c ≡ false) → (t : List ℕ) → Every q t → DoesNotEnd p t
not_ends_every p q n [] h = tt
not_ends_every p q n (c ∷ []) h = n c h.0
not_ends_every p q n (c ∷ d ∷ t) h = not_ends_every p q n (d ∷ t) h.1

-- if a text is such two texts, so is the text with one more code point at the front
end_before : (p : ℕ → Bool) (c : ℕ) (s t : List ℕ) → IsTrimmedEnd p s t → (t : List ℕ) × IsTrimmedEnd p (c ∷ s) t
end_before p c s [] h = elim (p c) as (λ v. p c ≡ v → (t : List ℕ) × IsTrimmedEnd p (c ∷ s) t) [
  | true ↦ λ e. ([], record { back = c ∷ s; joined = refl; at_back = (e, rw (h.joined) h.at_back); ends = tt })
  | false ↦ λ e. (c ∷ [], record { back = s; joined = refl; at_back = rw (h.joined) h.at_back; ends = e })
] refl
end_before p c s (d ∷ t) h = (
  c ∷ d ∷ t,
  record { back = h.back; joined = ap (λ x. c ∷ x) h.joined; at_back = h.at_back; ends = h.ends },
)

-- each text is a text that does not end with a code point that passes, and then a text that passes
has_end : (p : ℕ → Bool) (s : List ℕ) → (t : List ℕ) × IsTrimmedEnd p s t
has_end p [] = grind arith
has_end p (c ∷ s) = let h = has_end p s in end_before p c s h.0 h.1

-- the class has all or none of the code points that are not ASCII
abbrev pub IsSteady : (ℕ → Bool) → Type 0
IsSteady p = (c : ℕ) → 128 ≤ c → p c ≡ p 128

-- the bytes of a code point pass exactly if the code point does
front_char : (p : ℕ → Bool) (c : ℕ) (r : List ℕ) → IsSteady p
    → prefix_len p (encode c ++ r) ≡ cond (p c) (length (encode c) + prefix_len p r) 0
unfolding encode
front_char p c r s = grind (arith, s)

-- the longest prefix of an encoded text is that of the text, encoded
pub front_encodes : (p : ℕ → Bool) → IsSteady p → (cs : List ℕ)
    → prefix_len p (encode_utf8_all cs) ≡ length (encode_utf8_all (front_of p cs))
front_encodes p s [] = refl
front_encodes p s (c ∷ cs) = front_char p c (encode_utf8_all cs) s ∙ elim (p c) as (λ v.
    cond v (length (encode c) + prefix_len p (encode_utf8_all cs)) 0
    ≡ length (encode_utf8_all (take (cond v (1 + prefix_len p cs) 0) (c ∷ cs)))) [
      | true ↦ rw one-add (grind (arith, front_encodes p s cs, length-append))
      | false ↦ refl
    ]

-- if all code points of xs ++ ys are Unicode scalar values, so are those of xs and of ys
scalars_parts : (xs ys : List ℕ) → all_scalars (xs ++ ys) ≡ true → (all_scalars xs ≡ true) × (all_scalars ys ≡ true)
scalars_parts [] ys h = (refl, h)
scalars_parts (x ∷ xs) ys h = grind (arith, scalars_parts xs ys)

-- a text is cut at byte n, where its code points are xs and then ys
pub record IsCutInto (bs : List ℕ) (n : ℕ) (xs ys : List ℕ) : Type 0 where
  pub boundary : IsCharBoundary bs n
  pub front : chars (take n bs) ≡ xs
  pub after : chars (drop n bs) ≡ ys

-- a UTF-8 text can be cut after the bytes of each prefix of its code points
pub cut_into : (bs xs ys : List ℕ) (n : ℕ) → IsUtf8 bs → chars bs ≡ xs ++ ys → n ≡ length (encode_utf8_all xs)
    → IsCutInto bs n xs ys
cut_into bs xs ys n u e l =
    let a = encode_utf8_all xs in
    let b = encode_utf8_all ys in
    let whole : bs ≡ a ++ b = cc (encodes-chars bs u, encodes-append xs ys) in
    grind (arith, scalars_parts, IsCharBoundary-at_seam, take-append_seam, chars-encodes, drop-append_seam)

-- a UTF-8 text can be cut after its longest prefix that passes
pub cut_front : (p : ℕ → Bool) → IsSteady p → (bs : List ℕ) → IsUtf8 bs
    → IsCutInto bs (prefix_len p bs) (front_of p (chars bs)) (without_start p (chars bs))
cut_front p s bs u = cut_into bs _ _ (prefix_len p bs) u (sym (take-append-drop (prefix_len p (chars bs)) (chars bs)))
    (ap (prefix_len p) (sym (encodes-chars bs u)) ∙ front_encodes p s (chars bs))

-- a text of no bytes has no code points
pub no_chars : (bs : List ℕ) → length bs ≡ 0 → chars bs ≡ []
no_chars [] e = chars-nil
no_chars (b ∷ bs) e = absurd (omega arith)

-- an encoded text is empty exactly if the text is
empty_encodes : (cs : List ℕ) → (length cs == 0) ≡ (length (encode_utf8_all cs) == 0)
empty_encodes [] = refl
empty_encodes (c ∷ cs) = grind (arith, length-le-encodes (c ∷ cs))

-- a UTF-8 text has code points exactly if it has bytes
pub same_empty : (bs : List ℕ) → IsUtf8 bs → (length (chars bs) == 0) ≡ (length bs == 0)
same_empty bs u = grind (arith, empty_encodes, encodes-chars)

-- if a ++ b does not end with a code point that passes, b does not either
ends_right : (p : ℕ → Bool) (a b : List ℕ) → DoesNotEnd p (a ++ b) → DoesNotEnd p b
ends_right p [] b h = h
ends_right p (x ∷ []) [] h = tt
ends_right p (x ∷ []) (y ∷ b) h = h
ends_right p (x ∷ y ∷ a) b h = ends_right p (y ∷ a) b h

module _ (p : ℕ → Bool) (steady : IsSteady p) (other : p 128 ≡ false) where
  -- if the bytes of a text do not end with a byte that passes, its code points do not end with one that passes
  chars_end : (cs : List ℕ) → DoesNotEnd p (encode_utf8_all cs) → DoesNotEnd p cs
  chars_end [] h = tt
  chars_end (c ∷ []) h = grind (arith, encode_ascii, steady c)
  chars_end (c ∷ d ∷ cs) h = chars_end (d ∷ cs) (ends_right p (encode c) (encode_utf8_all (d ∷ cs)) h)

  -- a text that passes is ASCII
  pub every_ascii : (t : List ℕ) → Every p t → IsAscii t
  every_ascii [] h = IsAscii-nil
  every_ascii (c ∷ t) h = grind (arith, every_ascii t h.1)

  -- the front of a text without its longest suffix that passes, as bytes and as code points
  pub record IsEnd (bs : List ℕ) (n : ℕ) : Type 0 where
    pub boundary : IsCharBoundary bs n
    pub trimmed : IsTrimmedEnd p (chars bs) (chars (take n bs))
    pub without : chars (take n bs) ≡ without_end p (chars bs)

  -- a UTF-8 text can be cut before its longest suffix that passes
  pub cut_end : (bs : List ℕ) → IsUtf8 bs → IsEnd bs (length bs - suffix_len p bs)
  cut_end bs u =
      let h = has_end p bs in
      let t = h.0 in
      let back = h.1.back in
      let ascii = every_ascii back h.1.at_back in
      let n : length bs - suffix_len p bs ≡ length t =
      grind (arith, end_len p t back h.1.at_back h.1.ends, length-append t back, h.1.joined) in
      let whole : take (length t) bs ≡ t = ap (take (length t)) h.1.joined ∙ take-append_seam t back in
      let boundary = IsCharBoundary-at_seam bs t back h.1.joined (IsUtf8-from_ascii back ascii) in
      let text : IsUtf8 t = subst IsUtf8 whole (IsUtf8-take bs (length t) u boundary) in
      let trimmed = subst (λ x. IsTrimmedEnd p (chars bs) (chars x)) (sym whole) (record {
        back = back;
        joined = cc (h.1.joined, chars-append t back text, chars-IsAscii back ascii);
        at_back = h.1.at_back;
        ends = chars_end (chars t) (subst (DoesNotEnd p) (sym (encodes-chars t text)) h.1.ends);
      }) in
      rw n (record { boundary = boundary; trimmed = trimmed; without = trimmed_end_is p _ _ trimmed })

-- no C0 control or space is beyond ASCII
pub controls_steady : IsSteady is_c0_control_or_space
controls_steady c l = grind arith

-- a UTF-8 text can be cut before those at its end
pub controls_end : (bs : List ℕ) → IsUtf8 bs → IsCharBoundary bs (length bs - suffix_len is_c0_control_or_space bs)
controls_end bs u = (cut_end is_c0_control_or_space controls_steady refl bs u).boundary

-- what `trim` needs of its cuts
pub ruleset controls = (cut_front, controls_steady, controls_end, suffix_len-le-length)
