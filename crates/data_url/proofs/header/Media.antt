-- The text of the MIME type in a header, without whitespace at its ends. For `split_suffix` and `media_head`.
use Rattle.std.proofs.Common.{◌≡◌, ◌++◌, ◌==◌, ◌∷◌, ◌∙◌, ◌<◌, [], Bool, List, append_assoc, arith, codes}
use Rattle.std.proofs.Common.{ap, false, inl, inr, length, length-append, refl, subst, suc, sym, take, zero, ℕ}
use Rattle.std.proofs.lemmas.Bool.{cases_Bool}
use Rattle.std.specs.Str.{chars}
use Rattle.data_url.specs.{CodePoints.{is_http_whitespace}, Fetch.{with_plain}}
use Rattle.data_url.specs.Mime.{DoesNotBegin, Parses, Record}
use Rattle.data_url.specs.Steps.Header.{IsMedia, IsPrintable, IsRecordFor}
use Rattle.data_url.specs.Steps.Parsing.{DoesNotEnd, IsTrimmed, IsTrimmedEnd}
use Rattle.data_url.specs.Url.{is_c0_control_or_space, trimmed_text, without_end, without_start}
use Rattle.data_url.proofs.examples.Literals.{on_literals}
use Rattle.data_url.proofs.header.Serialising.{ends_trimmed}
use Rattle.data_url.proofs.header.Stages.{chars_printable, printable_take, printable_trimmed}
use Rattle.data_url.proofs.mime.{Items.{trimmed_of}, Parsing.{same_head, trimmed_stays}}
use Rattle.data_url.proofs.texts.CodePoints.{after_begins, start_stays, trimmed_end_is}

-- HTTP whitespace is a C0 control or a space
space_low : (c : ℕ) → is_c0_control_or_space c ≡ false → is_http_whitespace c ≡ false
space_low c h = grind (arith, h)

-- so a text that does not begin with a C0 control or a space does not begin with HTTP whitespace
begins_low : (s : List ℕ) → DoesNotBegin is_c0_control_or_space s → DoesNotBegin is_http_whitespace s
begins_low [] h = tt
begins_low (c ∷ s) h = space_low c h

-- nor does a text end with it that does not end with one of these
ends_low : (s : List ℕ) → DoesNotEnd is_c0_control_or_space s → DoesNotEnd is_http_whitespace s
ends_low [] h = tt
ends_low (c ∷ []) h = space_low c h
ends_low (c ∷ d ∷ s) h = ends_low (d ∷ s) h

-- if a text does not begin with a code point that passes, its first n do not either
begins_take : (p : ℕ → Bool) (n : ℕ) (s : List ℕ) → DoesNotBegin p s → DoesNotBegin p (take n s)
begins_take p zero s h = tt
begins_take p (suc n) [] h = tt
begins_take p (suc n) (c ∷ s) h = h

-- a printable text without C0 controls and spaces at its ends
pub trimmed_media : (s : List ℕ) → IsPrintable s → IsMedia (trimmed_text s)
unfolding trimmed_text
trimmed_media s h = record {
  printable = printable_trimmed s h;
  trimmed = record {
    begins = begins_low _ (begins_take is_c0_control_or_space _ _ (after_begins is_c0_control_or_space s));
    ends = ends_low (without_end is_c0_control_or_space (without_start is_c0_control_or_space s))
        (ends_trimmed (without_start is_c0_control_or_space s));
  };
}

module _ {s t : List ℕ} (e : trimmed_of is_http_whitespace s ≡ trimmed_of is_http_whitespace t) where
  -- texts that are the same without HTTP whitespace at both ends have the same records
  same_parsed : {m : Record} → Parses s m → Parses t m
  same_parsed h = record {
    type_ = h.type_;
    subtype = h.subtype;
    parameters = h.parameters;
    head = same_head e h.head;
    record_is = h.record_is;
  }

-- the record for one is that for the other
same_record : {s t : List ℕ} (m : Record) → trimmed_of is_http_whitespace s ≡ trimmed_of is_http_whitespace t
    → IsRecordFor s m → IsRecordFor t m
same_record m e h = record {
  is_record = elim h.is_record [
    | inl p ↦ inl (same_parsed e p)
    | inr n ↦ inr ((λ k q. n.0 k (same_parsed (sym e) q)), n.1)
  ];
  wellformed = h.wellformed;
}

-- if a text that is not empty does not end with a code point that passes, neither does a text that ends with it
ends_append : (p : ℕ → Bool) (a : List ℕ) (c : ℕ) (t : List ℕ) → DoesNotEnd p (c ∷ t) → DoesNotEnd p (a ++ c ∷ t)
ends_append p [] c t h = h
ends_append p (b ∷ []) c t h = h
ends_append p (b ∷ d ∷ a) c t h = ends_append p (d ∷ a) c t h

-- nor does it with "text/plain" before it, if that is put there
plain_trimmed : (c : ℕ) (t : List ℕ) → IsTrimmed (c ∷ t) → IsTrimmed (with_plain (c ∷ t))
unfolding on_literals
plain_trimmed c t h = elim (cases_Bool (c == 59)) [
  | inl e ↦ rw e (record {
    begins = refl;
    ends = ends_append is_http_whitespace (codes "text/plain") c t h.ends;
  })
  | inr e ↦ rw e h
]

-- `with_plain` of a text and more is `with_plain` of the text, and then more
plain_more : (c : ℕ) (t back : List ℕ) → with_plain (c ∷ (t ++ back)) ≡ with_plain (c ∷ t) ++ back
plain_more c t back = elim (cases_Bool (c == 59)) [
  | inl e ↦ rw e (sym (append_assoc (codes "text/plain") (c ∷ t) back))
  | inr e ↦ rw e refl
]

-- a text that is not empty, and then another one, begins as the first one
begins_append : (p : ℕ → Bool) (y back : List ℕ) → DoesNotBegin p y → 0 < length y → DoesNotBegin p (y ++ back)
begins_append p [] back h l = absurd (omega arith)
begins_append p (c ∷ y) back h l = h

-- the text of a MIME type is not empty if its source is not
some_plain : (c : ℕ) (t : List ℕ) → 0 < length (with_plain (c ∷ t))
some_plain c t = elim (cases_Bool (c == 59)) [
  | inl e ↦ rw e (omega (arith, length-append (codes "text/plain") (c ∷ t)))
  | inr e ↦ rw e (omega arith)
]

-- without whitespace at the end of a text that does not begin with it, the text of the MIME type is the same, trimmed
same_media : (x t : List ℕ) → DoesNotBegin is_http_whitespace x → IsTrimmedEnd is_http_whitespace x t
    → trimmed_of is_http_whitespace (with_plain t) ≡ trimmed_of is_http_whitespace (with_plain x)
same_media [] [] b h = refl
same_media (d ∷ x) [] b h = absurd (grind (arith, h.joined, h.at_back, b))
same_media x (c ∷ t) b h =
    let y = with_plain (c ∷ t) in
    let begins : DoesNotBegin is_http_whitespace (c ∷ t) = rw h.joined at b in
    let z : IsTrimmed y = plain_trimmed c t (record { begins = begins; ends = h.ends }) in
    let whole : with_plain x ≡ y ++ h.back = ap with_plain h.joined ∙ plain_more c t h.back in
    let start : DoesNotBegin is_http_whitespace (y ++ h.back) =
    begins_append is_http_whitespace y h.back z.begins (some_plain c t) in
    trimmed_stays y z
    ∙ trimmed_end_is is_http_whitespace (y ++ h.back) y (record {
      back = h.back;
      joined = refl;
      at_back = h.at_back;
      ends = z.ends;
    })
    ∙ ap (without_end is_http_whitespace) (sym (start_stays is_http_whitespace (y ++ h.back) start))
    ∙ ap (trimmed_of is_http_whitespace) (sym whole)

module _ (s x t : List ℕ) (n : ℕ) (h : IsMedia s) (e : x ≡ take n s)
    (w : IsTrimmedEnd is_http_whitespace (chars x) (chars t)) (f : t ≡ take (length t) x) where
  -- the first bytes of such a text
  prefix_begins : DoesNotBegin is_http_whitespace x
  prefix_begins = rw e (begins_take is_http_whitespace n s h.trimmed.begins)

  prefix_printable : IsPrintable x
  prefix_printable = rw e (printable_take n s h.printable)

  -- and without whitespace at their end
  end_printable : IsPrintable t
  end_printable = subst IsPrintable (sym f) (printable_take (length t) x prefix_printable)

  end_trimmed : IsTrimmedEnd is_http_whitespace x t
  end_trimmed = subst (λ a. IsTrimmedEnd is_http_whitespace a t) (chars_printable x prefix_printable)
      (subst (λ b. IsTrimmedEnd is_http_whitespace (chars x) b) (chars_printable t end_printable) w)

  -- they are trimmed then
  pub prefix_media : IsMedia t
  prefix_media = record {
    printable = end_printable;
    trimmed = record {
      begins = subst (DoesNotBegin is_http_whitespace) (sym f)
          (begins_take is_http_whitespace (length t) x prefix_begins);
      ends = end_trimmed.ends;
    };
  }

  -- and have the same record
  pub media_record : (m : Record) → IsRecordFor (with_plain t) m → IsRecordFor (with_plain x) m
  media_record m r = same_record m (same_media x t prefix_begins end_trimmed) r
