-- Finding the references of a page, and joining its parts.
use Rattle.std.proofs.Common.{◌≡◌, ℕ, zero, suc, ◌<◌, ◌≤◌, ◌+◌, ◌-◌, List, [], ◌∷◌, ◌++◌, length, take, drop, get_or}
use Rattle.std.proofs.Common.{None, Some, refl, sym, ap, ◌∙◌, subst, arith, append_assoc, length-append, length-drop}
use Rattle.std.proofs.Common.{length-take, take-append-drop, inl, inr}
use Rattle.std.proofs.Math.Seq.{drop-append_seam, drop-cons, get_or-append_seam, take-add}
use Rattle.std.proofs.lemmas.Bool.{cases_lt}
use Rattle.std.proofs.lemmas.List.{append-nil, drop-drop, get_or-append-add, get_or-drop, get_or-take}
use Rattle.std.specs.List.{flat_map}
use Rattle.std.specs.Prelude.{◌≢◌, codes}
use Rattle.std.specs.Str.Pattern.{FindsText}
use Rattle.uses.specs.Pages.{HasNoReference, Inlines, IsPage, IsReference, IsText, opening, source_of}
use Rattle.uses.specs.declared.inliner.Part.{Part}
use Rattle.uses.specs.declared.inliner.Part.TheVariants.{Inlined, Refused, Text}

-- Where a reference is opened

-- the place is the first at which a reference is opened
pub record OpenedAt (page : List ℕ) (place : ℕ) : Type 0 where
  pub rest : List ℕ
  pub split : drop place page ≡ opening ++ rest
  pub first : (xs ys : List ℕ) → page ≡ xs ++ (opening ++ ys) → place ≤ length xs

-- if a page is xs and then ys, it is ys from the length of xs on
at_seam : (page xs ys : List ℕ) → page ≡ xs ++ ys → drop (length xs) page ≡ ys
at_seam page xs ys e = ap (λ s. drop (length xs) s) e ∙ drop-append_seam xs ys

-- if the opening of a reference is found in a page, the first reference is opened there
pub opened : (page : List ℕ) (place end : ℕ) → FindsText opening page (Some (place, end)) → OpenedAt page place
opened page place end m = record {
  rest = drop end page;
  split = m.1.split;
  first = λ xs ys e. elim (cases_lt (length xs) place) [
    | inl h ↦ absurd (m.0 (length xs) h ys (at_seam page xs (opening ++ ys) e))
    | inr h ↦ h
  ];
}

-- if the opening of a reference is not found in a page, the page has no reference
pub none_opened : (page : List ℕ) → FindsText opening page None → HasNoReference page
none_opened page m = λ xs ys zs e. m (length xs)
    (omega (arith, ap length e, length-append xs (opening ++ (ys ++ (34 ∷ zs))))) (ys ++ (34 ∷ zs))
    (at_seam page xs (opening ++ (ys ++ (34 ∷ zs))) e)

-- Where it ends

-- after an opening and ys, the quote is 7 + length ys bytes after the start of the opening
quote_at : (xs ys zs : List ℕ) → get_or (xs ++ (opening ++ (ys ++ (34 ∷ zs)))) (length xs + (7 + length ys)) 0 ≡ 34
quote_at xs ys zs =
    cc (
      get_or-append-add xs (opening ++ (ys ++ (34 ∷ zs))) (7 + length ys) 0,
      get_or-append-add opening (ys ++ (34 ∷ zs)) (length ys) 0,
      get_or-append_seam ys 34 zs 0,
    )

-- there is no quote after the opening
pub none_ended : (page rest : List ℕ) (place : ℕ) → OpenedAt page place → rest ≡ drop (place + 2) page
    → ((k : ℕ) → k < length rest → get_or rest k 0 ≢ 34) → HasNoReference page
none_ended page rest place o r none = λ xs ys zs e.
    let before = o.first xs (ys ++ (34 ∷ zs)) e in
    let k : ℕ = length xs + (7 + length ys) - (place + 2) in
    let at : (place + 2) + k ≡ length xs + (7 + length ys) = omega arith in
    let long : length page ≡ length xs + (7 + (length ys + (1 + length zs))) =
    omega (arith, ap length e, length-append xs (opening ++ (ys ++ (34 ∷ zs))), length-append ys (34 ∷ zs)) in
    none k (omega (arith, ap length r, length-drop (place + 2) page))
    (cc (get_or-drop (place + 2) page k 0, quote_at xs ys zs))

-- a reference that ends at a quote has the whole scheme
scheme_front : (k : ℕ) (s : List ℕ) → get_or (codes "data:" ++ s) k 0 ≡ 34
    → (rest : List ℕ) × (take k (codes "data:" ++ s) ≡ codes "data:" ++ rest)
scheme_front zero s e = absurd (omega (arith, e))
scheme_front (suc zero) s e = absurd (omega (arith, e))
scheme_front (suc (suc zero)) s e = absurd (omega (arith, e))
scheme_front (suc (suc (suc zero))) s e = absurd (omega (arith, e))
scheme_front (suc (suc (suc (suc zero)))) s e = absurd (omega (arith, e))
scheme_front (suc (suc (suc (suc (suc k))))) s e = (take k s, refl)

-- if there is no quote before index k, there is none in the first k bytes
no_quote_before : (rest : List ℕ) (k : ℕ) → k < length rest → ((m : ℕ) → m < k → get_or rest m 0 ≢ 34)
    → (xs ys : List ℕ) → take k rest ≢ xs ++ (34 ∷ ys)
no_quote_before rest k within none xs ys e =
    let few : length xs < k = omega (arith, ap length e, length-append xs (34 ∷ ys), length-take k rest) in
    none (length xs) few (cc (get_or-take k rest (length xs) 0 few, get_or-append_seam xs 34 ys 0))

-- if a reference is opened, and the next '"' is at an index of the rest, the text between is the reference
pub is_reference : (page rest : List ℕ) (place k : ℕ) → OpenedAt page place → rest ≡ drop (place + 2) page
    → k < length rest → get_or rest k 0 ≡ 34 → ((m : ℕ) → m < k → get_or rest m 0 ≢ 34)
    → IsReference page (take (place + 2) page) (take k rest) (drop k rest)
is_reference page rest place k o r within quote none =
    let rest_is : rest ≡ codes "data:" ++ o.rest = r ∙ sym (drop-drop 2 place page) ∙ ap (λ s. drop 2 s) o.split in
    let scheme = scheme_front k o.rest (ap (λ s. get_or s k 0) (sym rest_is) ∙ quote) in
    record {
      joined = cc (take-append-drop (place + 2) page, take-append-drop k rest);
      start = take place page;
      before_is = take-add place 2 page ∙ ap (λ s. take place page ++ take 2 s) o.split;
      rest = scheme.0;
      reference_is = ap (λ s. take k s) rest_is ∙ scheme.1;
      more = drop (suc k) rest;
      after_is = drop-cons rest k 0 within ∙ ap (λ b. b ∷ drop (suc k) rest) quote;
      no_quote = no_quote_before rest k within none;
      first = λ xs ys e. omega (arith, o.first xs ys e, length-take place page);
    }

-- Parts

-- the source of a part that is a text is that text
text_source : (text : List ℕ) (p : Part) → IsText text p → source_of p ≡ text
text_source text (Text s) h = h
text_source text (Inlined s response) h = absurd h
text_source text (Refused s reason) h = absurd h

-- the source of a part for a reference, inlined or refused, is that reference
inlined_source : (reference : List ℕ) (p : Part) → Inlines reference p → source_of p ≡ reference
inlined_source reference (Text s) h = absurd h
inlined_source reference (Inlined s response) h = h.0
inlined_source reference (Refused s reason) h = h.0

-- the concatenation of the texts of the parts is the page
pub sources_join : (page : List ℕ) (parts : List Part) → IsPage page parts → flat_map source_of parts ≡ page
sources_join page [] h = absurd h
sources_join page (text ∷ []) h = append-nil (source_of text) ∙ text_source page text h.0
sources_join page (text ∷ part ∷ parts) h = grind (arith, text_source, inlined_source, sources_join h.2 parts h.6)

-- the parts of the rest follow the parts so far
pub record Going (page rest : List ℕ) (parts : List Part) : Type 0 where
  pub then : (more : List Part) → IsPage rest more → IsPage page (parts ++ more)

-- the text before the next reference and the part of that reference are two more parts
pub going_more : {page rest before reference after : List ℕ} {parts : List Part} (text part : Part)
    → Going page rest parts → IsReference rest before reference after → IsText before text → Inlines reference part
    → Going page after ((parts ++ text ∷ []) ++ part ∷ [])
going_more {page} {rest} {before} {reference} {after} {parts} text part g is t i = record {
  then = λ more h.
      let P : List Part → Type 0 = λ ps. IsPage page ps in
      subst P (sym (append_assoc (parts ++ text ∷ []) (part ∷ []) more ∙ append_assoc parts (text ∷ []) (part ∷ more)))
      (g.then (text ∷ part ∷ more) (before, reference, after, is, t, i, h));
}
