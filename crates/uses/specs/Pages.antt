-- The references of a page, and its parts.
use Rattle.std.specs.Prelude.{[], ◌++◌, ◌∷◌, ◌≡◌, ◌≢◌, ◌≤◌, List, codes, length, ℕ}
use Rattle.data_url.specs.Fetch.{staged}
use Rattle.uses.specs.Fetches.{IsReasonOf, IsResponseTo}
use Rattle.uses.specs.declared.inliner.Part.TheVariants.{Inlined, Refused, Text}
use Rattle.uses.specs.declared.inliner.Part.{Part}

-- '=' and '"', which open a reference, and the scheme that it begins with
abbrev pub opening : List ℕ
opening = 61 ∷ 34 ∷ codes "data:"

-- the first reference of a page: no reference is opened before it, it begins with the scheme, and it
-- ends before the next '"'
pub record IsReference (page before reference after : List ℕ) : Type 0 where
  pub joined : page ≡ before ++ (reference ++ after)
  pub start : List ℕ
  pub before_is : before ≡ start ++ (61 ∷ 34 ∷ [])
  pub rest : List ℕ
  pub reference_is : reference ≡ codes "data:" ++ rest
  pub more : List ℕ
  pub after_is : after ≡ 34 ∷ more
  pub no_quote : (xs ys : List ℕ) → reference ≢ xs ++ (34 ∷ ys)
  pub first : (xs ys : List ℕ) → page ≡ xs ++ (opening ++ ys) → length start ≤ length xs

-- the page has no reference that is opened and, later, closed
abbrev pub HasNoReference : List ℕ → Type 0
HasNoReference page = (xs ys zs : List ℕ) → page ≢ xs ++ (opening ++ (ys ++ (34 ∷ zs)))

-- the text of a part in the page
abbrev pub source_of : Part → List ℕ
source_of (Text text) = text.now
source_of (Inlined reference response) = reference.now
source_of (Refused reference reason) = reference.now

-- the part is this text
abbrev pub IsText : List ℕ → Part → Type 0
IsText text (Text s) = s.now ≡ text
IsText text (Inlined reference response) = ⊥
IsText text (Refused reference reason) = ⊥

-- the part of a reference: its response, or why there is none
abbrev pub Inlines : List ℕ → Part → Type 0
Inlines reference (Text s) = ⊥
Inlines reference (Inlined s response) = (s.now ≡ reference) × IsResponseTo reference response
Inlines reference (Refused s reason) = (s.now ≡ reference) × IsReasonOf (staged reference) reason

-- the parts of a page: the text before its first reference, that reference, and the parts of the rest
-- of the page; or the whole page as text, if it has no reference
abbrev pub IsPage : List ℕ → List Part → Type 0
IsPage page [] = ⊥
IsPage page (text ∷ []) = IsText page text × HasNoReference page
IsPage page (text ∷ part ∷ parts) =
    (before reference after : List ℕ) × IsReference page before reference after
    × IsText before text × Inlines reference part × IsPage after parts
