-- Pieces, and texts that are no pieces, by computation.
use Rattle.std.proofs.Common.{◌≡◌, [], ◌∷◌, ◌++◌, codes, false, refl, true}
use Rattle.data_url.specs.{Percent.{begins_with_escape}, Pieces.{IsEscape, IsStretch}}
use Rattle.data_url.proofs.examples.Literals.{on_literals}

-- no pieces: a raw tab before an escape that is decoded to a tab, the bytes after '#', and a tab after an escape
no_pieces : (IsStretch (9 ∷ codes "%09") 0 4 (9 ∷ []) → ⊥) × (IsStretch (codes "A#A#") 1 3 (codes "A") → ⊥)
    × (IsEscape (codes "A#%41") 1 5 65 → ⊥) × (IsEscape (codes "%#41") 0 4 65 → ⊥)
    × (IsEscape (codes "%41" ++ 9 ∷ []) 0 4 65 → ⊥)
unfolding on_literals
no_pieces = (
  λ h. let e = h.skipped in cc,
  λ h. let e = h.in_front in cc,
  λ h. let e = h.is_escape in cc,
  λ h. let e = h.is_escape in cc,
  λ h. let e = h.ends in cc,
)

-- an escape may have tabs and newlines before it and in it
escape_with_tabs : IsEscape (9 ∷ codes "%4" ++ 10 ∷ codes "1A") 0 5 65
unfolding on_literals
escape_with_tabs = record { is_escape = refl; value_is = refl; ends = refl }

-- two digits and '%' are an escape, and one is not
digits : (begins_with_escape (codes "%4aB") ≡ true) × (begins_with_escape (codes "%4") ≡ false)
digits = (refl, refl)
