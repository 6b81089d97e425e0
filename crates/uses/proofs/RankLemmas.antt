-- The first of the highest rank, among the ranks that were read.
use Rattle.std.proofs.Common.{◌≡◌, ℕ, ◌<◌, ◌≤◌, ◌+◌, List, length, map, get_or, Option, None, Some, sym, ap, ◌∙◌, arith}
use borrow.Author.Count.{below_more}
use Rattle.std.specs.Prelude.{slice_index}
use Rattle.std.proofs.lemmas.List.{get_or-map}

-- none of the ranks below i is more than 0, or this is the first of the highest
abbrev pub IsLeader : List ℕ → ℕ → ℕ → Option ℕ → Type 0
IsLeader ranks i highest None = highest ≡ 0
IsLeader ranks i highest (Some p) = (p < i) × (slice_index ranks p ≡ highest) × (0 < highest)
    × ((j : ℕ) → j < p → slice_index ranks j < highest)

-- `highest` is at least each of the first i ranks, and `best` is the index of its first occurrence, if it is not 0
pub record Leads (ranks : List ℕ) (i : ℕ) (best : Option ℕ) (highest : ℕ) : Type 0 where
  pub below : (j : ℕ) → j < i → slice_index ranks j ≤ highest
  pub leader : IsLeader ranks i highest best

-- if no rank before a place is above the highest, nor is the rank at the place, no rank before the next place is
below_next : (ranks : List ℕ) (i highest : ℕ) → ((m : ℕ) → m < i → slice_index ranks m ≤ highest)
    → slice_index ranks i ≤ highest → (j : ℕ) → j < i + 1 → slice_index ranks j ≤ highest
below_next ranks i highest b e j k = below_more (λ m. slice_index ranks m ≤ highest) i b e j k

-- a rank that is higher than the highest so far is the best
pub leads_higher : {ranks : List ℕ} {best : Option ℕ} {highest : ℕ} (i rank : ℕ) → Leads ranks i best highest
    → slice_index ranks i ≡ rank → highest < rank → Leads ranks (i + 1) (Some i) rank
leads_higher {ranks} {best} {highest} i rank l e h = grind (arith, below_next)

-- the first occurrence of `highest` before index i, if this rank is not 0, is also the first before i + 1
still_leads : (ranks : List ℕ) (highest : ℕ) (best : Option ℕ) (i : ℕ) → IsLeader ranks i highest best
    → IsLeader ranks (i + 1) highest best
still_leads ranks highest None i h = h
still_leads ranks highest (Some p) i h = (omega (arith, h.0), h.1, h.2, h.3)

-- a rank that is at most the highest so far changes nothing
pub leads_no_higher : {ranks : List ℕ} {best : Option ℕ} {highest : ℕ} (i rank : ℕ) → Leads ranks i best highest
    → slice_index ranks i ≡ rank → rank ≤ highest → Leads ranks (i + 1) best highest
leads_no_higher {ranks} {best} {highest} i rank l e h = grind (arith, below_next, still_leads)

-- the rank of an item that was read
pub rank_at : {A : Type 0} (f : A → ℕ) (xs : List A) (i : ℕ) (x : A) → i < length xs → x ≡ get_or xs i x
    → slice_index (map f xs) i ≡ f x
rank_at f xs i x h e = get_or-map f xs i x 0 h ∙ ap f (sym e)
