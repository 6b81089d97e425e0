-- Texts of bytes: cut at a byte, and without tabs and newlines.
use Rattle.std.proofs.Common.{Some, refl, ap, ◌∙◌, arith, eqb-true, eq-eqb, ◌==◌, ◌≡◌, ℕ, suc, ◌<◌, true, false, List}
use Rattle.std.{proofs.Common.{[], ◌∷◌, ◌++◌, length, get_or, append-nil, None}, proofs.lemmas.Bool.{cases_Bool}}
use Rattle.std.{proofs.lemmas.Bool.{cond-true, cond-false}, specs.Option.{option_map}}
use Rattle.data_url.specs.Url.{before, after, without_tabs_and_newlines, fragment, is_tab_or_newline}
use Rattle.data_url.proofs.runs.Runs.{none_or_some}

-- a text that begins with c has no bytes before its first c
pub before_same : (c : ℕ) (s : List ℕ) → before c (c ∷ s) ≡ []
unfolding before
before_same c s = grind (arith, cond-true, eq-eqb)

-- the bytes after the first c of a text that begins with c are the rest of that text
pub after_same : (c : ℕ) (s : List ℕ) → after c (c ∷ s) ≡ Some s
unfolding after
after_same c s = grind (arith, cond-true, eq-eqb)

-- if b is not c, the bytes before the first c of b ∷ s are b and then the bytes before the first c of s
pub before_other : (c b : ℕ) (s : List ℕ) → (b == c) ≡ false → before c (b ∷ s) ≡ b ∷ before c s
unfolding before
before_other c b s h = grind (arith, cond-false)

-- if b is not c, the bytes after the first c of b ∷ s are those after the first c of s
pub after_other : (c b : ℕ) (s : List ℕ) → (b == c) ≡ false → after c (b ∷ s) ≡ after c s
unfolding after
after_other c b s h = grind (arith, cond-false)

-- the empty text has no c
pub after_nil : (c : ℕ) → after c [] ≡ None
unfolding after
after_nil c = refl

-- the empty text has no bytes before c
pub before_nil : (c : ℕ) → before c [] ≡ []
unfolding before
before_nil c = refl

-- b is not c, and s has no c
pub record Lacks (c b : ℕ) (s : List ℕ) : Type 0 where
  pub here : (b == c) ≡ false
  pub after_it : after c s ≡ None

-- if b ∷ s has no c, then b is not c, and s has no c
pub lacks : (c b : ℕ) (s : List ℕ) → after c (b ∷ s) ≡ None → Lacks c b s
unfolding after
lacks c b s h = grind arith

-- if a has no c, the bytes before the first c of a ++ s are a and then the bytes before the first c of s
pub before-append : (c : ℕ) (a s : List ℕ) → after c a ≡ None → before c (a ++ s) ≡ a ++ before c s
before-append c [] s h = refl
before-append c (b ∷ a) s h = grind (arith, lacks, before_other, before-append c a s)

-- if a has no c, the bytes after the first c of a ++ s are those after the first c of s
pub after-append : (c : ℕ) (a s : List ℕ) → after c a ≡ None → after c (a ++ s) ≡ after c s
after-append c [] s h = refl
after-append c (b ∷ a) s h = grind (arith, lacks, after_other, after-append c a s)

-- if a has no c, the bytes before c are the whole of a
pub before_all : (c : ℕ) (a : List ℕ) → after c a ≡ None → before c a ≡ a
before_all c [] h = before_nil c
before_all c (b ∷ a) h = let k = lacks c b a h in cc (before_other c b a k.here, before_all c a k.after_it)

-- if a has no c, the bytes before the first c of a ++ c ∷ s are a
pub before_at : (c : ℕ) (a s : List ℕ) → after c a ≡ None → before c (a ++ c ∷ s) ≡ a
before_at c a s h = grind (arith, before-append, before_same, append-nil)

-- if a has no c, the bytes after the first c of a ++ c ∷ s are s
pub after_at : (c : ℕ) (a s : List ℕ) → after c a ≡ None → after c (a ++ c ∷ s) ≡ Some s
after_at c a s h = after-append c a (c ∷ s) h ∙ after_same c s

-- how a text is cut by its first byte
pub ruleset first_byte = (before_nil, after_nil, before_same, after_same, before_other, after_other, lacks)

-- s is the bytes before its first c, then c, then rest; there is no c among the bytes before
pub record IsCut (c : ℕ) (s rest : List ℕ) : Type 0 where
  pub joined : s ≡ before c s ++ c ∷ rest
  pub lacks : after c (before c s) ≡ None

-- if rest is the text after the first c of s, then s is the bytes before that c, then c, then rest
pub is_cut : (c : ℕ) (s rest : List ℕ) → after c s ≡ Some rest → IsCut c s rest
is_cut c [] rest h = grind (arith, after_nil)
is_cut c (b ∷ s) rest h = grind (arith, is_cut c s rest, cases_Bool, eqb-true, first_byte)

-- if c is at no index of the text, the text has no c
pub after_none : (c : ℕ) (s : List ℕ) → ((k : ℕ) → k < length s → (get_or s k 0 == c) ≡ false) → after c s ≡ None
after_none c [] h = after_nil c
after_none c (b ∷ s) h = after_other c b s (h 0 (omega arith)) ∙ after_none c s (λ k l. h (suc k) (omega arith))

-- the empty text without tabs and newlines is empty
pub dropped_nil : without_tabs_and_newlines [] ≡ []
unfolding without_tabs_and_newlines
dropped_nil = refl

-- a tab or newline at the front of a text is dropped
pub dropped_passes : (b : ℕ) (s : List ℕ) → is_tab_or_newline b ≡ true
    → without_tabs_and_newlines (b ∷ s) ≡ without_tabs_and_newlines s
unfolding without_tabs_and_newlines
dropped_passes b s h = grind arith

-- a byte at the front of a text that is neither a tab nor a newline is kept
pub dropped_keeps : (b : ℕ) (s : List ℕ) → is_tab_or_newline b ≡ false
    → without_tabs_and_newlines (b ∷ s) ≡ b ∷ without_tabs_and_newlines s
unfolding without_tabs_and_newlines
dropped_keeps b s h = grind arith

-- dropping tabs and newlines from a ++ s drops them from a and from s
pub without_tabs_and_newlines-append : (a s : List ℕ)
    → without_tabs_and_newlines (a ++ s) ≡ without_tabs_and_newlines a ++ without_tabs_and_newlines s
unfolding without_tabs_and_newlines
without_tabs_and_newlines-append [] s = refl
without_tabs_and_newlines-append (b ∷ a) s = grind (arith, without_tabs_and_newlines-append a s)

-- if c is not a tab or newline and a text has no c, then the text without tabs and newlines has no c
pub after-dropped_none : (c : ℕ) → is_tab_or_newline c ≡ false → (s : List ℕ) → after c s ≡ None
    → after c (without_tabs_and_newlines s) ≡ None
after-dropped_none c k [] h = ap (after c) dropped_nil ∙ after_nil c
after-dropped_none c k (b ∷ s) h =
    grind (arith, lacks, cases_Bool, dropped_passes, dropped_keeps, after_other, after-dropped_none c k s)

-- if c is not a tab or newline, dropping these from a ++ c ∷ s drops them from a and from s, and keeps c
pub dropped_around : (c : ℕ) → is_tab_or_newline c ≡ false → (a s : List ℕ)
    → without_tabs_and_newlines (a ++ c ∷ s) ≡ without_tabs_and_newlines a ++ c ∷ without_tabs_and_newlines s
dropped_around c k a s = grind (arith, without_tabs_and_newlines-append, dropped_keeps)

-- if c is not a tab or newline, what follows the first c does so after tabs and newlines are dropped
pub after_dropped : (c : ℕ) → is_tab_or_newline c ≡ false → (s rest : List ℕ) → after c s ≡ Some rest
    → after c (without_tabs_and_newlines s) ≡ Some (without_tabs_and_newlines rest)
after_dropped c k s rest h = grind (arith, is_cut c s rest h, dropped_around, after_at, after-dropped_none)

-- tabs and newlines can be dropped before the fragment is cut off, or after
pub fragment_dropped : (tail : List ℕ)
    → fragment (without_tabs_and_newlines tail) ≡ option_map without_tabs_and_newlines (after 35 tail)
unfolding fragment
fragment_dropped tail = grind (arith, none_or_some (after 35 tail), after_dropped 35 refl tail, after-dropped_none)
