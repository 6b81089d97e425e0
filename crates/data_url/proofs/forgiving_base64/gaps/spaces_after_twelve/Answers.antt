use Rattle.std.proofs.Common.{◌∙◌, ◌≡◌, ◌≤◌, ◌/◌, ◌%◌, ◌^◌, Bool, ℕ, [], ◌∷◌, List, ap, arith, cond, drop, false}
use Rattle.std.proofs.Common.{get_or, length, length-drop, map, not, refl, sym, true}
use Rattle.std.proofs.lemmas.{List.{get_or-drop, get_or-map, get_or-take, take_rest}, Simd.{bit_mask_l}}
use Rattle.std.specs.{Char.{is_ascii_whitespace}, List.{prefix_len}}
use Rattle.data_url.specs.Base64.{is_symbol}
use Rattle.data_url.proofs.forgiving_base64.{Padding.{classes, symbol_alone}, Vectors.{is_other}}
use Rattle.data_url.proofs.forgiving_base64.gaps.spaces_after_twelve.Goals as goal

-- a newline before a symbol is one byte of white space
one_newline : (s : List ℕ) → 2 ≤ length s → get_or s 0 0 ≡ 10 → is_symbol (get_or s 1 0) ≡ true
    → prefix_len is_ascii_whitespace s ≡ 1
one_newline [] l p q = absurd (omega arith)
one_newline (x ∷ []) l p q = absurd (omega arith)
one_newline (x ∷ y ∷ s) l p q = let k = symbol_alone (classes y) q in grind arith

-- if the bit of a byte is 0, the byte is a symbol
bit_clear : (b : Bool) → cond {A = ℕ} (not b) 1 0 ≡ 0 → b ≡ true
bit_clear true e = refl
bit_clear false e = absurd (omega (arith, e))

pub returns-then-text-eq10-clause-spaces : goal.returns-then-text-eq10-clause-spaces
returns-then-text-eq10-clause-spaces c =
    let text = c.args.text.now in
    let row = c.args.row in
    let bit = ap {B = ℕ} (λ b. cond b 1 0) (sym (get_or-map is_other row 13 0 false (omega (arith, c.fits-row.0))))
    ∙ sym (bit_mask_l (map is_other row) 13) ∙ ap (λ n. n / 2 ^ 13 % 2)
    (sym c.non_symbols.ensures ∙ c.if-non_symbols.true) in
    let next = get_or-drop 12 text 1 0
    ∙ sym (ap (λ t. get_or t 13 0) c.requires.1 ∙ get_or-take 16 text 13 0 (omega arith)) in
    sym (one_newline (drop 12 text) (omega (arith, length-drop 12 text, c.requires.0)) (get_or-drop 12 text 0 0
    ∙ c.if-text-eq10.true) (ap is_symbol next ∙ bit_clear (is_symbol (get_or row 13 0)) bit))

pub returns-clause-spaces : goal.returns-clause-spaces
returns-clause-spaces c =
    c.spaces_ahead.ensures.spaces ∙ ap (prefix_len is_ascii_whitespace) (take_rest c.args.text.now 12)
