use Rattle.std.proofs.Common.{sym, ◌∙◌, ◌≡◌, ◌≤◌, ◌+◌, List, [], ◌∷◌, ℕ, ap, arith, drop, get_or, length}
use Rattle.std.proofs.lemmas.List.{take_rest}
use Rattle.std.{specs.{Char.{is_ascii_whitespace}, List.{prefix_len}}}
use Rattle.data_url.proofs.forgiving_base64.gaps.spaces_ahead.Goals as goal

-- a newline and a space are two bytes of white space, before that of the rest
two_spaces : (s : List ℕ) → 2 ≤ length s → get_or s 0 0 ≡ 10 → get_or s 1 0 ≡ 32
    → prefix_len is_ascii_whitespace s ≡ 2 + prefix_len is_ascii_whitespace (drop 2 s)
two_spaces [] l p q = absurd (omega arith)
two_spaces (x ∷ []) l p q = absurd (omega arith)
two_spaces (x ∷ y ∷ s) l p q = grind arith

pub returns-in-10-eq32-clause-spaces : goal.returns-in-10-eq32-clause-spaces
returns-in-10-eq32-clause-spaces c =
    let s = c.args.text.now in
    ap (λ n. 2 + n) (c.spaces_len.ensures.spaces ∙ ap (prefix_len is_ascii_whitespace) (take_rest s 2))
    ∙ sym (two_spaces s (omega (arith, c.requires)) c.in-10-default.is-0 c.in-10-eq32.is-1)
