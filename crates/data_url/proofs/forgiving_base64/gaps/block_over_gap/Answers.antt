use Rattle.std.proofs.Common.{◌∙◌, ◌+◌, ◌-◌, ◌≡◌, ◌++◌, ap, ap₂, arith, drop, drop-drop, sym, take, take-take}
use Rattle.std.{proofs.lemmas.List.{take_rest}, specs.Char.{is_ascii_whitespace}, specs.List.{prefix_len}}
use Rattle.data_url.proofs.escapes.BlockMarks.{drop_taken}
use Rattle.data_url.proofs.forgiving_base64.Groups.{over_gap, prefix_passes}
use Rattle.data_url.proofs.forgiving_base64.gaps.block_over_gap.Goals as goal

pub returns : goal.returns
returns c =
    let text = c.args.text.now in
    let p = c.args.before in
    let k = c.spaces_ahead-gap.result in
    let sum : k + p ≡ p + k = omega arith in
    let front : take p (take 64 text) ≡ take p text = take-take p 64 text (omega arith) in
    let back : drop p (take 64 (drop k text)) ≡ take (64 - p) (drop (p + k) text) =
    drop_taken p 64 (drop k text) ∙ ap (take (64 - p)) (drop-drop p k text ∙ ap (λ n. drop n text) sum) in
    let spaces : k ≡ prefix_len is_ascii_whitespace (drop p text) =
    c.spaces_ahead-gap.ensures.spaces ∙ ap (prefix_len is_ascii_whitespace) (take_rest text p) in
    over_gap 64 text c.spliced_blocks-symbols.result p k (omega arith) (omega arith)
    (c.spliced_blocks-symbols.ensures ∙ ap₂ (λ x y. x ++ y) front back)
    (sym c.is_of_symbols.ensures ∙ c.if-not-is_of_symbols.false)
    (rw spaces (prefix_passes is_ascii_whitespace (drop p text)))
