use Rattle.std.proofs.Common.{◌∙◌, ◌+◌, ◌-◌, ◌≡◌, ◌++◌, ap, ap₂, arith, drop, drop-drop, sym, take, take-take}
use Rattle.std.{proofs.lemmas.List.{drop-take, take_rest}, specs.Char.{is_ascii_whitespace}, specs.List.{prefix_len}}
use Rattle.data_url.specs.Base64.{is_symbol}
use Rattle.data_url.proofs.{classes.Lookups.{all_in_rows}, forgiving_base64.Groups.{over_gap, prefix_passes}}
use Rattle.data_url.proofs.forgiving_base64.gaps.row_over_gap.Goals as goal

pub returns : goal.returns
returns c =
    let text = c.args.text.now in
    let p = c.symbols_ahead-before.result in
    let k = c.spaces_ahead-spaces.result in
    let few = c.symbols_ahead-before.ensures.few in
    let whole : 16 ≡ p + (16 - p) = omega (arith, few) in
    let sum : k + p ≡ p + k = omega arith in
    let front : take p c.row-first.result ≡ take p text = ap (take p) c.row-first.ensures ∙ take-take p 16 text few in
    let back : drop p c.row.result ≡ take (16 - p) (drop (p + k) text) =
    ap (drop p) c.row.ensures ∙ ap (λ n. drop p (take n (drop k text))) whole ∙ drop-take p (16 - p) (drop k text)
    ∙ ap (take (16 - p)) (drop-drop p k text ∙ ap (λ n. drop n text) sum) in
    let is = c.spliced-symbols.ensures ∙ ap₂ (λ x y. x ++ y) front back in
    let spaces : k ≡ prefix_len is_ascii_whitespace (drop p text) =
    c.spaces_ahead-spaces.ensures.spaces ∙ ap (prefix_len is_ascii_whitespace) (take_rest text p) in
    let all = sym (c.is_of_symbols.ensures ∙ all_in_rows is_symbol c.spliced-symbols.result c.repeated.ensures)
    ∙ c.if-not-is_of_symbols.false in
    over_gap 16 text c.spliced-symbols.result p k few (omega arith) is all
    (rw spaces (prefix_passes is_ascii_whitespace (drop p text)))
