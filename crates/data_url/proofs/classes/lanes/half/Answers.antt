use Rattle.std.proofs.Common.{◌∙◌, ◌++◌, ap, arith, drop, length-drop, length-take-le, replicate, take}
use Rattle.std.proofs.lemmas.Simd.{pick_l_left, pick_l_whole}
use Rattle.data_url.specs.declared.classes.lanes.TheConstants.{HALF_TWICE}
use Rattle.data_url.proofs.classes.lanes.half.Goals as goal

pub returns : goal.returns
returns c =
    let bytes = take 8 (drop c.args.at c.args.text.now) in
    let long = length-take-le 8 (drop c.args.at c.args.text.now)
    (omega (arith, c.requires, length-drop c.args.at c.args.text.now)) in
    c.spliced.ensures ∙ ap (λ t. take 8 t ++ replicate 8 0) (pick_l_left 0 bytes bytes 8 HALF_TWICE long tt)
    ∙ ap (λ t. t ++ replicate 8 0) (pick_l_whole 0 bytes 8 long)
