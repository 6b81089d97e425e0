use Rattle.std.{proofs.Common.{[], arith, map, refl}, proofs.lemmas.List.{get_or-map, length-map}}
use Rattle.data_url.specs.Steps.Few.{sliced_pair}
use Rattle.data_url.proofs.mime.PartTexts.{puts_pair}
use Rattle.data_url.proofs.mime.in_parts.put_slices.Goals as goal

pub loop-slice-preserved : goal.loop-slice-preserved
loop-slice-preserved c =
    let slices = c.args.slices.now in
    puts_pair (map (λ s. sliced_pair s) slices) c.loop-slice.slice-index _ _ _ c.loop-slice.invariant
    (omega (arith, length-map slices (λ s. sliced_pair s), c.loop-slice-test.true))
    (get_or-map (λ s. sliced_pair s) slices c.loop-slice.slice-index _ ([], []) c.loop-slice-test.true) refl refl
    c.put_lowercase-end.ensures c.put_value-end.ensures
