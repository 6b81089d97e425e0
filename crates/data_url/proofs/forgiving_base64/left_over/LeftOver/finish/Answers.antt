use Rattle.std.proofs.Common.{refl, rules}
use Rattle.data_url.specs.contracts.forgiving_base64.left_over.fn.LeftOver.finish.finish_part as closure
use Rattle.data_url.proofs.forgiving_base64.Resumed.{end_fits, end_valid}
use Rattle.data_url.proofs.forgiving_base64.Steps.{bool_at_true}
use Rattle.data_url.proofs.parts.Outputs.{passes_keeps, passes_written}
use Rattle.data_url.proofs.forgiving_base64.left_over.LeftOver.finish.Goals as goal

pub returns-in-Ok : goal.returns-in-Ok
returns-in-Ok c =
    let h = end_valid c.finish_part-decoded.ensures c.in-Ok.is in
    let output = passes_keeps h.1 (λ f. f.0.ghost_name) (λ f p r f' k. search rules) in
    let len = passes_keeps h.1 (λ f. f.1.ghost_name) (λ f p r f' k. search rules) in
    bool_at_true _ _ _ h.0 (
      _,
      refl,
      passes_written h.1 (λ f. (closure.captures f).output.now) (λ f. (closure.captures f).len)
          (λ f p f' k. search rules) (search rules) (search rules) (search (rules, output, len))
          (search (rules, output, len)) (search (rules, end_fits c.args.self)),
    )
