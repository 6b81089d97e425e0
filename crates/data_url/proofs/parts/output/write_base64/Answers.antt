use Rattle.std.proofs.Common.{Err, ap, arith, length, rules, ◌∙◌, ◌≤◌}
use Rattle.data_url.specs.Run.{joined_pieces}
use Rattle.data_url.specs.contracts.parts.output.fn.write_base64.write as closure
use Rattle.data_url.proofs.parts.Bodies.{leaves_at, part_gave, part_passed}
use Rattle.data_url.proofs.parts.Outputs.{passes_keeps, passes_written}
use Rattle.data_url.proofs.parts.output.write_base64.Goals as goal

pub returns-in-Ok : goal.returns-in-Ok
returns-in-Ok c =
    let d = c.decode_base64_part.ensures in
    let h = part_passed d in
    let gave = part_gave d in
    let pending = c.pending-pending.ensures.pending in
    let few : length (joined_pieces d.run) ≤ length c.args.output.now = omega (
      arith,
      gave.0,
      c.pending-pending.ensures,
      c.fitting_len-most.ensures.ends (omega (arith, c.if-pending-output.false)),
    ) in
    let output = passes_keeps h (λ f. f.0.ghost_name) (λ f p r f' k. search rules) in
    let len = passes_keeps h (λ f. f.1.ghost_name) (λ f p r f' k. search rules) in
    record {
      bytes = joined_pieces d.run;
      wrote = passes_written h (λ f. (closure.captures f).output.now) (λ f. (closure.captures f).len)
          (λ f p f' k. search rules) (search rules) (search rules) (search (rules, output, len))
          (search (rules, output, len)) few;
      stops = leaves_at c.args.left_over.now _ c.args.tail.now _ _ (joined_pieces d.run) c.in-Ok.stop
          (rw pending at c.pending-pending.ensures.few) (rw pending at c.fitting_len-most.ensures.fitting)
          (rw c.in-Ok.is at gave.1);
    }

pub returns-in-Err : goal.returns-in-Err
returns-in-Err c =
    let d = c.decode_base64_part.ensures in
    let h = part_passed d in
    let gave = part_gave d in
    let few : length (joined_pieces d.run) ≤ length c.args.output.now = omega (
      arith,
      gave.0,
      c.pending-pending.ensures,
      c.fitting_len-most.ensures.ends (omega (arith, c.if-pending-output.false)),
    ) in
    let output = passes_keeps h (λ f. f.0.ghost_name) (λ f p r f' k. search rules) in
    let len = passes_keeps h (λ f. f.1.ghost_name) (λ f p r f' k. search rules) in
    record {
      bytes = joined_pieces d.run;
      wrote = passes_written h (λ f. (closure.captures f).output.now) (λ f. (closure.captures f).len)
          (λ f p f' k. search rules) (search rules) (search rules) (search (rules, output, len))
          (search (rules, output, len)) few;
      stops = rw (c.in-Err.is ∙ ap Err c.fault_of.ensures) at gave.1;
    }
