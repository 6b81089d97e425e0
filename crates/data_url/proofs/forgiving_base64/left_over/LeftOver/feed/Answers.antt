use Rattle.std.proofs.Common.{arith, length, length-take, rules, take}
use Rattle.data_url.specs.contracts.forgiving_base64.left_over.fn.LeftOver.feed.write as closure
use Rattle.data_url.proofs.forgiving_base64.Resumed.{part_fed_answer, part_fits, part_passes}
use Rattle.data_url.proofs.parts.Outputs.{passes_keeps, passes_written}
use Rattle.data_url.proofs.forgiving_base64.left_over.LeftOver.feed.Goals as goal

pub returns-in-Ok : goal.returns-in-Ok
returns-in-Ok c =
    let h = part_passes c.decode_part.ensures in
    let fits = part_fits c.args.self (take c.fitting_len-read.result c.args.input.now) (length c.args.output.now)
    (omega (
      arith,
      length-take c.fitting_len-read.result c.args.input.now,
      c.pending.ensures,
      c.fitting_len-read.ensures.groups,
    )) in
    let output = passes_keeps h (λ f. f.0.ghost_name) (λ f p r f' k. search rules) in
    let len = passes_keeps h (λ f. f.1.ghost_name) (λ f p r f' k. search rules) in
    record {
      read_is = rw c.pending.ensures.pending at c.fitting_len-read.ensures.fitting;
      wrote = passes_written h (λ f. (closure.captures f).output.now) (λ f. (closure.captures f).len)
          (λ f p f' k. search rules) (search rules) (search rules) (search (rules, output, len))
          (search (rules, output, len)) fits;
      fed = part_fed_answer c.decode_part.ensures (λ e. search rules) (λ e. absurd (let f = c.in-Ok.is in cc));
    }

pub returns-in-Err : goal.returns-in-Err
returns-in-Err c =
    let h = part_passes c.decode_part.ensures in
    let fits = part_fits c.args.self (take c.fitting_len-read.result c.args.input.now) (length c.args.output.now)
    (omega (
      arith,
      length-take c.fitting_len-read.result c.args.input.now,
      c.pending.ensures,
      c.fitting_len-read.ensures.groups,
    )) in
    let output = passes_keeps h (λ f. f.0.ghost_name) (λ f p r f' k. search rules) in
    let len = passes_keeps h (λ f. f.1.ghost_name) (λ f p r f' k. search rules) in
    record {
      read_is = rw c.pending.ensures.pending at c.fitting_len-read.ensures.fitting;
      wrote = passes_written h (λ f. (closure.captures f).output.now) (λ f. (closure.captures f).len)
          (λ f p f' k. search rules) (search rules) (search rules) (search (rules, output, len))
          (search (rules, output, len)) fits;
      fed = part_fed_answer c.decode_part.ensures (λ e. absurd (let f = c.in-Err.is in cc))
          (λ e. cc (e, c.in-Err.is, c.fault_of.ensures));
    }
