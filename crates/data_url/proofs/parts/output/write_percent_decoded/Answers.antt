use Rattle.std.proofs.Common.{[], arith, ap, false, length, refl, rules, ◌++◌, ◌<◌, ◌∙◌, ◌≡◌, ◌≤◌}
use Rattle.data_url.specs.Parts.{left_over_text}
use Rattle.data_url.specs.Run.{joined_pieces}
use Rattle.data_url.specs.contracts.parts.output.fn.write_percent_decoded.write as closure
use Rattle.data_url.proofs.body.Within.{paused_some}
use Rattle.data_url.proofs.parts.{Bodies.{plain_goes, plain_good}, Outputs.{passes_keeps, passes_of, passes_written}}
use Rattle.data_url.proofs.parts.output.write_percent_decoded.Goals as goal

pub returns : goal.returns
returns c = λ s nothing.
    let part = c.in_default.ensures in
    let t = part.takes in
    let h = passes_of t.run t.ran t.accepted in
    let output = passes_keeps h (λ f. f.0.ghost_name) (λ f p r f' k. search rules) in
    let len = passes_keeps h (λ f. f.1.ghost_name) (λ f p r f' k. search rules) in
    let start = c.after_prefix-walk.ensures.prefix.text_is in
    let text = t.text_stays ∙ start in
    let body = rw start at t.body in
    let few : length (joined_pieces t.run) ≤ length c.args.output.now =
    omega (arith, c.in_default.ensures.few, c.after_prefix-walk.ensures.few) in
    let none : left_over_text s ≡ [] = rw nothing.0 (rw nothing.1 refl) in
    record {
      bytes = joined_pieces t.run;
      wrote = passes_written h (λ f. (closure.captures f).output.now) (λ f. (closure.captures f).len)
          (λ f p f' k. search rules) (search rules) (search rules) (search (rules, output, len))
          (search (rules, output, len)) few;
      stops = elim c.if-has_ended.branch [
        | goal.then-has_ended w ↦ rw w.stop-is (
          plain_good s c.args.tail.now none body w.end.ensures.over,
          rw text at w.end.ensures.end,
        )
        | goal.else-has_ended w ↦
            let from = rw text at w.place.ensures.from in
            let no_end : c.take_after.new.walk.ended ≡ false = search rules in
            let goes : 4 ≤ length c.args.output.now → 0 < w.place.result = λ l.
            omega (arith, part.goes (omega arith) no_end, from.place_is) in
            rw w.stop-is (record {
              within = omega (arith, from.short);
              goes = goes;
              some_left = paused_some 0
                  (λ l. part.all (omega (arith, l, c.after_prefix-walk.ensures.few, ap length start))) no_end;
              after_is = rw text at w.place.ensures.no_hash;
              rest_is = plain_goes s c.args.tail.now (joined_pieces t.run) w.place.result none
                  (body ∙ ap (λ x. joined_pieces t.run ++ x) from.rest_is);
              none_left_over = λ e. nothing;
            })
      ];
    }
