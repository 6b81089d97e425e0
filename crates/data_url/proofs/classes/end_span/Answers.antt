use Rattle.std.proofs.Common.{◌≡◌, ◌-◌, ◌<◌, arith, false, get_or, sym}
use Rattle.std.proofs.lemmas.List.Sums.{suffix_len_is}
use Rattle.data_url.specs.Steps.Classes.{in_class}
use Rattle.data_url.proofs.classes.end_span.Goals.{then-loop-end-test+else-has, else-loop-end-test}
use Rattle.data_url.proofs.classes.end_span.Goals as goal

pub returns : goal.returns
returns c =
    let i = c.loop-end.invariant in
    let stops : 0 < c.loop-end.end → in_class c.args.class (get_or c.args.bytes.now (c.loop-end.end - 1) 0) ≡ false =
    elim c.loop-end-test.branch [
      | then-loop-end-test+else-has w ↦ λ l. grind arith
      | else-loop-end-test w ↦ λ l. absurd (omega (arith, w.loop-end-test.false, l))
    ] in
    sym (suffix_len_is (in_class c.args.class) c.args.bytes.now c.loop-end.end 0 i.within i.passes stops)
