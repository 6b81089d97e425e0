use Rattle.std.proofs.Common.{ap, arith, drop, length, length-drop, length-take, take, ◌-◌}
use Rattle.std.proofs.lemmas.List.{take_rest}
use Rattle.data_url.proofs.parts.Fragments.{encoded_more}
use Rattle.data_url.proofs.parts.fragment.encode_fragment.Goals as goal

pub loop-read-preserved : goal.loop-read-preserved
loop-read-preserved c =
    let l = c.loop-read in
    let text = c.args.text.now in
    let rest = take (length text - l.read) (drop l.read text) in
    let size = length-take c.min.result rest in
    let next = c.encode_next.ensures in
    encoded_more c.min.result l.invariant (ap (take c.min.result) (take_rest text l.read)) (omega (
      arith,
      c.min.ensures,
      size,
      l.auto.output,
    )) next.written next.after (next.less (omega (
      arith,
      c.min.ensures,
      size,
      c.if-output-len-ge-WIDEST.true,
      c.loop-read-test.true,
      ap length (take_rest text l.read),
      length-drop l.read text,
    ))) c.push.ensures
