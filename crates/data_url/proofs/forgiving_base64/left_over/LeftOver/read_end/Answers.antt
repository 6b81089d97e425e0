use Rattle.std.proofs.Common.{◌∙◌, ap, arith, get_or, refl, sym}
use Rattle.data_url.specs.Steps.Holding.{left_state}
use Rattle.data_url.proofs.forgiving_base64.Holding.{completes_byte}
use Rattle.data_url.proofs.forgiving_base64.Steps.{completes_none, completes_pad, completes_space, sound}
use Rattle.data_url.proofs.forgiving_base64.Vectors.{space_is}
use Rattle.data_url.proofs.forgiving_base64.left_over.LeftOver.read_end.Goals as goal

pub loop-at-init : goal.loop-at-init
loop-at-init c = record {
  within = omega arith;
  read = completes_none (sound c.args.self.now) refl;
}

pub loop-at-preserved : goal.loop-at-preserved
loop-at-preserved c =
    let l = c.loop-at in
    let text = c.args.text.now in
    let byte = get_or text l.at 0 in
    record {
      within = omega arith;
      read = elim c.match-byte.branch [
        | goal.in-61 w ↦ rw w.self-is (completes_byte text l.at (omega arith) l.invariant.read
            (completes_pad byte w.in-61.is (sound l.self) refl
            (ap (λ p. record (left_state l.self) { padding = p }) w.min-self.ensures)))
        | goal.in_default w ↦ rw w.self-is (completes_byte text l.at (omega arith)
            l.invariant.read (completes_space byte (sound l.self) (sym (space_is byte (omega arith))
            ∙ sym w.is_ascii_whitespace.ensures.value ∙ w.if-is_ascii_whitespace.true) refl))
      ];
    }
