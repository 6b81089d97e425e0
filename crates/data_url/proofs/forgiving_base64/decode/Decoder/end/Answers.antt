use Rattle.std.proofs.Common.{ap, arith, inl, inr, length-take, sym, take, ◌∙◌}
use Rattle.std.specs.Fn.{CalledAt}
use Rattle.data_url.specs.Decoder.{state_of}
use Rattle.data_url.proofs.forgiving_base64.Padding.{every_list_all}
use Rattle.data_url.proofs.forgiving_base64.Steps.{decoded_three, decoded_two, finishes_called, finishes_nothing}
use Rattle.data_url.proofs.forgiving_base64.Steps.{finishes_refused, kind_left, valid_ends, valid_left}
use Rattle.data_url.proofs.forgiving_base64.decode.Decoder.end.Goals as goal

pub returns-in-1-clause-finished : goal.returns-in-1-clause-finished
returns-in-1-clause-finished g c =
    grind (arith, every_list_all, length-take, valid_left, kind_left, finishes_refused)

pub returns-in_default-clause-finished : goal.returns-in_default-clause-finished
returns-in_default-clause-finished g c =
    grind (arith, every_list_all, length-take, valid_left, kind_left, finishes_refused)

pub returns-in-2-clause-finished : goal.returns-in-2-clause-finished
returns-in-2-clause-finished g c =
    let step = CalledAt g.F.FnMut in
    let d = state_of c.args.self.now in
    let s = c.args.self.now.state in
    let every = every_list_all _ s.pending_symbols in
    let size = length-take s.pending s.symbols in
    let valid = valid_ends d.symbols d.padding every (omega (arith, size, s.few_pending)) s.few_padding in
    let fits = valid (omega arith) (elim c.if-padding-gt0.branch [
      | goal.then-padding-gt0+else-pending-padding-ne4 v ↦ inr (omega arith)
      | goal.else-padding-gt0 v ↦ inl (omega arith)
    ]) in
    finishes_called step d _ _ (decoded_two s.symbols s.pending d.padding (omega arith) (omega arith) every
    ∙ sym (ap (take 1) c.group_of.ensures)) fits c.write.ensures.called

pub returns-in-3-clause-finished : goal.returns-in-3-clause-finished
returns-in-3-clause-finished g c =
    let step = CalledAt g.F.FnMut in
    let d = state_of c.args.self.now in
    let s = c.args.self.now.state in
    let every = every_list_all _ s.pending_symbols in
    let size = length-take s.pending s.symbols in
    let valid = valid_ends d.symbols d.padding every (omega (arith, size, s.few_pending)) s.few_padding in
    let fits = valid (omega arith) (elim c.if-padding-gt0.branch [
      | goal.then-padding-gt0+else-pending-padding-ne4 v ↦ inr (omega arith)
      | goal.else-padding-gt0 v ↦ inl (omega arith)
    ]) in
    finishes_called step d _ _ (decoded_three s.symbols s.pending d.padding (omega arith) (omega arith) every
    ∙ sym (ap (take 2) c.group_of-in-3.ensures)) fits c.write-in-3.ensures.called

pub returns-in_default-2-clause-finished : goal.returns-in_default-2-clause-finished
returns-in_default-2-clause-finished g c =
    let step = CalledAt g.F.FnMut in
    let d = state_of c.args.self.now in
    let s = c.args.self.now.state in
    let every = every_list_all _ s.pending_symbols in
    let size = length-take s.pending s.symbols in
    let valid = valid_ends d.symbols d.padding every (omega (arith, size, s.few_pending)) s.few_padding in
    let fits = valid (omega arith) (elim c.if-padding-gt0.branch [
      | goal.then-padding-gt0+else-pending-padding-ne4 v ↦ inr (omega arith)
      | goal.else-padding-gt0 v ↦ inl (omega arith)
    ]) in
    finishes_nothing step d s.pending every (omega arith) (omega arith) fits
