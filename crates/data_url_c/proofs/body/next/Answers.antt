use Rattle.std.proofs.Common.{arith, refl, rules}
use Rattle.data_url_c.proofs.BodyLemmas.{steps_end, steps_fault, steps_more}
use Rattle.data_url_c.specs.Steps.{HoldsLeft}
use Rattle.data_url_c.proofs.body.next.Goals as goal

pub returns-in-More : goal.returns-in-More
returns-in-More c =
    let part = c.next_part-part.ensures in
    let goes = rw c.in-More.is at part.goes_on in
    let left : HoldsLeft c.state_with-state.result c.in-More.body.left_over = search rules in
    steps_more c.in-Some.ensures (omega arith) part.wrote goes c.place-state.ensures refl left refl

pub returns-in-End : goal.returns-in-End
returns-in-End c =
    let part = c.next_part-part.ensures in
    let goes = rw c.in-End.is at part.goes_on in
    steps_end c.in-Some.ensures (omega arith) part.wrote goes.0 goes.1 refl refl

pub returns-in-Fault : goal.returns-in-Fault
returns-in-Fault c =
    let part = c.next_part-part.ensures in
    let goes = rw c.in-Fault.is at part.goes_on in
    steps_fault c.in-Some.ensures (omega arith) part.wrote goes refl c.status_of_details-status.ensures
