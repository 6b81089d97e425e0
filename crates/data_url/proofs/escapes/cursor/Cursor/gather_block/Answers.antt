use Rattle.std.proofs.Common.{arith}
use Rattle.data_url.proofs.escapes.Walking.{gathers_clear, gathers_then, may_clear}
use Rattle.data_url.proofs.escapes.cursor.Cursor.gather_block.Goals as goal

pub returns-in_default-clause-gathered : goal.returns-in_default-clause-gathered
returns-in_default-clause-gathered c =
    let i = c.loop-self.invariant in
    let m = may_clear c.loop-self.self.block.end i.1 c.loop-self-test.true (omega arith) (omega arith) in
    record {
      gathers = grind (arith, gathers_then, gathers_clear);
      few = m.room.some;
      gathering = grind arith;
    }

pub gather_mark-more-requires-clause-may : goal.gather_mark-more-requires-clause-may
gather_mark-more-requires-clause-may c =
    let m = c.in-Some.ensures in
    may_clear _ c.loop-self.invariant.1 c.loop-self-test.true m.1.forward (omega (arith, m.0))

pub returns-then-ended-clause-gathered : goal.returns-then-ended-clause-gathered
returns-then-ended-clause-gathered c =
    let i = c.loop-self.invariant in
    let m = c.in-Some.ensures in
    let g = gathers_then i.0 (gathers_then (gathers_clear _ i.1 m.1.forward (omega (arith, m.0)) m.1.clear
    c.copy-in-loop-self.ensures) c.gather_mark-more.ensures.gathers) in
    grind arith

pub loop-self-preserved : goal.loop-self-preserved
loop-self-preserved c =
    let i = c.loop-self.invariant in
    let m = c.in-Some.ensures in
    let g = gathers_then i.0 (gathers_then (gathers_clear _ i.1 m.1.forward (omega (arith, m.0)) m.1.clear
    c.copy-in-loop-self.ensures) c.gather_mark-more.ensures.gathers) in
    grind arith
