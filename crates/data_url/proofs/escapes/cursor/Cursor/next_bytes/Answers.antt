use Rattle.std.{proofs.Common.{arith}, proofs.lemmas.List.{take_more_set}}
use Rattle.data_url.proofs.escapes.Walking.{over_next, takes_gathered, takes_next}
use Rattle.data_url.specs.declared.escapes.Piece.TheVariants.{Byte, Slice}
use Rattle.data_url.proofs.escapes.cursor.Cursor.next_bytes.Goals as goal

pub returns-then-len-gt0-clause-gives : goal.returns-then-len-gt0-clause-gives
returns-then-len-gt0-clause-gives c = takes_gathered c.gather_within-len.ensures.gathers c.if-len-gt0.true

pub returns-in-None-clause-gives : goal.returns-in-None-clause-gives
returns-in-None-clause-gives c =
    over_next c.gather_within-len.ensures.gathers (omega arith) c.in-None.ensures.goes c.in-None.ensures.knows

pub returns-in-Some-Slice-clause-gives : goal.returns-in-Some-Slice-clause-gives
returns-in-Some-Slice-clause-gives c =
    let goes = rw c.in-Some-Slice.field-0-is at c.in-Some-Slice.ensures.goes in
    takes_next (Slice c.in-Some-Slice.slice) c.gather_within-len.ensures.gathers (omega arith) c.requires.some goes

pub returns-in-Some-Byte-clause-gives : goal.returns-in-Some-Byte-clause-gives
returns-in-Some-Byte-clause-gives c =
    let goes = rw c.in-Some-Byte.field-0-is at c.in-Some-Byte.ensures.goes in
    rw (take_more_set c.gather_within-len.new.buffer 0 c.in-Some-Byte.byte (omega (
      arith,
      c.gather_within-len.array_long,
    )))
    (takes_next (Byte c.in-Some-Byte.byte) c.gather_within-len.ensures.gathers (omega arith) c.requires.some goes)
