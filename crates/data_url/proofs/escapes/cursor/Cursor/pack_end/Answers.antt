use Rattle.std.proofs.Common.{append-nil, arith, length, refl, sym, [], ◌-◌, ◌∙◌}
use Rattle.data_url.proofs.escapes.PackedBlocks.{packs_front}
use Rattle.data_url.proofs.escapes.cursor.Cursor.pack_end.Goals as goal

pub returns-clause-packed : goal.returns-clause-packed
returns-clause-packed c =
    let rest = c.look_rest-rest.result.now in
    packs_front rest [] (64 - length rest) refl refl (sym c.look_rest-rest.ensures.bytes ∙ sym (append-nil rest))
    (omega (arith, c.requires.some)) (λ some. refl) (rw c.in_ok-used.was at c.pack_last-marks.ensures.packed)
    (grind arith) c.go_on_after.ensures.place c.told-buffer c.pack_last-marks.array_long c.requires.room
