use Rattle.std.proofs.Common.{append-nil, arith, drop, sym, take-append-drop}
use Rattle.data_url.{proofs.escapes.PackedBlocks.{packs_front}, specs.Pieces.{text_of}}
use Rattle.data_url.proofs.escapes.cursor.Cursor.pack_whole.Goals as goal

pub returns-clause-packed : goal.returns-clause-packed
returns-clause-packed c =
    let rest = drop c.args.self.now.place (text_of c.args.self.now) in
    let cut = take-append-drop 64 rest in
    packs_front c.args.bytes (drop 64 rest) 0 (sym (append-nil c.args.bytes)) (sym c.fits-bytes.0) (cc)
    (omega arith) (λ some. absurd (omega (arith, some))) c.in_ok-used.ensures.packed (grind arith)
    c.go_on_after.ensures.place c.told-buffer c.pack_to_stop.array_long c.requires.room
