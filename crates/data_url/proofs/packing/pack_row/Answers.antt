use Rattle.std.proofs.Common.{arith, ◌%◌, ◌/◌}
use Rattle.data_url.proofs.packing.Places.{half_packed, high_places, low_places, places_ok, row_packed}
use Rattle.data_url.proofs.packing.pack_row.Goals as goal

pub swizzle : goal.swizzle
swizzle c =
    let s = c.clear_places-count.ensures in
    places_ok (low_places _ _ (c.args.dropped % 256) s.small.0 s.small.1 s.places)

pub swizzle-2 : goal.swizzle-2
swizzle-2 c =
    let t = c.clear_places-count-2.ensures in
    places_ok (high_places _ _ (c.args.dropped / 256) t.small.0 t.small.1 t.places)

pub returns-clause-kept : goal.returns-clause-kept
returns-clause-kept c =
    let s = c.clear_places-count.ensures in
    let t = c.clear_places-count-2.ensures in
    let low = low_places _ _ (c.args.dropped % 256) s.small.0 s.small.1 s.places in
    let high = high_places _ _ (c.args.dropped / 256) t.small.0 t.small.1 t.places in
    let at = c.args.at in
    let middle = c.put.new.bytes in
    row_packed c.args.row c.args.bytes.now middle _ at _ _ _ c.fits-row.0
    (half_packed c.args.row _ middle at c.fits-row.0 (omega arith) s.few low (omega (arith, c.requires.room))
    c.put.ensures)
    (half_packed c.args.row middle _ _ c.fits-row.0 (omega arith) t.few high
    (omega (arith, c.requires.room, c.put.auto.bytes, s.few)) c.put-2.ensures)
