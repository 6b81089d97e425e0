use Rattle.std.proofs.{Common.{◌/◌, ◌^◌, bit_and, arith, get_or}, lemmas.Simd.{zip2_splat}, lemmas.Nat.{and_le_r}}
use Rattle.data_url.specs.declared.classes.lanes.TheConstants.{COLUMNS}
use Rattle.data_url.proofs.{forgiving_base64.Vectors.{joined}, classes.Lookups.{looked_up, places_ok}}
use Rattle.data_url.proofs.classes.lanes.classified.Goals as goal

pub swizzle-low : goal.swizzle-low
swizzle-low c = places_ok (λ x. bit_and x 15) c.args.block _ c.fits-block.0
    (zip2_splat bit_and c.args.block 64 15 c.fits-block.0) (λ x h. omega (arith, and_le_r x 15)) c.fits-block.1

pub swizzle-high : goal.swizzle-high
swizzle-high c = places_ok (λ x. x / 16) c.args.block _ c.fits-block.0
    (zip2_splat (λ a b. a / 2 ^ b) c.args.block 64 4 c.fits-block.0) (λ x h. omega arith) c.fits-block.1

pub returns : goal.returns
returns c =
    let v = c.args.block in
    let long = c.fits-block.0 in
    let low = looked_up c.args.class_table.now (λ x. bit_and x 15) v _ long c.requires c.fits-block.1
    (zip2_splat bit_and v 64 15 long) (λ x l. omega (arith, and_le_r x 15)) in
    let high = looked_up COLUMNS (λ x. x / 16) v _ long (omega arith) c.fits-block.1
    (zip2_splat (λ a b. a / 2 ^ b) v 64 4 long) (λ x l. omega arith) in
    rw (c.repeated.ensures, c.row.ensures, c.repeated-2.ensures, c.row-2.ensures)
    (joined bit_and _ (λ b. get_or COLUMNS (b / 16) 0) v low high)
