use Rattle.std.proofs.Common.{◌+◌, ◌%◌, arith, get_or, map-id, sym}
use Rattle.data_url.specs.{Steps.Lanes.{offset_row}, declared.forgiving_base64.alphabet.TheConstants.{OFFSETS}}
use Rattle.data_url.proofs.classes.Lookups.{looked_up, places_ok}
use Rattle.data_url.proofs.forgiving_base64.{Vectors.{joined}, Lanes.{offset_rows, row_small}}
use Rattle.data_url.proofs.forgiving_base64.alphabet.values_of.Goals as goal

pub swizzle : goal.swizzle
swizzle c =
    places_ok offset_row c.args.bytes _ c.fits-bytes.0 (offset_rows 64 c.args.bytes c.fits-bytes.0) row_small
    c.fits-bytes.1

pub returns : goal.returns
returns c =
    let v = c.args.bytes in
    let found = looked_up OFFSETS offset_row v _ c.fits-bytes.0 (omega arith) c.fits-bytes.1
    (offset_rows 64 v c.fits-bytes.0) row_small in
    rw (c.repeated.ensures, c.row.ensures)
    (joined (λ a b. (a + b) % 256) (λ x. x) (λ x. get_or OFFSETS (offset_row x) 0) v (sym (map-id v)) found)
