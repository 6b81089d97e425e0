use Rattle.std.{proofs.Common.{take}, proofs.lemmas.Simd.{dot4_Fits}}
use Rattle.data_url.specs.declared.forgiving_base64.alphabet.TheConstants.{LOWER_WEIGHTS, UPPER_WEIGHTS}
use Rattle.data_url.proofs.{classes.Lookups.{four_rows}, forgiving_base64.Lanes.{computed_is}}
use Rattle.data_url.proofs.forgiving_base64.alphabet.numbers_of.Goals as goal

pub dot4-upper : goal.dot4-upper
dot4-upper c =
    rw (c.repeated.ensures, c.row.ensures)
    (dot4_Fits c.args.values (four_rows (take 16 UPPER_WEIGHTS)) c.fits-values.1 tt, tt)

pub dot4-lower : goal.dot4-lower
dot4-lower c =
    rw (c.repeated-2.ensures, c.row-2.ensures)
    (dot4_Fits c.args.values (four_rows (take 16 LOWER_WEIGHTS)) c.fits-values.1 tt, tt)

pub returns : goal.returns
returns c =
    rw (c.repeated.ensures, c.row.ensures, c.repeated-2.ensures, c.row-2.ensures)
    (computed_is 16 c.args.values c.fits-values.0 c.fits-values.1)
