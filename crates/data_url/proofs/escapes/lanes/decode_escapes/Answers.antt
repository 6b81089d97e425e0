use Rattle.data_url.proofs.escapes.{HexCodes.{starts_mask, values_computed}, StopBits.{none_start}}
use Rattle.data_url.proofs.escapes.lanes.decode_escapes.Goals as goal

pub returns : goal.returns
returns c = record {
  values = values_computed c.args.bytes c.fits-bytes.0 c.fits-bytes.1;
  starts = starts_mask c.args.bytes c.fits-bytes.0 c.fits-bytes.1;
}

pub returns-then-percents-eq0 : goal.returns-then-percents-eq0
returns-then-percents-eq0 c =
    let n = none_start c.args.bytes c.args.percents c.requires c.if-percents-eq0.true in
    record { values = n.0; starts = n.1 }
