use Rattle.std.{specs.Fn.{CalledAt}}
use Rattle.data_url.proofs.body.Decoding.{walk_decoded, walk_refused, until_error}
use Rattle.data_url.proofs.body.decode_percent_encoded.Goals as goal

pub take_after-requires-clause-callable : goal.take_after-requires-clause-callable
take_after-requires-clause-callable g c = until_error g.F.FnMut c.args.write c.requires.callable

pub returns-in-Ok : goal.returns-in-Ok
returns-in-Ok g c = walk_decoded (CalledAt g.F.FnMut) c.in-Ok.ensures c.end.ensures.over c.end.ensures.end

pub returns : goal.returns
returns g c = walk_refused (CalledAt g.F.FnMut) c.in-Err.ensures
