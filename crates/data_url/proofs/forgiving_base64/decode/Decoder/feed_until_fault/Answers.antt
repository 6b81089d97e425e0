use Rattle.std.{proofs.lemmas.Result.{err_from_is_err_and}, specs.Fn.{CalledAt}}
use Rattle.data_url.proofs.forgiving_base64.Holding.{ends_on, reads_to_on}
use Rattle.data_url.proofs.forgiving_base64.decode.Decoder.feed_until_fault.Goals as goal

pub returns-in_err-place-clause-read : goal.returns-in_err-place-clause-read
returns-in_err-place-clause-read g c =
    let blocks = c.in_ok-taken.ensures.read in
    let p = err_from_is_err_and c.from_residual-in_err-place.result c.from_residual-in_err-place.ensures.1 in
    rw (p.1, p.2) (ends_on (CalledAt g.F.FnMut) c.args.text.now c.in_ok-taken.taken blocks.0 blocks.1
    c.in_err-place.ensures.read)

pub returns-clause-read : goal.returns-clause-read
returns-clause-read g c =
    let blocks = c.in_ok-taken.ensures.read in
    reads_to_on (CalledAt g.F.FnMut) c.args.text.now c.in_ok-taken.taken blocks.0 blocks.1 c.in_ok-place.ensures.read
