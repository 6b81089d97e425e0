use Rattle.std.{proofs.Common.{◌+◌}, proofs.lemmas.Result.{err_from_is_err_and}, specs.Fn.{CalledAt}}
use Rattle.data_url.proofs.{forgiving_base64.Holding.{reads_fault}, forgiving_base64.Steps.{feeds_stop}}
use Rattle.data_url.proofs.forgiving_base64.decode.Decoder.feed.Goals as goal

pub returns-in_err-feed_until_fault-clause-fed : goal.returns-in_err-feed_until_fault-clause-fed
returns-in_err-feed_until_fault-clause-fed g c =
    let p = err_from_is_err_and c.from_residual.result c.from_residual.ensures.1 in
    let ended = c.in_err-feed_until_fault.ensures.read in
    rw (p.1, p.2) (feeds_stop (CalledAt g.F.FnMut) c.args.input.now ended.at ended.feeds)

pub returns-in-Some-clause-fed : goal.returns-in-Some-clause-fed
returns-in-Some-clause-fed g c =
    let read = rw c.in-Some.is at c.in_ok-feed_until_fault.ensures.read in
    rw c.refuse.ensures.kind (feeds_stop (CalledAt g.F.FnMut) c.args.input.now (c.in_ok-feed_until_fault.field-0.0 + 1)
    (reads_fault (CalledAt g.F.FnMut) c.args.input.now c.in_ok-feed_until_fault.field-0.0 read c.refuse.ensures.state))
