use Rattle.std.{proofs.Common.{◌∙◌, ap, arith, sym, take}, proofs.lemmas.Result.{err_from_is_err_and}}
use Rattle.std.{proofs.lemmas.List.{take_rest}, specs.Fn.{CalledAt}}
use Rattle.data_url.specs.Steps.Window.{is_no_hash_or_percent}
use Rattle.data_url.proofs.body.Decoding.{front_more, part_byte}
use Rattle.data_url.proofs.forgiving_base64.{Holding.{reads_front, reads_none}, Steps.{sound}}
use Rattle.data_url.proofs.body.feed_front.Goals as goal

pub loop-place-init : goal.loop-place-init
loop-place-init g c = record {
  callable = c.requires.callable;
  front = reads_front (CalledAt g.F.FnMut) (omega arith)
      (reads_none (CalledAt g.F.FnMut) (sound c.args.decoder.now.state) c.requires.going);
}

pub returns-in_err-len-clause-fed : goal.returns-in_err-len-clause-fed
returns-in_err-len-clause-fed g c =
    let p = err_from_is_err_and c.from_residual.result c.from_residual.ensures.1 in
    let ended = c.in_err-len.ensures.fed in
    let is = ap (take c.min.result) (take_rest c.args.tail.now c.loop-place.place) in
    let front = c.loop-place.invariant.front in
    rw (p.1, p.2) (_, front_more (CalledAt g.F.FnMut) c.loop-place.place c.min.result ended.0 is front ended.1)

pub returns-then-len-part-clause-fed : goal.returns-then-len-part-clause-fed
returns-then-len-part-clause-fed g c =
    let at = c.loop-place.place in
    let n = c.in_ok-len.len in
    let fed = c.in_ok-len.ensures.fed in
    let is = ap (take c.min.result) (take_rest c.args.tail.now at) in
    let byte = part_byte c.args.tail.now at c.min.result n c.if-len-part.true is in (
      front_more (CalledAt g.F.FnMut) at c.min.result n is c.loop-place.invariant.front fed.0,
      λ l. ap is_no_hash_or_percent (sym byte) ∙ fed.1 c.if-len-part.true,
    )

pub loop-place-preserved : goal.loop-place-preserved
loop-place-preserved g c =
    let is = ap (take c.min.result) (take_rest c.args.tail.now c.loop-place.place) in
    let fed = c.in_ok-len.ensures.fed in
    let front = c.loop-place.invariant.front in
    record {
      callable = c.in_ok-len.ensures.callable;
      front = front_more (CalledAt g.F.FnMut) c.loop-place.place c.min.result c.in_ok-len.len is front fed.0;
    }
