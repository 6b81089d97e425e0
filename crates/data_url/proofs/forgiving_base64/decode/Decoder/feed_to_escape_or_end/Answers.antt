use Rattle.std.{proofs.Common.{◌+◌, arith}, proofs.lemmas.Result.{err_from_is_err_and}, specs.Fn.{CalledAt}}
use Rattle.std.proofs.{Common.{ap, get_or, inl, inr}, lemmas.Bool.{ne_eqb}}
use Rattle.data_url.specs.{Decoder.{left_over, state_of}, Steps.Window.{is_no_hash_or_percent}}
use Rattle.data_url.proofs.forgiving_base64.Holding.{reads_fault, reads_front, reads_no_hash, no_hash_after}
use Rattle.data_url.proofs.forgiving_base64.Holding.{no_hash_more}
use Rattle.data_url.proofs.forgiving_base64.decode.Decoder.feed_to_escape_or_end.Goals as goal

pub returns-in_err-place-clause-fed : goal.returns-in_err-place-clause-fed
returns-in_err-place-clause-fed g c =
    let p = err_from_is_err_and c.from_residual.result c.from_residual.ensures.1 in
    let ended = c.in_err-place.ensures.read in
    rw (p.1, p.2) (
      ended.at,
      record {
        within = ended.within;
        no_hash_or_percent = no_hash_after (left_over (state_of c.args.self.now)) _ ended.no_fault;
        feeds = ended.feeds;
      },
    )

pub returns-in_default-clause-fed : goal.returns-in_default-clause-fed
returns-in_default-clause-fed g c =
    let read = rw c.in_default.is at c.in_ok-place.ensures.read in
    (reads_front (CalledAt g.F.FnMut) read.within read.reads, λ l. absurd (omega (arith, l, read.ends)))

pub returns-then-byte-eq35-clause-fed : goal.returns-then-byte-eq35-clause-fed
returns-then-byte-eq35-clause-fed g c =
    let read = c.in_ok-place.ensures.read in (
      reads_front (CalledAt g.F.FnMut) read.within read.reads,
      λ l. elim c.then-byte-eq35.either [ inl e ↦ ap is_no_hash_or_percent e | inr e ↦ ap is_no_hash_or_percent e.1 ],
    )

pub returns-clause-fed : goal.returns-clause-fed
returns-clause-fed g c =
    let read = rw c.in-Some.is at c.in_ok-place.ensures.read in
    let byte = get_or c.args.part.now c.in_ok-place.place 0 in
    rw c.refuse.ensures.kind (
      c.in_ok-place.place + 1,
      record {
        within = omega (arith, read.ends.0);
        no_hash_or_percent = no_hash_more c.args.part.now c.in_ok-place.place read.ends.0
            (reads_no_hash (CalledAt g.F.FnMut) read.reads)
            (cc (ne_eqb byte 35 c.if-byte-eq35.false, ne_eqb byte 37 c.if-byte-eq37.false));
        feeds = reads_fault (CalledAt g.F.FnMut) c.args.part.now c.in_ok-place.place read c.refuse.ensures.state;
      },
    )
