use Rattle.std.proofs.Common.{[], ◌+◌, ◌∙◌, append-nil, ap, arith, drop, length, length-drop, length-take-le, refl, sym}
use Rattle.std.proofs.Common.{take}
use Rattle.std.{proofs.Common.{take-append-drop}, proofs.lemmas.Result.{err_from_is_err_and}, specs.Fn.{CalledAt}}
use Rattle.data_url.specs.{Decoder.{state_of}, Steps.Groups.{held_bytes}}
use Rattle.data_url.proofs.forgiving_base64.Holding.{ends_within, held_len, reads_called, reads_gained, reads_none}
use Rattle.data_url.proofs.forgiving_base64.Holding.{reads_refused}
use Rattle.data_url.proofs.forgiving_base64.Holding.{reads_to, reads_whole}
use Rattle.data_url.proofs.forgiving_base64.Steps.{sound}
use Rattle.data_url.proofs.forgiving_base64.decode.Decoder.feed_groups.Goals as goal

pub groups-init : goal.groups-init
groups-init g c = elim c.if-pending-text-le-SHORT.branch [
  | goal.then-pending-text-le-SHORT+else-at-text w ↦
      let read = w.decode_short.ensures in
      rw (w.self-is, w.at-is) (record {
        callable = c.requires.callable;
        within = omega (arith, read.sizes);
        few = omega (arith, c.hold.ensures.len, w.len-is, read.sizes);
        none = refl;
        reads = rw (c.hold.ensures.bytes, w.len-is, w.front-is) (reads_whole (CalledAt g.F.FnMut)
            {f = c.args.self.now.write_bytes} (sound c.args.self.now.state) c.requires.going read.read);
      })
  | goal.else-pending-text-le-SHORT w ↦ rw (w.self-is, w.at-is) (record {
    callable = c.requires.callable;
    within = omega arith;
    few = omega (arith, c.hold.ensures.len, w.len-is);
    none = refl;
    reads = rw (c.hold.ensures.bytes, w.len-is) (reads_none (CalledAt g.F.FnMut) (sound c.args.self.now.state)
        c.requires.going);
  })
]

pub returns-in_err-write-clause-read : goal.returns-in_err-write-clause-read
returns-in_err-write-clause-read g c =
    let step = CalledAt g.F.FnMut in
    let read = c.decode_short in
    let bytes = take read.result.1 read.new.bytes in
    let p = err_from_is_err_and c.from_residual.result c.from_residual.ensures.1 in
    let reads = reads_whole step {f = c.args.self.now.write_bytes} (sound c.args.self.now.state) c.requires.going
    read.ensures.read in
    let long = length-take-le read.result.1 read.new.bytes (omega (arith, read.ensures.sizes)) in
    rw (p.1, p.2) (ends_within step read.result.0 (omega (arith, read.ensures.sizes)) reads
    (reads_refused step bytes [] (omega (arith, long)) (rw (append-nil bytes) reads) c.in_err-write.ensures.called))

pub returns-then-at-text-clause-read : goal.returns-then-at-text-clause-read
returns-then-at-text-clause-read g c =
    let step = CalledAt g.F.FnMut in
    let read = c.decode_short in
    let bytes = take read.result.1 read.new.bytes in
    let reads = reads_whole step {f = c.args.self.now.write_bytes} (sound c.args.self.now.state) c.requires.going
    read.ensures.read in
    let long = length-take-le read.result.1 read.new.bytes (omega (arith, read.ensures.sizes)) in
    record {
      within = omega (arith, c.if-at-text.true);
      reads = reads_called step bytes [] (omega (arith, long)) (rw (append-nil bytes) reads)
          c.in_ok-write.ensures.called;
      ends = c.if-at-text.true;
    }

pub slice_bounds-flush-end : goal.slice_bounds-flush-end
slice_bounds-flush-end g c =
    let size = ap length c.as_slice.ensures ∙ held_len c.read_groups_or_byte.new.groups in
    sym (length-take-le 384 _ (omega (arith, size)))

pub flush-requires-clause-whole : goal.flush-requires-clause-whole
flush-requires-clause-whole g c = omega (arith, slice_bounds-flush-end g c)

pub returns-in_err-flush-clause-read : goal.returns-in_err-flush-clause-read
returns-in_err-flush-clause-read g c =
    let step = CalledAt g.F.FnMut in
    let bytes = held_bytes c.read_groups_or_byte.new.groups in
    let reads = reads_gained step c.args.text.now c.groups.at c.in-Ok.taken c.groups.invariant.reads
    c.in-Ok.ensures in
    let flushed = rw c.as_slice.ensures at c.in_err-flush.ensures.flushed in
    let p = err_from_is_err_and c.from_residual-in_err-flush.result c.from_residual-in_err-flush.ensures.1 in
    rw (p.1, p.2) (ends_within (CalledAt g.F.FnMut) (c.groups.at + c.in-Ok.taken)
    (omega (arith, c.in-Ok.ensures.within, length-drop c.groups.at c.args.text.now)) reads
    (flushed (state_of c.args.self.now) (take (c.groups.at + c.in-Ok.taken) c.args.text.now) (drop 384 bytes)
    (rw (take-append-drop 384 bytes) reads)))

pub groups-preserved-then-groups-ge-FULL : goal.groups-preserved-then-groups-ge-FULL
groups-preserved-then-groups-ge-FULL g c =
    let text = c.args.text.now in
    let n = c.groups.at + c.in-Ok.taken in
    let held = c.read_groups_or_byte.new.groups in
    let bytes = held_bytes held in
    let flushed = rw c.as_slice.ensures at c.in_ok-flush.ensures.flushed in
    record {
      callable = c.in_ok-flush.ensures.callable;
      within = omega (arith, c.in-Ok.ensures.within, length-drop c.groups.at text);
      few = omega (arith, c.drop_first.ensures.len, held.within);
      none = c.groups.invariant.none;
      reads = rw c.drop_first.ensures.bytes (flushed (state_of c.args.self.now) (take n text) (drop 384 bytes)
          (rw (take-append-drop 384 bytes) (reads_gained (CalledAt g.F.FnMut) text c.groups.at c.in-Ok.taken
          c.groups.invariant.reads c.in-Ok.ensures)));
    }

pub groups-preserved : goal.groups-preserved
groups-preserved g c = record {
  callable = c.groups.invariant.callable;
  within = omega (arith, c.in-Ok.ensures.within, length-drop c.groups.at c.args.text.now);
  few = omega arith;
  none = c.groups.invariant.none;
  reads = reads_gained (CalledAt g.F.FnMut) c.args.text.now c.groups.at c.in-Ok.taken
      c.groups.invariant.reads c.in-Ok.ensures;
}

pub returns-then-len-eq0-clause-read : goal.returns-then-len-eq0-clause-read
returns-then-len-eq0-clause-read g c = record {
  within = omega (arith, c.if-at-text.true);
  reads = rw c.if-len-eq0.true at (reads_whole (CalledAt g.F.FnMut) {f = c.args.self.now.write_bytes}
      (sound c.args.self.now.state) c.requires.going c.decode_short.ensures.read);
  ends = c.if-at-text.true;
}

pub returns-in_err-flush-2-clause-read : goal.returns-in_err-flush-2-clause-read
returns-in_err-flush-2-clause-read g c =
    let p = err_from_is_err_and c.from_residual-in_err-flush-2.result c.from_residual-in_err-flush-2.ensures.1 in
    let i = c.groups.invariant in
    let flushed = rw c.as_slice-2.ensures at c.in_err-flush-2.ensures.flushed in
    rw (p.1, p.2) (elim c.groups-test.branch [
      | goal.else-groups-test w ↦
          let feeds = rw (w.groups-is, w.self-is) at flushed in
          ends_within (CalledAt g.F.FnMut) c.groups.at i.within i.reads (feeds (state_of c.args.self.now)
          (take c.groups.at c.args.text.now) []
          (rw (append-nil (held_bytes c.groups.groups)) i.reads))
      | goal.then-groups-test+in-Err w ↦
          let stays = w.in-Err.ensures.0.stays in
          let feeds = rw (
            w.groups-is,
            w.self-is,
            ap (λ s. s.symbols) stays,
            ap (λ s. s.padding) stays,
            w.in-Err.ensures.1,
          ) at flushed in
          ends_within (CalledAt g.F.FnMut) c.groups.at i.within i.reads (feeds (state_of c.args.self.now)
          (take c.groups.at c.args.text.now) []
          (rw (append-nil (held_bytes c.groups.groups)) i.reads))
    ])

pub returns-clause-read : goal.returns-clause-read
returns-clause-read g c =
    let i = c.groups.invariant in
    let flushed = rw c.as_slice-2.ensures at c.in_ok-flush-2.ensures.flushed in
    elim c.groups-test.branch [
      | goal.else-groups-test w ↦
          let reads = rw (w.groups-is, w.self-is) at flushed in
          rw (w.fault-is, i.none) (record {
            within = i.within;
            reads = reads (state_of c.args.self.now) (take c.groups.at c.args.text.now) []
                (rw (append-nil (held_bytes c.groups.groups)) i.reads);
            ends = omega (arith, w.groups-test.false, i.within);
          })
      | goal.then-groups-test+in-Err w ↦
          let stays = w.in-Err.ensures.0.stays in
          let reads = rw (
            w.groups-is,
            w.self-is,
            ap (λ s. s.symbols) stays,
            ap (λ s. s.padding) stays,
            w.in-Err.ensures.1,
          ) at flushed in
          rw w.fault-is (reads_to (CalledAt g.F.FnMut) c.args.text.now c.groups.at w.groups-test.true i.reads
          (reads (state_of c.args.self.now) (take c.groups.at c.args.text.now) []
          (rw (append-nil (held_bytes c.groups.groups)) i.reads)) w.in-Err.ensures.0)
    ]
