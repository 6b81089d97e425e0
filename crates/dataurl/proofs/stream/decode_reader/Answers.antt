use Rattle.std.proofs.Common.{ap, refl, rules, take}
use Rattle.std.specs.Fn.{CalledAt}
use Rattle.dataurl.proofs.StreamLemmas.{reading_ends, reading_fails, reading_more, reading_none, reading_stops}
use Rattle.dataurl.proofs.StreamLemmas.{reading_too_long}
use Rattle.dataurl.proofs.stream.decode_reader.Goals as goal

pub loop-init : goal.loop-init
loop-init g c = record {
  callable = c.new-decoder.ensures.callable;
  going = ap (λ d. d.failed) c.new-decoder.ensures.state;
  reading = reading_none (CalledAt g.F.FnMut) (g.R.Read.remaining c.args.reader.now) c.new-decoder.ensures.state;
  size = refl;
  ended = refl;
}

pub loop-preserved : goal.loop-preserved
loop-preserved g c =
    let bytes = c.in-Ok.ensures.bytes in
    record {
      callable = c.feed.ensures.callable;
      going = c.in_default-feed.ensures.fed.failed;
      reading = reading_more (CalledAt g.F.FnMut) (take c.in-Ok.len c.read.new.buf) c.loop.invariant.reading bytes.0
          c.in_default-feed.ensures.fed;
      size = search rules;
      ended = c.loop.invariant.ended;
    }

pub returns-in_default : goal.returns-in_default
returns-in_default g c =
    rw c.loop.invariant.ended (reading_fails (CalledAt g.F.FnMut) c.loop.invariant.reading c.in_default.ensures.bytes
    c.into_closure.ensures)

pub returns-then-len-eq0 : goal.returns-then-len-eq0
returns-then-len-eq0 g c =
    let bytes = c.in-Ok.ensures.bytes in
    reading_ends (CalledAt g.F.FnMut) (take c.in-Ok.len c.read.new.buf) c.loop.invariant.reading bytes.0
    (ap (λ n. take n c.read.new.buf) c.if-len-eq0.true) (bytes.1 c.if-len-eq0.true (search rules))
    c.finish_with-answer.ensures.finished

pub returns-in-Err : goal.returns-in-Err
returns-in-Err g c =
    let bytes = c.in-Ok.ensures.bytes in
    reading_stops (CalledAt g.F.FnMut) (take c.in-Ok.len c.read.new.buf) c.loop.invariant.reading bytes.0
    (search rules) c.in-Err.ensures.fed c.into_closure-in-Err.ensures

pub returns : goal.returns
returns g c = rw c.loop.invariant.ended
    (reading_too_long (CalledAt g.F.FnMut) c.loop.invariant.reading c.into_closure-2.ensures)
