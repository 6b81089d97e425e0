use Rattle.std.proofs.Common.{rules}
use Rattle.std.proofs.lemmas.List.{nil_from_length}
use Rattle.dataurl.proofs.OutputLemmas.{going_ends, going_fails, going_more, going_none, going_stops, to_the_end}
use Rattle.dataurl.proofs.output.write_all.Goals as goal

pub loop-rest-init : goal.loop-rest-init
loop-rest-init g c = going_none c.args.bytes.now (g.W.Write.contents c.args.writer.now)

pub returns-in_default : goal.returns-in_default
returns-in_default g c =
    going_fails c.args.bytes.now c.loop-rest.rest.now (g.W.Write.contents c.args.writer.now)
    (g.W.Write.contents c.loop-rest.writer) (g.W.Write.contents c.write.new.self) _
    (search rules) c.in_default.ensures.bytes c.loop-rest.invariant

pub returns-then-taken-eq0 : goal.returns-then-taken-eq0
returns-then-taken-eq0 g c =
    going_stops c.args.bytes.now c.loop-rest.rest.now c.in-Ok.taken (g.W.Write.contents c.args.writer.now)
    (g.W.Write.contents c.loop-rest.writer) (g.W.Write.contents c.write.new.self) _ c.if-taken-eq0.true
    (search rules) c.in-Ok.ensures.bytes c.loop-rest.invariant

pub loop-rest-preserved : goal.loop-rest-preserved
loop-rest-preserved g c =
    let more = going_more c.args.bytes.now c.loop-rest.rest.now c.in-Ok.taken (g.W.Write.contents c.args.writer.now)
    (g.W.Write.contents c.loop-rest.writer) (g.W.Write.contents c.write.new.self) c.loop-rest.invariant
    c.in-Ok.ensures.bytes in
    search (rules, more, to_the_end)

pub returns : goal.returns
returns g c = going_ends c.args.bytes.now c.loop-rest.rest.now (g.W.Write.contents c.args.writer.now)
    (g.W.Write.contents c.loop-rest.writer) (nil_from_length c.loop-rest.rest.now (search rules)) c.loop-rest.invariant
