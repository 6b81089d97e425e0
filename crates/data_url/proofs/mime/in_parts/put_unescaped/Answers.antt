use Rattle.std.proofs.Common.{◌≡◌, ◌==◌, ◌&&◌, arith, get_or, not}
use Rattle.data_url.proofs.mime.PartTexts.{unescapes_byte, unescapes_last, unescapes_past}
use Rattle.data_url.proofs.mime.in_parts.put_unescaped.Goals.{else-byte-eq92, else-not-is_escaped, then-byte-eq92}
use Rattle.data_url.proofs.mime.in_parts.put_unescaped.Goals.{then-not-is_escaped}
use Rattle.data_url.proofs.mime.in_parts.put_unescaped.Goals as goal

pub loop-byte-preserved : goal.loop-byte-preserved
loop-byte-preserved c =
    let i = c.loop-byte.byte-index in
    let flag : c.if-byte-eq92.is_escaped ≡ ((get_or c.args.quoted.now i 0 == 92) && not c.loop-byte.is_escaped) =
    elim c.if-byte-eq92.branch [
      | then-byte-eq92 w ↦ grind arith
      | else-byte-eq92 w ↦ grind arith
    ] in
    elim c.if-not-is_escaped.branch [
      | then-not-is_escaped w ↦ rw (w.output-is, w.end-is) (unescapes_byte c.loop-byte.invariant c.loop-byte-test.true
          flag w.if-not-is_escaped.true w.put-end.ensures.puts)
      | else-not-is_escaped w ↦ rw (w.output-is, w.end-is) (unescapes_past c.loop-byte.invariant c.loop-byte-test.true
          flag w.if-not-is_escaped.false)
    ]

pub returns-then-is_escaped : goal.returns-then-is_escaped
returns-then-is_escaped c = unescapes_last c.loop-byte.invariant (omega (arith, c.loop-byte-test.false))
    c.if-is_escaped.true c.put-end-then-is_escaped.ensures.puts
