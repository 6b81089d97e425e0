use Rattle.std.proofs.Common.{arith}
use Rattle.data_url.proofs.mime.Lowercase.{lowers_word}
use Rattle.data_url.proofs.mime.lower.copy_lowercase.Goals as goal

pub loop-copied-preserved : goal.loop-copied-preserved
loop-copied-preserved c =
    lowers_word c.args.bytes.now c.loop-copied.copied c.min-from.result c.loop-copied.invariant
    (omega (arith, c.min-from.ensures)) (omega (arith, c.min-from.ensures, c.if-bytes-lt-WORD.false))
    c.lowercase_word.ensures
