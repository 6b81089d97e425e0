-- The rows so far are copied, and no byte of them is '"' or '\'.
use Rattle.std.proofs.Common.{◌-◌, length}
use Rattle.data_url.proofs.mime.TokenTexts.{IsCopied}
use Rattle.data_url.proofs.mime.values.copy_rows.Given as goal

abbrev pub invariant-loop-copied : goal.invariant-loop-copied
invariant-loop-copied l = IsCopied l.text l.initial.value l.value l.len l.copied

abbrev pub decreases-loop-copied : goal.decreases-loop-copied
decreases-loop-copied l = length l.text - l.copied
