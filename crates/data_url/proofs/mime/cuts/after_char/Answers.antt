use Rattle.std.proofs.Common.{arith, inl, inr}
use Rattle.std.proofs.lemmas.Str.{IsCharBoundary-after_ascii}
use Rattle.data_url.proofs.mime.Parsing.{first_char, no_first_char}
use Rattle.data_url.proofs.mime.cuts.after_char.Goals.{then-is_empty-via-then-is_empty}
use Rattle.data_url.proofs.mime.cuts.after_char.Goals.{then-is_empty-via-else-is_empty+then-bytes-c}
use Rattle.data_url.proofs.mime.cuts.after_char.Goals as goal

pub returns-then-is_empty : goal.returns-then-is_empty
returns-then-is_empty c = no_first_char c.args.text.now c.args.c c.utf8.text c.requires (elim c.then-is_empty.branch [
  | then-is_empty-via-then-is_empty w ↦ inl (grind arith)
  | then-is_empty-via-else-is_empty+then-bytes-c w ↦ inr (λ e. grind arith)
])

pub range_from-requires : goal.range_from-requires
range_from-requires c =
    search (IsCharBoundary-after_ascii c.args.text.now 0 c.utf8.text (grind arith) (grind arith))

pub returns : goal.returns
returns c =
    rw c.range_from.ensures.value
    (first_char c.args.text.now c.args.c c.utf8.text c.requires (grind arith) (grind arith))
