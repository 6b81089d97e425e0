use Rattle.std.proofs.Common.{arith, not, refl}
use Rattle.data_url.specs.{CodePoints.{is_http_whitespace, is_token}, Steps.Split.{is_unencoded_path}}
use Rattle.data_url.specs.Steps.Parsing.{is_escaped, is_quotable_byte, is_unquoted_byte}
use Rattle.data_url.proofs.classes.Rows.{entry_is}
use Rattle.data_url.proofs.classes.has.Goals as goal

pub returns : goal.returns
unfolding is_token is_quotable_byte
returns c = elim c.match-class.branch [
  | goal.in-Token w ↦ rw (w.in-Token.is, w.bit-is) (entry_is is_token 1 refl c.args.byte (omega arith))
  | goal.in-Quotable w ↦ rw (w.in-Quotable.is, w.bit-is) (entry_is is_quotable_byte 2 refl c.args.byte (omega arith))
  | goal.in-Unquoted w ↦ rw (w.in-Unquoted.is, w.bit-is) (entry_is is_unquoted_byte 4 refl c.args.byte (omega arith))
  | goal.in-UnencodedPath w ↦ rw (w.in-UnencodedPath.is, w.bit-is) (entry_is is_unencoded_path 8 refl c.args.byte
      (omega arith))
  | goal.in-Whitespace w ↦
      rw (w.in-Whitespace.is, w.bit-is) (entry_is is_http_whitespace 16 refl c.args.byte (omega arith))
  | goal.in-Unescaped w ↦
      rw (w.in-Unescaped.is, w.bit-is) (entry_is (λ b. not (is_escaped b)) 32 refl c.args.byte (omega arith))
]
