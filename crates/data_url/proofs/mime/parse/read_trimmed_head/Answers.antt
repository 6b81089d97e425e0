use Rattle.std.{proofs.Common.{◌≡◌, ◌==◌, arith, false, length, sym}, specs.Str.{chars}}
use Rattle.data_url.proofs.mime.Parsing.{begins_empty, begins_mark, is_head, no_parameters, no_slash, no_subtype}
use Rattle.data_url.proofs.{mime.Parsing.{no_type, trimmed_stays}, texts.CodePoints.{same_empty}}
use Rattle.data_url.proofs.mime.parse.read_trimmed_head.Goals.{else-not-is_empty, then-not-is_empty+in_ok-after_char-2}
use Rattle.data_url.proofs.mime.parse.read_trimmed_head.Goals as goal

pub returns-in_err-after_char : goal.returns-in_err-after_char
returns-in_err-after_char c =
    rw c.from_residual-in_err-after_char.ensures (no_slash c.in_ok-type_.ensures (sym (trimmed_stays _ c.requires))
    c.in_err-after_char.ensures)

pub returns-in_err-subtype : goal.returns-in_err-subtype
returns-in_err-subtype c = rw c.from_residual-in_err-subtype.ensures (no_subtype c.in_ok-type_.ensures
    (sym (trimmed_stays _ c.requires)) _ c.in_ok-after_char.ensures c.in_err-subtype.ensures)

pub returns-in_err-after_char-2 : goal.returns-in_err-after_char-2
returns-in_err-after_char-2 c =
    let p = c.without_leading_whitespace-parameters in
    let n : (length (chars p.result.now) == 0) ≡ false = grind (arith, same_empty) in
    rw c.from_residual-in_err-after_char-2.ensures (no_parameters c.in_ok-type_.ensures
    (sym (trimmed_stays _ c.requires)) _ c.in_ok-after_char.ensures _
    c.in_ok-subtype.ensures p.ensures n c.in_err-after_char-2.ensures)

pub returns-in_err-type_ : goal.returns-in_err-type_
returns-in_err-type_ c = rw c.from_residual.ensures (no_type (chars c.args.text.now) (chars c.args.text.now)
    (sym (trimmed_stays _ c.requires)) c.in_err-type_.ensures)

pub returns : goal.returns
returns c =
    let parameters = c.without_leading_whitespace-parameters in
    is_head c.in_ok-type_.ensures (sym (trimmed_stays _ c.requires)) _ c.in_ok-after_char.ensures _
    c.in_ok-subtype.ensures parameters.ensures (elim c.if-not-is_empty.branch [
      | then-not-is_empty+in_ok-after_char-2 w ↦ begins_mark _ _ w.in_ok-after_char-2.ensures
      | else-not-is_empty w ↦ begins_empty _ (grind (arith, same_empty))
    ])
