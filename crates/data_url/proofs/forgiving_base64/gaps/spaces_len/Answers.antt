use Rattle.std.proofs.Common.{ap, arith, length, length-drop}
use Rattle.std.proofs.{lemmas.List.Sums.{prefix_len-le-length}, lemmas.Str.Ascii.{trim_ascii_start_is}}
use Rattle.std.specs.{Char.{is_ascii_whitespace}, List.{prefix_len}}
use Rattle.data_url.proofs.forgiving_base64.gaps.spaces_len.Goals as goal

pub returns-clause-spaces : goal.returns-clause-spaces
returns-clause-spaces c =
    let s = c.args.text.now in
    omega (
      arith,
      ap length (trim_ascii_start_is _ _ c.trim_ascii_start.ensures.value),
      length-drop (prefix_len is_ascii_whitespace s) s,
      prefix_len-le-length is_ascii_whitespace s,
    )
