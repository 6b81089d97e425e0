-- What was written and what is left to write are together the whole text.
use Rattle.std.proofs.Common.{◌≡◌, ℕ, List, ◌++◌, encode_utf8_all}
use Rattle.std.specs.{Fmt.{HasWrittenStyled, IsFlush}, List.{flat_map}, Str.{IsUtf8, chars}, Str.Iter.{chars_rest}}
use Rattle.data_url.specs.Mime.{escaped_code_point}
use Rattle.data_url.proofs.mime.print.write_each_escaped.Given as goal

abbrev pub invariant-loop-c : goal.invariant-loop-c
invariant-loop-c g l = IsUtf8 (chars_rest l.c-iterator) × (IsFlush l.initial.f → (done : List ℕ) × HasWrittenStyled
    g.W.Write.write_str_gives l.initial.f done l.f × (done ++ encode_utf8_all (flat_map escaped_code_point (chars
    (chars_rest l.c-iterator))) ≡ encode_utf8_all (flat_map escaped_code_point (chars l.text))))
