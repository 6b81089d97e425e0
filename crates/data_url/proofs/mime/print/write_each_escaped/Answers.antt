use Rattle.std.proofs.{Common.{refl, true, ◌++◌, encode_utf8_all}, lemmas.Str.{IsUtf8-past_char}}
use Rattle.std.proofs.Output.{has_written_styled_append, has_written_styled_of_eq}
use Rattle.data_url.specs.Mime.{escaped_code_point}
use Rattle.data_url.proofs.mime.RoundTrips.{escaped_end, escaped_more}
use Rattle.data_url.proofs.mime.print.write_each_escaped.Goals as goal

pub loop-c-preserved : goal.loop-c-preserved
loop-c-preserved g c = (
  IsUtf8-past_char _ _ _ c.loop-c.invariant.0 c.in-Some.ensures.steps.0,
  λ plain.
      let now = c.loop-c.invariant.1 plain in (
        now.0 ++ encode_utf8_all (escaped_code_point c.in-Some.c),
        has_written_styled_append _ _ _ _ _ _ now.1 (c.in_ok-write_escaped_char.ensures now.1.flush (refl {a = true})),
        escaped_more _ _ now.0 _ c.in-Some.c c.loop-c.invariant.0 c.in-Some.ensures.steps.0 now.2,
      ),
)

pub returns : goal.returns
returns g c plain ok =
    let now = c.loop-c.invariant.1 plain in
    has_written_styled_of_eq _ _ _ _ _ (escaped_end _ now.0 _ c.in-None.ensures.steps.0.0 now.2) now.1
