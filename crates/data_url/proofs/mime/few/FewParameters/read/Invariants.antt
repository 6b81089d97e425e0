-- The pairs so far, with those that are kept of the rest; the rest of the text gets shorter.
use Rattle.std.{proofs.Common.{length}, specs.Str.{chars}}
use Rattle.data_url.specs.Steps.Few.{AreTokens, sliced_pairs}
use Rattle.data_url.proofs.mime.FirstNames.{KeepsOn}
use denote.Shadow.{shadow}
use denote.Text.{Utf8}
use Rattle.data_url.proofs.mime.few.FewParameters.read.Given as goal

abbrev pub invariant-loop-rest : goal.invariant-loop-rest
invariant-loop-rest l = record {
  text : shadow (Utf8 l.rest);
  keeps : KeepsOn (chars l.text) (chars l.rest) (sliced_pairs l.self);
  tokens : AreTokens l.self;
}

abbrev pub decreases-loop-rest : goal.decreases-loop-rest
decreases-loop-rest l = length (chars l.rest)
