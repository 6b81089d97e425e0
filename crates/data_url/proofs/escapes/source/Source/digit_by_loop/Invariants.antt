-- All bytes so far are tabs and newlines.
use Rattle.std.proofs.Common.{◌+◌, ◌-◌, ◌≡◌}
use Rattle.data_url.specs.Steps.Digits.{Skipped}
use Rattle.data_url.proofs.escapes.source.Source.digit_by_loop.Given as goal

abbrev pub invariant-loop-at : goal.invariant-loop-at
invariant-loop-at l = record {
  text : l.self.text.now ≡ l.fn.self.text.now;
  skipped : Skipped l.fn.self.text.now l.place l.at;
  looks : l.self.looks ≡ l.fn.self.looks + (l.at - l.place);
}
