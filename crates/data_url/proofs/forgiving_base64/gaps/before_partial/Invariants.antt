use Rattle.std.proofs.Common.{◌≡◌, ◌≤◌, filter, length, take}
use Rattle.data_url.specs.Base64.{is_symbol}
use Rattle.data_url.proofs.forgiving_base64.gaps.before_partial.Given as goal

-- there are `have` symbols before `at`
abbrev pub invariant-loop-have : goal.invariant-loop-have
invariant-loop-have l = record {
  fewer : l.have ≤ l.fn.have;
  back : l.at ≤ l.fn.at;
  symbols : l.have ≡ length (filter is_symbol (take l.at l.text));
}

abbrev pub decreases-loop-have : goal.decreases-loop-have
decreases-loop-have l = l.at
