use Rattle.std.{proofs.Common.{◌-◌, ◌+◌, ◌≡◌, ◌≤◌, filter, length, take, true}, specs.List.{list_all}}
use Rattle.data_url.specs.{Base64.{is_symbol}, Steps.Groups.{is_symbol_or_space}}
use Rattle.data_url.proofs.forgiving_base64.gaps.pack_rows.Given as goal

-- the symbols of the rows before `at` are packed
abbrev pub invariant-loop-have : goal.invariant-loop-have
invariant-loop-have l = record {
  few : l.have ≤ l.enough + 15;
  within : l.at ≤ length l.text;
  room : l.enough + 32 ≤ length l.symbols;
  spaced : list_all is_symbol_or_space (take l.at l.text) ≡ true;
  packed : filter is_symbol (take l.at l.text) ≡ take l.have l.symbols;
}

abbrev pub decreases-loop-have : goal.decreases-loop-have
decreases-loop-have l = length l.text - l.at
