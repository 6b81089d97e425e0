use Rattle.std.proofs.Common.{◌*◌, ◌+◌, ◌-◌, ◌≡◌, ◌≤◌, ◌%◌, ◌<◌, drop, length, take}
use Rattle.data_url.specs.Steps.Groups.{held_bytes}
use Rattle.data_url.proofs.forgiving_base64.Groups.{Leaves}
use Rattle.data_url.proofs.forgiving_base64.held.HeldGroups.decode_rows.Given as goal

-- the groups of the bytes before `at` are held, and there is room for those of the bytes before `end`
abbrev pub invariant-loop-at : goal.invariant-loop-at
invariant-loop-at l = record {
  within : l.at ≤ length l.text;
  few : l.len < 396;
  whole : l.len % 3 ≡ 0;
  full : 4 * l.len + 3 * l.end ≤ 1536 + 3 * l.at;
  rows : l.end ≤ length l.text - 15;
  leaves : Leaves (held_bytes l.fn.self) l.text (drop l.at l.text) (take l.len l.self.bytes);
}

abbrev pub decreases-loop-at : goal.decreases-loop-at
decreases-loop-at l = length l.text - l.at
