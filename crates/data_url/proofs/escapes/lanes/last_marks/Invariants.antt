use Rattle.std.proofs.Common.{◌+◌, ◌-◌, ◌≡◌, ◌≤◌, length, map, take}
use Rattle.std.specs.Simd.Lanes.{mask_l}
use Rattle.data_url.specs.Steps.Window.{is_marked}
use Rattle.data_url.proofs.escapes.lanes.last_marks.Given as goal

-- the marks of the rows that were read
abbrev pub invariant-loop-at : goal.invariant-loop-at
invariant-loop-at l = record {
  within : l.at ≤ length l.rest;
  marks : l.marks ≡ mask_l (map is_marked (take l.at l.rest));
}

abbrev pub decreases-loop-at : goal.decreases-loop-at
decreases-loop-at l = l.last + 1 - l.at
