-- The symbols and the white space so far are read; the last symbols are in the row.
use Rattle.std.proofs.Common.{◌*◌, ◌+◌, ◌-◌, ◌≡◌, ◌≤◌, ◌%◌, length, take}
use Rattle.data_url.proofs.forgiving_base64.Joined.{Rows}
use Rattle.data_url.proofs.forgiving_base64.left_over.LeftOver.decode_lines.Given as goal

abbrev pub invariant-rows : goal.invariant-rows
invariant-rows l = record {
  line : l.line ≤ l.at;
  few : l.have ≤ 16;
  long : length l.row ≡ 16;
  whole : l.len % 3 ≡ 0;
  size : 4 * l.len + 3 * l.have ≤ 3 * (l.fn.self.pending + l.at);
  rows : Rows (take l.fn.self.pending l.fn.self.symbols) l.text l.row (take l.len l.bytes) l.at l.have;
}

abbrev pub decreases-rows : goal.decreases-rows
decreases-rows l = length l.text - l.at + l.have
