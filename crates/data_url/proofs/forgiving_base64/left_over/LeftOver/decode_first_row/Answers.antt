use Rattle.std.proofs.Common.{[], ◌*◌, ◌+◌, ◌≡◌, ◌-◌, ◌/◌, ◌∙◌, ap, arith, refl}
use Rattle.data_url.specs.Steps.Holding.{left_state}
use Rattle.data_url.proofs.forgiving_base64.Groups.{put_front}
use Rattle.data_url.proofs.forgiving_base64.Joined.{completes_rows, joins_left, left_ahead, rows_first}
use Rattle.data_url.proofs.forgiving_base64.Steps.{sound}
use Rattle.data_url.proofs.forgiving_base64.left_over.LeftOver.decode_first_row.Goals as goal

pub overflow_sub-taken : goal.overflow_sub-taken
overflow_sub-taken c =
    left_ahead c.args.self.now c.args.text.now c.row_with-row.result c.row_with-row.ensures
    c.symbols_ahead-count.ensures.starts

pub keep_after_groups-requires-clause-symbols : goal.keep_after_groups-requires-clause-symbols
keep_after_groups-requires-clause-symbols c =
    (rows_first _ _ (joins_left c.args.self.now c.args.text.now c.row_with-row.result
    c.row_with-row.ensures c.symbols_ahead-count.ensures.starts) c.symbols_ahead-count.ensures.starts).in_row

pub returns-clause-sizes : goal.returns-clause-sizes
returns-clause-sizes c = (
  (joins_left c.args.self.now c.args.text.now c.row_with-row.result c.row_with-row.ensures
      c.symbols_ahead-count.ensures.starts).within,
  (omega (arith, c.symbols_ahead-count.ensures.few), omega arith),
)

pub returns-clause-read : goal.returns-clause-read
returns-clause-read c =
    let d = c.args.self.now in
    let n = c.symbols_ahead-count.result in
    let is = c.symbols_ahead-count.ensures.starts in
    let kept = c.keep_after_groups.ensures.left in
    let same : 0 + n / 4 * 3 ≡ n / 4 * 3 = omega arith in
    completes_rows (left_state d) (left_state c.keep_after_groups.new.self) c.args.text.now c.row_with-row.result []
    (n - d.pending) n (rows_first (n - d.pending) n
    (joins_left d c.args.text.now c.row_with-row.result c.row_with-row.ensures is) is) (omega arith)
    c.symbols_ahead-count.ensures.few (sound d) c.requires.no_padding refl (ap (λ s. s.symbols) kept)
    (ap (λ s. s.padding) kept ∙ c.requires.no_padding) refl c.decode_row.result c.decode_row.ensures.bytes
    (rw same at (put_front c.args.bytes.now c.put.new.bytes c.decode_row.result 0 (n / 4 * 3) (omega arith)
    (omega (arith, c.symbols_ahead-count.ensures.few)) c.put.ensures))
