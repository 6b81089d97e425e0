use Rattle.std.proofs.Common.{[], ◌*◌, ◌-◌, ◌/◌, ◌∙◌, ap, arith, refl, take}
use Rattle.std.specs.List.{list_all}
use Rattle.data_url.specs.{Base64.{is_symbol}, Steps.Holding.{left_state}}
use Rattle.data_url.proofs.forgiving_base64.Groups.{prefix_passes, put_front}
use Rattle.data_url.proofs.forgiving_base64.Holding.{gains_part}
use Rattle.data_url.proofs.forgiving_base64.Joined.{gains_rows, joins_left, left_ahead, rows_first, some_read}
use Rattle.data_url.proofs.forgiving_base64.Steps.{sound}
use Rattle.data_url.proofs.forgiving_base64.left_over.LeftOver.read_symbols.Goals as goal

pub overflow_sub-read : goal.overflow_sub-read
overflow_sub-read c =
    left_ahead c.args.self.now c.args.text.now c.row_with-row.result c.row_with-row.ensures
    c.symbols_ahead-count.ensures.starts

pub keep_after_groups-requires-clause-symbols : goal.keep_after_groups-requires-clause-symbols
keep_after_groups-requires-clause-symbols c =
    ap (λ n. list_all is_symbol (take n c.row_with-row.result)) c.symbols_ahead-count.ensures.starts
    ∙ prefix_passes is_symbol c.row_with-row.result

pub returns-then-read-text : goal.returns-then-read-text
returns-then-read-text c =
    let p = c.args.groups.now in
    let spaced = c.decode_spaced-read in
    gains_part c.args.text.now p.bytes spaced.new.bytes _ c.min.result spaced.result.0 p.len spaced.result.1
    (omega (arith, p.sized, p.within)) (omega (
      arith,
      spaced.ensures.sizes,
      spaced.auto.bytes,
      p.sized,
      c.requires.room,
      spaced.ensures.read.within,
    )) spaced.ensures.read

pub returns : goal.returns
returns c =
    let d = c.args.self.now in
    let p = c.args.groups.now in
    let text = c.args.text.now in
    let row = c.row_with-row.result in
    let n = c.symbols_ahead-count.result in
    let is = c.symbols_ahead-count.ensures.starts in
    let kept = c.keep_after_groups.ensures.left in
    let rows = rows_first (n - d.pending) n (joins_left d text row c.row_with-row.ensures is) is in
    gains_rows (left_state d) (left_state c.keep_after_groups.new.self) text row [] (n - d.pending) n rows (omega arith)
    c.symbols_ahead-count.ensures.few (sound d) c.requires.no_padding refl (ap (λ s. s.symbols) kept)
    (ap (λ s. s.padding) kept ∙ c.requires.no_padding) refl c.decode_row.result c.decode_row.ensures.bytes refl
    (some_read d text row c.row_with-row.ensures is c.requires.some.0 c.requires.some.1)
    (put_front p.bytes c.put.new.bytes c.decode_row.result p.len (n / 4 * 3)
    (omega (arith, p.sized, c.requires.room)) (omega arith) c.put.ensures)
