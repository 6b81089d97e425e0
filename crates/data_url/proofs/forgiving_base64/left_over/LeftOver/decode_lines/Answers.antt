use Rattle.std.proofs.Common.{◌*◌, ◌+◌, ◌-◌, ◌/◌, ◌≤◌, ◌∙◌, ap, arith, length, refl, sym, take}
use Rattle.data_url.specs.Steps.Holding.{left_state}
use Rattle.data_url.proofs.forgiving_base64.Groups.{put_front}
use Rattle.data_url.proofs.forgiving_base64.Joined.{Rows, completes_rows, rows_joined, rows_none, rows_spaces}
use Rattle.data_url.proofs.forgiving_base64.Joined.{rows_whole}
use Rattle.data_url.proofs.forgiving_base64.Steps.{sound}
use Rattle.data_url.proofs.forgiving_base64.left_over.LeftOver.decode_lines.Goals as goal

pub rows-init : goal.rows-init
rows-init c =
    let d = c.args.self.now in
    record {
      line = omega arith;
      few = omega (arith, d.few_pending);
      long = d.sized;
      whole = refl;
      size = omega arith;
      rows = rows_none c.args.text.now d.pending d.pending_symbols refl;
    }

-- the row has the symbols that follow
followed : (c : goal.Else-count-eq-ROW) → Rows (take c.args.self.now.pending c.args.self.now.symbols) c.args.text.now
    c.continued-row.result (take c.rows.len c.rows.bytes)
    (c.rows.at + (c.symbols_ahead-count.result - c.rows.have)) c.symbols_ahead-count.result
    × (c.rows.have ≤ c.symbols_ahead-count.result)
followed c =
    rows_joined c.rows.invariant.rows c.rows.invariant.long c.rows.invariant.few c.continued-row.ensures
    c.symbols_ahead-count.ensures.starts

pub overflow_sub-at-else-count-eq-ROW : goal.overflow_sub-at-else-count-eq-ROW
overflow_sub-at-else-count-eq-ROW c = (followed c).1

pub slice_bounds-spaces_len-count : goal.slice_bounds-spaces_len-count
slice_bounds-spaces_len-count c = (followed c).0.within

pub slice_bounds-spaces_len-start : goal.slice_bounds-spaces_len-start
slice_bounds-spaces_len-start c = (followed c).0.within

pub rows-preserved-then-count-eq-ROW : goal.rows-preserved-then-count-eq-ROW
rows-preserved-then-count-eq-ROW c =
    let l = c.rows in
    let full = c.if-count-eq-ROW.true in
    let joined = rows_joined l.invariant.rows l.invariant.long l.invariant.few c.continued-row.ensures
    c.symbols_ahead-count.ensures.starts in
    record {
      line = omega (arith, l.invariant.line);
      few = omega arith;
      long = c.type_inv.row.0;
      whole = omega (arith, l.invariant.whole);
      size = omega (arith, l.invariant.size, full, joined.1);
      rows = rw full at (rows_whole c.decode_row.result joined.0 full c.type_inv.row.0 c.decode_row.ensures.bytes
          (put_front l.bytes c.put.new.bytes c.decode_row.result l.len 12 (omega arith) (omega arith) c.put.ensures));
    }

pub rows-smaller-then-count-eq-ROW : goal.rows-smaller-then-count-eq-ROW
rows-smaller-then-count-eq-ROW c =
    let l = c.rows in
    let joined = rows_joined l.invariant.rows l.invariant.long l.invariant.few c.continued-row.ensures
    c.symbols_ahead-count.ensures.starts in
    omega (arith, c.if-count-eq-ROW.true, joined.0.within, joined.1)

pub rows-preserved : goal.rows-preserved
rows-preserved c =
    let l = c.rows in
    let joined = rows_joined l.invariant.rows l.invariant.long l.invariant.few c.continued-row.ensures
    c.symbols_ahead-count.ensures.starts in
    record {
      line = omega arith;
      few = omega (arith, c.symbols_ahead-count.ensures.few);
      long = c.type_inv.row.0;
      whole = l.invariant.whole;
      size = omega (arith, l.invariant.size, joined.1);
      rows = rows_spaces joined.0 c.type_inv.row.0 (omega (arith, c.symbols_ahead-count.ensures.few))
          c.spaces_len-spaces.ensures.spaces;
    }

pub rows-smaller : goal.rows-smaller
rows-smaller c =
    let l = c.rows in
    let joined = rows_joined l.invariant.rows l.invariant.long l.invariant.few c.continued-row.ensures
    c.symbols_ahead-count.ensures.starts in
    omega (arith, c.if-spaces-eq0.false, joined.0.within, joined.1, (rows-preserved c).rows.within)

pub keep_after_groups-requires-clause-symbols : goal.keep_after_groups-requires-clause-symbols
keep_after_groups-requires-clause-symbols c =
    let l = c.rows in
    elim c.rows-test.branch [
      | goal.else-rows-test w ↦ rw (w.row-is, w.have-is) l.invariant.rows.in_row
      | goal.then-rows-test+else-count-eq-ROW+then-spaces-eq0 w ↦
          let more = rows_joined l.invariant.rows l.invariant.long l.invariant.few w.continued-row.ensures
          w.symbols_ahead-count.ensures.starts in
          rw (w.row-is, w.have-is) more.0.in_row
    ]

-- the rows where the loop ends
ended : (c : goal.After-row_known-1) → Rows (take c.args.self.now.pending c.args.self.now.symbols) c.args.text.now
    c.rows-test.row (take c.rows.len c.rows.bytes) c.rows-test.at c.rows-test.have
    × ((c.rows-test.have ≤ 16) × (4 * c.rows.len + 3 * c.rows-test.have
    ≤ 3 * (c.args.self.now.pending + c.rows-test.at)))
ended c =
    let l = c.rows in
    let e = c.rows-test in
    elim e.branch [
      | goal.else-rows-test w ↦
          rw (w.row-is, w.at-is, w.have-is) (l.invariant.rows, (l.invariant.few, l.invariant.size))
      | goal.then-rows-test+else-count-eq-ROW+then-spaces-eq0 w ↦
          let long = sym (ap length w.row-is) ∙ e.auto.row.0 in
          let few = w.symbols_ahead-count.ensures.few in
          let more = rows_joined l.invariant.rows l.invariant.long l.invariant.few w.continued-row.ensures
          w.symbols_ahead-count.ensures.starts in
          rw (w.row-is, w.at-is, w.have-is) (
            rows_spaces more.0 long few w.spaces_len-spaces.ensures.spaces,
            (few, omega (arith, l.invariant.size, more.1)),
          )
    ]

pub returns-clause-sizes : goal.returns-clause-sizes
returns-clause-sizes c = ((ended c).0.within, omega (arith, c.rows.invariant.whole))

pub returns-clause-size : goal.returns-clause-size
returns-clause-size c = omega (arith, (ended c).1.1)

pub returns-clause-read : goal.returns-clause-read
returns-clause-read c =
    let l = c.rows in
    let d = c.args.self.now in
    let e = c.rows-test in
    let rows = ended c in
    let kept = c.keep_after_groups.ensures.left in
    completes_rows (left_state d) (left_state c.keep_after_groups.new.self) c.args.text.now e.row (take l.len l.bytes)
    e.at e.have rows.0 e.auto.row.0 rows.1.0 (sound d) c.requires.no_padding refl (ap (λ s. s.symbols) kept)
    (ap (λ s. s.padding) kept ∙ c.requires.no_padding) refl c.decode_row-2.result c.decode_row-2.ensures.bytes
    (put_front l.bytes c.put-2.new.bytes c.decode_row-2.result l.len (e.have / 4 * 3) (omega arith)
    (omega (arith, rows.1.0)) c.put-2.ensures)
