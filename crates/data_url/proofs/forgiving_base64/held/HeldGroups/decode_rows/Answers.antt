use Rattle.std.proofs.Common.{◌+◌, ◌∙◌, ◌≡◌, ap, arith, drop, drop-drop, length, length-drop, refl, sym, take_all}
use Rattle.std.{proofs.lemmas.List.{take_rest}, specs.{Char.{is_ascii_whitespace}, List.{list_all, prefix_len}}}
use Rattle.data_url.specs.Base64.{is_symbol}
use Rattle.data_url.proofs.forgiving_base64.Groups.{leaves_all, row_leaves, row_leaves_at, row_long}
use Rattle.data_url.proofs.{classes.Lookups.{all_in_rows}, forgiving_base64.Groups.{prefix_passes}}
use Rattle.data_url.proofs.forgiving_base64.held.HeldGroups.decode_rows.Goals as goal

pub loop-at-init : goal.loop-at-init
loop-at-init c = record {
  within = omega arith;
  few = omega (arith, c.requires.room);
  whole = c.args.self.now.whole;
  full = omega (arith, c.requires.room, c.args.self.now.whole, c.min-end.ensures);
  rows = omega (arith, c.min-end.ensures, c.saturating_sub-rows_end.ensures);
  leaves = leaves_all _ _;
}

pub loop-at-preserved-then-is_of_symbols : goal.loop-at-preserved-then-is_of_symbols
loop-at-preserved-then-is_of_symbols c =
    let l = c.loop-at in
    let i = l.invariant in
    let text = c.args.text.now in
    let row = c.row-row.result in
    let long = row_long (drop l.at text) c.row-row.ensures (omega (arith, length-drop l.at text, i.rows)) in
    let all = sym (c.is_of_symbols.ensures ∙ all_in_rows is_symbol row c.repeated.ensures) ∙ c.if-is_of_symbols.true in
    record {
      within = omega (arith, i.rows);
      few = omega (arith, i.full);
      whole = omega (arith, i.whole);
      full = omega (arith, i.full);
      rows = i.rows;
      leaves = row_leaves_at text l.self.bytes _ _ row l.at l.len 4 0 i.leaves (omega (arith, l.self.sized))
          c.put.ensures c.decode_row.ensures.bytes (omega (arith, i.rows)) c.row-row.ensures (omega arith)
          (ap (list_all is_symbol) (take_all 16 row (omega (arith, long))) ∙ all) refl;
    }

pub loop-at-preserved-then-symbols_ahead-eq12 : goal.loop-at-preserved-then-symbols_ahead-eq12
loop-at-preserved-then-symbols_ahead-eq12 c =
    let l = c.loop-at in
    let i = l.invariant in
    let text = c.args.text.now in
    let row = c.row-row.result in
    let symbols : 12 ≡ prefix_len is_symbol row = sym c.if-symbols_ahead-eq12.true ∙ c.symbols_ahead.ensures.starts in
    let spaces = c.spaces_after_twelve-spaces.ensures in
    let after = drop 12 (drop l.at text) in
    let front : c.spaces_after_twelve-spaces.result ≡ prefix_len is_ascii_whitespace after =
    spaces.spaces ∙ ap (λ t. prefix_len is_ascii_whitespace (drop 12 t)) (take_rest text l.at) in
    let ends = c.min-end-then-symbols_ahead-eq12.ensures in
    record {
      within = omega (
        arith,
        i.rows,
        spaces.within,
        ap length (take_rest text l.at),
        length-drop l.at text,
      );
      few = omega (arith, i.full);
      whole = omega (arith, i.whole);
      full = omega (arith, i.full, ends);
      rows = omega (arith, ends, c.saturating_sub-rows_end.ensures);
      leaves = row_leaves_at text l.self.bytes _ _ row l.at l.len 3 _ i.leaves (omega (arith, l.self.sized))
          c.put-then-symbols_ahead-eq12.ensures c.decode_row-then-symbols_ahead-eq12.ensures.bytes
          (omega (arith, i.rows)) c.row-row.ensures (omega arith) (rw symbols (prefix_passes is_symbol row))
          (rw front (prefix_passes is_ascii_whitespace after));
    }

pub loop-at-preserved : goal.loop-at-preserved
loop-at-preserved c =
    let l = c.loop-at in
    let i = l.invariant in
    let text = c.args.text.now in
    let rest = drop l.at text in
    let t = 16 + c.in-Some.found.1 in
    let ends = c.min-end-else-symbols_ahead-eq12.ensures in
    let is = rw (take_rest text l.at) at c.in-Some.ensures in
    let whole = take_all 16 c.in-Some.found.0 (omega (arith, is.long)) in
    let leaves = row_leaves l.self.bytes c.put-else-symbols_ahead-eq12.new.bytes _ c.in-Some.found.0 l.len 4 t i.leaves
    (omega (arith, l.self.sized)) c.put-else-symbols_ahead-eq12.ensures
    c.decode_row-else-symbols_ahead-eq12.ensures.bytes (omega arith) is.long (is.spaced, is.symbols_are ∙ sym whole) in
    record {
      within = omega (arith, i.rows, is.within, length-drop l.at text);
      few = omega (arith, i.full);
      whole = omega (arith, i.whole);
      full = omega (arith, i.full, ends);
      rows = omega (arith, ends, c.saturating_sub-rows_end.ensures);
      leaves = rw (sym (drop-drop t l.at text) ∙ sym (take_rest rest t)) leaves;
    }
