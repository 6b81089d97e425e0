use Rattle.std.proofs.Common.{◌%◌, ◌*◌, ◌/◌, ◌∙◌, ◌≡◌, ap, arith, drop, take}
use Rattle.std.specs.List.{list_all}
use Rattle.data_url.specs.Base64.{is_symbol}
use Rattle.data_url.specs.Steps.Holding.{left_state}
use Rattle.data_url.proofs.forgiving_base64.Joined.{left_are_symbols, left_items, none_left}
use Rattle.data_url.proofs.forgiving_base64.left_over.LeftOver.keep_after_groups.Goals as goal

-- the symbols after the groups
kept : (c : goal.Joined-count-gt0) → take (c.args.count % 4) c.if-count-gt0.symbols
    ≡ drop (c.args.count / 4 * 4) (take c.args.count c.args.row)
kept c =
    let n = c.args.count in
    let size = c.fits-row.0 in
    elim c.if-count-gt0.branch [
      | goal.then-count-gt0 w ↦
          rw w.symbols-is (left_items c.args.row _ n size c.requires.few w.rotated-symbols.ensures)
      | goal.else-count-gt0 w ↦
          rw w.symbols-is (none_left c.args.row c.args.self.now.symbols n size c.requires.few (omega arith))
    ]

pub invariant_of-self-clause-pending_symbols : goal.invariant_of-self-clause-pending_symbols
invariant_of-self-clause-pending_symbols c =
    ap (list_all is_symbol) (kept c) ∙ left_are_symbols c.args.row c.args.count c.requires.symbols

pub returns-clause-left : goal.returns-clause-left
returns-clause-left c = ap (λ s. record (left_state c.args.self.now) { symbols = s }) (kept c.before)
