use Rattle.std.proofs.Common.{List, ap, arith, refl, sym, take, take-take, true, ◌∙◌, ◌≡◌, ◌≤◌, ℕ}
use Rattle.std.specs.List.{list_all}
use Rattle.data_url.specs.Base64.{is_symbol}
use Rattle.data_url.specs.Parts.{is_left_over}
use Rattle.data_url.proofs.forgiving_base64.left_over.LeftOver.into_parts.Goals as goal

-- few symbols and little padding may be left over
may_be_left : (symbols : List ℕ) (pending padding : ℕ) → pending ≤ 3 → padding ≤ 3
    → list_all is_symbol (take pending symbols) ≡ true → is_left_over symbols pending padding ≡ true
may_be_left symbols pending padding few little all = grind (arith, all)

pub returns : goal.returns
returns c =
    let s = c.args.self in
    let first : c.copy_from_slice.new.self ≡ take 3 s.symbols = c.copy_from_slice.ensures.after in
    let left = ap (take s.pending) first ∙ take-take s.pending 3 s.symbols s.few_pending in
    record {
      symbols_are = sym first;
      pending_is = refl;
      padding_is = refl;
      good = may_be_left _ s.pending s.padding s.few_pending s.few_padding
          (ap (list_all is_symbol) left ∙ s.pending_symbols);
    }
