use Rattle.std.proofs.Common.{◌≡◌, ap, arith, refl, rules, sym, take, tests, ◌∙◌}
use Rattle.std.specs.List.{list_all}
use Rattle.std.proofs.lemmas.Iterator.{YieldsList-from_slice}
use Rattle.std.proofs.lemmas.Iterator.Search.{all_from_yields_List}
use Rattle.data_url.specs.Base64.{is_symbol}
use Rattle.data_url.proofs.forgiving_base64.Joined.{first_items}
use Rattle.data_url.proofs.forgiving_base64.left_over.LeftOver.from_parts.Goals as goal

pub invariant_of-result : goal.invariant_of-result
invariant_of-result c =
    let symbols = take c.args.pending c.args.symbols in
    let all : c.all.result ≡ list_all is_symbol symbols =
    all_from_yields_List is_symbol _ _ _ c.all.ensures.ran (YieldsList-from_slice symbols (search rules))
    (λ x b q k. search (rules, tests)) in
    let first = first_items c.args.symbols _ c.args.pending (omega arith) (omega arith) in
    record {
      few_pending = omega arith;
      pending_symbols = ap (list_all is_symbol) first ∙ sym all ∙ c.if-not-all.false;
      few_padding = omega arith;
      sized = refl;
    }
