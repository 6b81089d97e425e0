use Rattle.std.proofs.Common.{◌||◌, ◌≤◌, ◌+◌, ap, arith, drop, get_or, length}
use Rattle.std.proofs.Common.{length-take, length-take-le, not, refl, take, take-add}
use Rattle.std.proofs.lemmas.List.{take_rest}
use Rattle.std.proofs.lemmas.List.{Elements.{filter-append}, Filters.{length-filter_both}}
use Rattle.std.specs.{Char.{is_ascii_whitespace}}
use Rattle.data_url.specs.{Base64.{is_symbol}, Steps.Groups.{is_symbol_or_space}}
use Rattle.data_url.proofs.forgiving_base64.Joined.{all_after, some_after}
use Rattle.data_url.proofs.forgiving_base64.{Packed.{front_symbols_kept, row_mask_small}, Vectors.{is_other}}
use Rattle.data_url.proofs.forgiving_base64.gaps.pack_spaced.Goals as goal

pub pack_row-have-requires-clause-bits : goal.pack_row-have-requires-clause-bits
pack_row-have-requires-clause-bits c =
    row_mask_small is_other c.spliced-front.result (omega arith) c.non_symbols.ensures

pub returns-clause-spaced : goal.returns-clause-spaced
returns-clause-spaced c =
    let rows = c.pack_rows-have in
    (all_after is_symbol_or_space c.args.text.now c.first_row-row.result rows.result.1 refl
    (rw (take_rest c.args.text.now rows.result.1) at c.first_row-row.ensures)
    c.spaced_ahead-end.ensures.starts rows.ensures.sizes.1 rows.ensures.spaced).1.0

pub returns-clause-symbols : goal.returns-clause-symbols
returns-clause-symbols c =
    let text = c.args.text.now in
    let at = c.pack_rows-have.result.1 in
    let end = c.spaced_ahead-end.result in
    let row = c.first_row-row.result in
    let rows = c.pack_rows-have.ensures in
    let same = (all_after is_symbol_or_space text row at refl (rw (take_rest text at) at c.first_row-row.ensures)
    c.spaced_ahead-end.ensures.starts rows.sizes.1 rows.spaced).1.1 in
    cc (
      take-add at end text,
      filter-append is_symbol (take at text) (take end (drop at text)),
      rows.symbols,
      same,
      front_symbols_kept row c.spliced-front.result end c.spliced-front.ensures c.non_symbols.ensures,
      c.pack_row-have.ensures.kept,
    )

pub returns-clause-sizes : goal.returns-clause-sizes
returns-clause-sizes c =
    let text = c.args.text.now in
    let at = c.pack_rows-have.result.1 in
    let row = c.first_row-row.result in
    let rows = c.pack_rows-have.ensures in
    let end = c.spaced_ahead-end.result in
    let is = rw (take_rest text at) at c.first_row-row.ensures in
    let ends = c.spaced_ahead-end.ensures.starts in
    let front = take (at + end) text in
    let within = (all_after is_symbol_or_space text row at refl is ends rows.sizes.1 rows.spaced).0 in
    let some = some_after is_symbol_or_space text row at is ends c.requires.some.0
    (ap (λ t. t || is_ascii_whitespace (get_or text 0 0)) c.requires.some.1) in
    let few : c.pack_row-have.result ≤ at + end = omega (
      arith,
      ap length (returns-clause-symbols c),
      length-take-le c.pack_row-have.result c.pack_row-have.new.bytes (omega (
        arith,
        c.pack_row-have.ensures.few,
        c.pack_row-have.auto.bytes,
        c.pack_rows-have.auto.symbols,
        rows.sizes,
        c.requires.room,
      )),
      length-filter_both is_symbol (λ b. not (is_symbol b)) (λ b. refl) front,
      length-take (at + end) text,
    ) in
    (few, (some, within))
