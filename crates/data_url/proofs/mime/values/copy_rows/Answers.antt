use Rattle.std.proofs.Common.{arith, ap, ◌∙◌, not}
use Rattle.data_url.specs.{Steps.Classes.{may_be_outside}, declared.classes.TheConstants.{UNESCAPED}}
use Rattle.data_url.proofs.classes.{Lookups.{all_in_rows}, Rows.{one_row_more, row_front}}
use Rattle.data_url.proofs.mime.TokenTexts.{copies_on, as_is_front}
use lib.Count.{count_trailing_zeros}
use Rattle.data_url.proofs.mime.values.copy_rows.Goals as goal

pub returns-then-not-none_outside : goal.returns-then-not-none_outside
returns-then-not-none_outside c =
    let i = c.loop-copied.invariant in
    let all = all_in_rows (λ b. not (may_be_outside UNESCAPED b)) c.row-row.result c.repeated.ensures in
    let h = row_front UNESCAPED c.args.text.now c.loop-copied.copied i.front (omega (arith, c.loop-copied-test.true))
    c.row-row.ensures (c.none_outside.ensures ∙ all) _ c.if-not-none_outside.true
    (ap (count_trailing_zeros 64) c.outside.ensures) in
    record {
      within = h.1.within;
      copied = copies_on c.put.new.bytes _ i (omega arith) c.row-row.ensures c.put.ensures h.0;
      verbatim = as_is_front c.args.text.now _ h.1.within (λ k. omega (arith, c.type_inv.text k)) h.1.front;
    }

pub loop-copied-preserved : goal.loop-copied-preserved
loop-copied-preserved c =
    let i = c.loop-copied.invariant in
    let all = all_in_rows (λ b. not (may_be_outside UNESCAPED b)) c.row-row.result c.repeated.ensures in
    record {
      front = one_row_more UNESCAPED c.args.text.now c.loop-copied.copied i.front
          (omega (arith, c.loop-copied-test.true))
          c.row-row.ensures (c.none_outside.ensures ∙ all) c.if-not-none_outside.false;
      value_is = copies_on c.put.new.bytes 16 i (omega arith) c.row-row.ensures c.put.ensures (omega arith);
    }

pub returns-clause-verbatim : goal.returns-clause-verbatim
returns-clause-verbatim c = as_is_front c.args.text.now _ c.loop-copied.invariant.front.within
    (λ k. omega (arith, c.type_inv.text k)) c.loop-copied.invariant.front.front
