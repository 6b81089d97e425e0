use Rattle.std.proofs.Common.{◌+◌, ◌-◌, ◌≤◌, ap, arith, drop, get_or, length, subst, sym, take, take-append-drop}
use Rattle.std.proofs.Common.{ℕ, ◌<◌, ◌≡◌}
use Rattle.data_url.specs.Steps.Sets.{in_set}
use Rattle.data_url.proofs.percent.Encoding.{encoded-append, encoded_text, first_bytes, kept_front, put_last, put_next}
use Rattle.data_url.proofs.percent.encode_next.Goals as goal

pub returns-then-kept-part-clause-written : goal.returns-then-kept-part-clause-written
returns-then-kept-part-clause-written c =
    let p = in_set c.args.set in
    let text = c.args.bytes.now in
    let kept = c.split_at-2.result.0.now in
    let cut = c.split_at-2.ensures in
    let as_is = kept_front p c.unencoded_table.result text kept c.min-2.result c.rows_len.result
    c.unencoded_table.ensures
    (λ i. omega (arith, c.type_inv.bytes i)) c.rows_len.ensures.within c.rows_len.ensures.prefix
    (cc (cut.front, cut.front_len)) (omega (arith, cut.front_len)) in
    cc (
      as_is,
      cut.front,
      cut.front_len,
      cut.back,
      encoded-append p kept (drop (length kept) text),
      take-append-drop (length kept) text,
    )

pub returns-then-kept-part-clause-text : goal.returns-then-kept-part-clause-text
returns-then-kept-part-clause-text c =
    let text = c.args.bytes.now in
    let kept = c.split_at-2.result.0.now in
    let cut = c.split_at-2.ensures in
    let bytes : (i : ℕ) → get_or text i 0 < 256 = λ i. omega (arith, c.type_inv.bytes i) in
    let front : kept ≡ take (length kept) text = cc (cut.front, cut.front_len) in
    let as_is = kept_front (in_set c.args.set) c.unencoded_table.result text kept c.min-2.result c.rows_len.result
    c.unencoded_table.ensures bytes c.rows_len.ensures.within c.rows_len.ensures.prefix front
    (omega (arith, cut.front_len)) in
    let small = subst (λ x. (i : ℕ) → get_or x i 0 < 256) (sym front) (first_bytes text (length kept) bytes) in
    encoded_text c.args.set kept kept small as_is

pub loop-read-preserved : goal.loop-read-preserved
loop-read-preserved c =
    let part = c.split_at.result.0.now in
    let at = c.loop-read.read in
    let eight : at + 8 - at ≡ 8 = omega arith in
    let more : at + 8 ≤ length part = omega (arith, c.loop-read-test.true, c.loop-read.invariant.within) in
    record {
      within = more;
      put = put_next (in_set c.args.set) part _ at 8 _ _ _ _ c.loop-read.invariant.put
          (ap (λ n. take n (drop at part)) eight) more
          c.put_encoded-at.array_long c.put_encoded-at.ensures.few c.put_encoded-at.ensures.written;
    }

pub returns-clause-written : goal.returns-clause-written
returns-clause-written c =
    let p = in_set c.args.set in
    let part = c.split_at.result.0.now in
    let cut = c.split_at.ensures in
    let all = put_last p part c.loop-read.read _ _ _ c.loop-read.invariant.put
    c.put_encoded-at-2.ensures.written in
    cc (
      all,
      cut.front,
      cut.front_len,
      cut.back,
      encoded-append p part c.split_at.result.1.now,
      take-append-drop (length part) c.args.bytes.now,
    )

pub returns-clause-text : goal.returns-clause-text
returns-clause-text c =
    let text = c.args.bytes.now in
    let part = c.split_at.result.0.now in
    let cut = c.split_at.ensures in
    let front : part ≡ take (length part) text = cc (cut.front, cut.front_len) in
    let bytes = first_bytes text (length part) (λ i. omega (arith, c.type_inv.bytes i)) in
    let small = subst (λ x. (i : ℕ) → get_or x i 0 < 256) (sym front) bytes in
    encoded_text c.args.set part _ small (put_last (in_set c.args.set) part c.loop-read.read _ _ _
    c.loop-read.invariant.put c.put_encoded-at-2.ensures.written)
