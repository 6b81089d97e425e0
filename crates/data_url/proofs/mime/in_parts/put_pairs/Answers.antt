use Rattle.std.proofs.Common.{[], ap, arith, encode_utf8_all, map, sym, ◌∙◌}
use Rattle.std.proofs.lemmas.List.{get_or-map, length-map}
use Rattle.std.specs.Str.{chars}
use Rattle.data_url.specs.MimeType.{pair_of}
use Rattle.data_url.proofs.mime.PartTexts.{puts_pair}
use Rattle.data_url.proofs.mime.in_parts.put_pairs.Goals as goal

pub loop-name-preserved : goal.loop-name-preserved
loop-name-preserved c =
    let pairs = c.args.pairs.now in
    let item = c.loop-name-item.result in
    puts_pair (map (λ p. pair_of p) pairs) c.loop-name.name-index (pair_of item) _ _ c.loop-name.invariant
    (omega (arith, length-map pairs (λ p. pair_of p), c.loop-name-test.true))
    (get_or-map (λ p. pair_of p) pairs c.loop-name.name-index item ([], []) c.loop-name-test.true
    ∙ ap (λ p. pair_of p) (sym c.loop-name-item.is))
    (ap (λ x. encode_utf8_all (chars x)) (sym c.deref.ensures))
    (ap (λ x. encode_utf8_all (chars x)) (sym c.deref-in-loop-name.ensures))
    c.put_text-end.ensures c.put_text-end-in-loop-name.ensures
