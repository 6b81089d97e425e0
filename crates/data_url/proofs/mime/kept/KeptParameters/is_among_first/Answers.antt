use Rattle.std.proofs.Common.{⊎_elim, arith, ap, drop, map, refl, sym, take, ◌<◌, ◌≤◌, ◌==◌, ◌∙◌, eqb, w8}
use Rattle.std.{proofs.lemmas.Bool.{cases_lt}, proofs.lemmas.Simd.{bitmask_splat}, specs.Simd.Lanes.{mask_l}}
use Rattle.data_url.specs.Steps.Kept.{first_of, pairs_of}
use Rattle.data_url.proofs.mime.FirstNames.{row_len, all_unnamed, first_len}
use Rattle.data_url.proofs.mime.kept.KeptParameters.is_among_first.Goals as goal

pub is_in_row-requires-clause-bits : goal.is_in_row-requires-clause-bits
is_in_row-requires-clause-bits c =
    let row = take 16 (drop c.loop-at.at c.args.self.now.fingerprints) in
    bitmask_splat w8 eqb c.row-row.result 16 c.fingerprint-fingerprint.result (grind (arith, row_len)) (omega arith)
    ∙ ap (λ v. mask_l (map (λ b. b == c.fingerprint-fingerprint.result) v)) c.row-row.ensures
    ∙ ap (λ f. mask_l (map (λ b. b == f) row)) c.fingerprint-fingerprint.ensures

pub loop-at-preserved : goal.loop-at-preserved
loop-at-preserved c k a l w = ⊎_elim (λ (m : k < c.loop-at.at). c.loop-at.invariant k a m w)
    (λ (m : c.loop-at.at ≤ k). c.is_in_row.ensures.none c.if-is_in_row.false k m l w) (cases_lt k c.loop-at.at)

pub returns : goal.returns
returns c = sym (all_unnamed _ (first_of (pairs_of c.args.self.now)) (λ k l. c.loop-at.invariant k (omega arith)
    (omega (arith, first_len c.requires.indexed refl)) l))
