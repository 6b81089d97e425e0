use Rattle.std.proofs.{Common.{arith, refl, sym, w64, ◌∙◌}, lemmas.Bool.{false≢true}}
use Rattle.std.proofs.lemmas.Nat.Bits.{bit_at-trailing_zeros}
use Rattle.data_url.proofs.mime.FirstNames.{first_len, found_named, none_unset, one_cleared}
use Rattle.data_url.proofs.mime.kept.KeptParameters.is_in_row.Goals as goal

pub loop-left-init : goal.loop-left-init
loop-left-init c = none_unset {len = c.min-end.result} c.requires.indexed (omega arith) c.utf8.name c.requires.token
    refl c.args.at c.requires.within c.requires.bits

pub returns-then-place-end-clause-none : goal.returns-then-place-end-clause-none
returns-then-place-end-clause-none c _ k a l w =
    let low = bit_at-trailing_zeros w64 c.loop-left.left (omega arith) (omega arith) in
    c.loop-left.invariant.unset k a l (low.2 _ (omega (arith, first_len c.requires.indexed refl))) w

pub returns-then-eq_ignore_ascii_case-clause-found : goal.returns-then-eq_ignore_ascii_case-clause-found
returns-then-eq_ignore_ascii_case-clause-found c _ =
    found_named c.requires.indexed (omega arith) c.utf8.name c.requires.token refl {item = c.index.result.now}
    c.if-place-end.false c.index.ensures c.deref.ensures
    (c.eq_ignore_ascii_case.ensures.test.0 c.if-eq_ignore_ascii_case.true)

pub loop-left-preserved : goal.loop-left-preserved
loop-left-preserved c = one_cleared c.requires.indexed (omega arith) c.utf8.name c.requires.token refl
    {item = c.index.result.now} c.if-place-end.false c.index.ensures c.deref.ensures c.loop-left.invariant
    c.loop-left-test.true (omega arith) refl refl
    (λ same. false≢true (sym c.if-eq_ignore_ascii_case.false ∙ c.eq_ignore_ascii_case.ensures.test.1 same))
