use Rattle.std.proofs.Common.{arith, ◌≡◌, ◌∙◌, Bor, List, ℕ, false, true, not, [], take, drop, get_or, sym, subst}
use Rattle.std.proofs.Common.{length-take, take-append-drop}
use Rattle.std.proofs.lemmas.List.{take_more}
use Rattle.std.specs.Fn.{CalledAt}
use Rattle.data_url.specs.Decoder.{state_of}
use Rattle.data_url.proofs.api.{every_list_all, feeds_none}
use Rattle.uses.specs.Chunks.{FeedsChunks}
use Rattle.uses.proofs.ChunkLemmas.{chunks_more, chunks_none, chunks_stop}
use Rattle.uses.proofs.chunks.feed_chunks.Goals as goal

pub loop-chunk-init : goal.loop-chunk-init
loop-chunk-init g c = grind (arith, chunks_none, feeds_none, every_list_all, length-take)

pub returns-then-has_failed-clause-fed : goal.returns-then-has_failed-clause-fed
returns-then-has_failed-clause-fed g c =
    let chunks : List (Bor (List ℕ)) = c.args.chunks.now in
    let at : ℕ = c.loop-chunk.chunk-index in
    let failed : c.loop-chunk.decoder.failed ≡ true = sym c.has_failed.ensures ∙ c.if-has_failed.true in
    let P : List (Bor (List ℕ)) → Type 0 = λ xs. FeedsChunks (CalledAt g.F.FnMut) (state_of c.args.decoder.now) xs false
    (state_of c.loop-chunk.decoder) in
    subst P (take-append-drop at chunks) (chunks_stop (CalledAt g.F.FnMut) (state_of c.args.decoder.now)
    (state_of c.loop-chunk.decoder) (take at chunks) (drop at chunks) failed c.loop-chunk.invariant.1)

pub loop-chunk-preserved : goal.loop-chunk-preserved
loop-chunk-preserved g c =
    let chunks : List (Bor (List ℕ)) = c.args.chunks.now in
    let at : ℕ = c.loop-chunk.chunk-index in
    let none : Bor (List ℕ) = record { ref_ptr = (0, 0); now = [] } in
    let going : c.loop-chunk.decoder.failed ≡ false = sym c.has_failed.ensures ∙ c.if-has_failed.false in
    let P : List (Bor (List ℕ)) → Type 0 = λ xs. FeedsChunks (CalledAt g.F.FnMut) (state_of c.args.decoder.now) xs
    (not c.feed-answer.new.self.failed) (state_of c.feed-answer.new.self) in (
      c.feed-answer.ensures.callable,
      subst P (sym (take_more chunks at none c.loop-chunk-test.true))
          (chunks_more (CalledAt g.F.FnMut) (state_of c.args.decoder.now) (state_of c.loop-chunk.decoder)
          (state_of c.feed-answer.new.self) (take at chunks) (get_or chunks at none) c.feed-answer.result going
          c.loop-chunk.invariant.1 c.feed-answer.ensures.fed),
    )
