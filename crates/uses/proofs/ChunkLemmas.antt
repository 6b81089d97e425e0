-- Feeding a decoder chunks in turn.
use Rattle.std.proofs.Common.{◌≡◌, ℕ, Bool, true, false, not, List, [], ◌∷◌, ◌++◌, Result, Ok, Err, refl, sym, ap, ◌∙◌}
use Rattle.std.proofs.Common.{subst, append_assoc}
use Rattle.std.proofs.lemmas.List.{append-nil}
use Rattle.std.proofs.lemmas.List.Concat.{flat_map-append}
use Rattle.std.specs.Borrow.{Bor}
use Rattle.std.specs.Prelude.{MatchBool, is_err}
use Rattle.data_url.specs.Decoder.{Feeds, State}
use Rattle.data_url.specs.declared.forgiving_base64.DecodeError.{DecodeError}
use Rattle.data_url.proofs.api.{feeds_then}
use Rattle.uses.specs.Chunks.{FeedsChunks, TakesChunks, joined}

-- chunks with one more at the end, joined, are the chunks, joined, and then that one
joined_more : (chunks : List (Bor (List ℕ))) (chunk : Bor (List ℕ))
    → joined (chunks ++ (chunk ∷ [])) ≡ joined chunks ++ chunk.now
joined_more chunks chunk = cc (flat_map-append (λ x. x.now) chunks (chunk ∷ []), append-nil chunk.now)

module _ {F E : Type 0} (step : F → List ℕ → Result (Unit {0}) E → F → Type 0) where
  -- what feeding chunks does to a decoder that has failed, and to one that has not
  abbrev Fed : Bool → State F → List (Bor (List ℕ)) → Bool → State F → Type 0
  Fed failed d chunks took d' = MatchBool failed ((took ≡ false) × (d' ≡ d)) (TakesChunks step d chunks took d')

  -- feeding no chunks does not change a decoder, and takes them all unless the decoder has failed
  none_by : (failed : Bool) (d : State F) → (failed ≡ false → Feeds step d [] (Ok tt) d)
      → Fed failed d [] (not failed) d
  none_by true d none = (refl, refl)
  none_by false d none = none refl

  -- no chunks
  pub chunks_none : (d : State F) → (d.failed ≡ false → Feeds step d [] (Ok tt) d)
      → FeedsChunks step d [] (not d.failed) d
  chunks_none d none = none_by d.failed d none

  -- if feeding xs does not take all chunks, feeding xs ++ ys does not either, and leaves the decoder alike
  others_by : (failed : Bool) (d d' : State F) (xs ys : List (Bor (List ℕ))) → Fed failed d xs false d'
      → Fed failed d (xs ++ ys) false d'
  others_by true d d' xs ys h = h
  others_by false d d' xs ys h = record {
    taken = h.taken;
    refused = h.refused;
    others = h.others ++ ys;
    chunks_are = ap (λ s. s ++ ys) h.chunks_are ∙ append_assoc h.taken (h.refused ∷ h.others) ys;
    between = h.between;
    takes = h.takes;
    error = h.error;
    refuses = h.refuses;
  }

  -- a decoder that has failed is not fed the chunks that follow
  pub chunks_stop : (d d' : State F) (xs ys : List (Bor (List ℕ))) → d'.failed ≡ true
      → FeedsChunks step d xs (not d'.failed) d' → FeedsChunks step d (xs ++ ys) false d'
  chunks_stop d d' xs ys e h =
      let P : Bool → Type 0 = λ failed. FeedsChunks step d xs (not failed) d' in
      others_by d.failed d d' xs ys (subst P e h)

  -- after chunks that were all taken, one more chunk is taken too, unless feeding it returns an error
  more_by : (failed : Bool) (d d1 d2 : State F) (xs : List (Bor (List ℕ))) (chunk : Bor (List ℕ))
      (r : Result (Unit {0}) (DecodeError E))
      → Fed failed d xs true d1 → Feeds step d1 chunk.now r d2 → Fed failed d (xs ++ (chunk ∷ [])) (not (is_err r)) d2
  more_by true d d1 d2 xs chunk r h g = absurd (let k = h.0 in cc)
  more_by false d d1 d2 xs chunk (Ok x) h g =
      let P : List ℕ → Type 0 = λ s. Feeds step d s (Ok tt) d2 in
      subst P (sym (joined_more xs chunk)) (feeds_then step h g)
  more_by false d d1 d2 xs chunk (Err e) h g = record {
    taken = xs;
    refused = chunk;
    others = [];
    chunks_are = refl;
    between = d1;
    takes = h;
    error = e;
    refuses = g;
  }

  -- one chunk more, fed to a decoder that has not failed
  pub chunks_more : (d d1 d2 : State F) (xs : List (Bor (List ℕ))) (chunk : Bor (List ℕ))
      (r : Result (Unit {0}) (DecodeError E))
      → d1.failed ≡ false → FeedsChunks step d xs (not d1.failed) d1 → Feeds step d1 chunk.now r d2
      → FeedsChunks step d (xs ++ (chunk ∷ [])) (not d2.failed) d2
  chunks_more d d1 d2 xs chunk r e h g =
      let P : Bool → Type 0 = λ failed. FeedsChunks step d xs (not failed) d1 in
      let Q : Bool → Type 0 = λ failed. FeedsChunks step d (xs ++ (chunk ∷ [])) (not failed) d2 in
      subst Q (sym g.failed) (more_by d.failed d d1 d2 xs chunk r (subst P e h) g)
