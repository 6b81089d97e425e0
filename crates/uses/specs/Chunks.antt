-- What feeding a decoder the chunks of a text does, one chunk after another.
use Rattle.std.specs.Borrow.{Bor}
use Rattle.std.specs.List.{flat_map}
use Rattle.std.specs.Prelude.{◌++◌, ◌∷◌, ◌≡◌, Bool, Err, List, MatchBool, Ok, Result, false, true, ℕ}
use Rattle.data_url.specs.Decoder.{Feeds, State}
use Rattle.data_url.specs.declared.forgiving_base64.DecodeError.{DecodeError}

-- the concatenation of the chunks
abbrev pub joined : List (Bor (List ℕ)) → List ℕ
joined chunks = flat_map (λ chunk. chunk.now) chunks

-- feeding the first chunks is the same as feeding their concatenation; feeding the next chunk returned
-- an error, and the others were not fed
pub record StopsAtChunk {F E : Type 0} (step : F → List ℕ → Result (Unit {0}) E → F → Type 0)
    (d : State F) (chunks : List (Bor (List ℕ))) (d' : State F) : Type 0 where
  pub taken : List (Bor (List ℕ))
  pub refused : Bor (List ℕ)
  pub others : List (Bor (List ℕ))
  pub chunks_are : chunks ≡ taken ++ (refused ∷ others)
  pub between : State F
  pub takes : Feeds step d (joined taken) (Ok tt) between
  pub error : DecodeError E
  pub refuses : Feeds step between refused.now (Err error) d'

-- feeding all chunks is the same as feeding their concatenation; or feeding one of them returned an
-- error
abbrev pub TakesChunks : {F E : Type 0} → (F → List ℕ → Result (Unit {0}) E → F → Type 0) → State F
    → List (Bor (List ℕ)) → Bool → State F → Type 0
TakesChunks step d chunks true d' = Feeds step d (joined chunks) (Ok tt) d'
TakesChunks step d chunks false d' = StopsAtChunk step d chunks d'

-- d is fed the chunks in turn, up to the first error, and is d' after that; took says whether there
-- was no error. A decoder that has failed is not fed.
abbrev pub FeedsChunks : {F E : Type 0} → (F → List ℕ → Result (Unit {0}) E → F → Type 0) → State F
    → List (Bor (List ℕ)) → Bool → State F → Type 0
FeedsChunks step d chunks took d' =
    MatchBool d.failed ((took ≡ false) × (d' ≡ d)) (TakesChunks step d chunks took d')
