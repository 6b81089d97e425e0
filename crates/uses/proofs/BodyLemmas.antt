-- What callers store of a body.
use Rattle.std.proofs.Common.{◌≡◌, ℕ, List, [], ◌++◌, ◌∙◌, sym}
use Rattle.std.proofs.lemmas.List.{append-nil}
use Rattle.data_url.specs.Run.{IsPrefix}
use Rattle.data_url.proofs.api.{prefix_none}

-- nothing of a piece for which the closure returned an error
pub none_of : {now before : List ℕ} (piece : List ℕ) → now ≡ before → (part : List ℕ) × IsPrefix part piece
    × (now ≡ before ++ part)
none_of {now} {before} piece e = ([], prefix_none piece, e ∙ sym (append-nil before))
