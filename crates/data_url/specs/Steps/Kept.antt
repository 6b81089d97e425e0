-- What the private contracts of the MIME parser see of the parameters that it has kept so far.
use Rattle.std.specs.BTreeSet.{BTreeSet, contains_text}
use Rattle.std.specs.Prelude.{[], ◌%◌, ◌*◌, ◌+◌, ◌-◌, ◌<◌, ◌≤◌, ◌≡◌, List, String, bit_or, drop, false, get_or, length}
use Rattle.std.specs.Str.{bytes_eq}
use Rattle.std.specs.Prelude.{map, slice_index, take, ℕ}
use Rattle.data_url.specs.Mime.{Pair, has_name}
use Rattle.data_url.specs.MimeType.{pair_of}
use Rattle.data_url.specs.Steps.Parsing.{HasLowercaseNames}
use Rattle.data_url.specs.declared.mime.kept.KeptParameters.{KeptParameters}
use Rattle.data_url.specs.declared.mime.kept.TheConstants.{CASE, FINGERPRINTS_LEN, LOOKED_THROUGH}

-- the pairs as lists of code points
abbrev pub pairs_of : KeptParameters → List Pair
pairs_of kept = map (λ p. pair_of p) kept.pairs.items

-- the first pairs, whose names are searched by their fingerprints
abbrev pub first_of : List Pair → List Pair
first_of pairs = take LOOKED_THROUGH pairs

-- none of the pairs from the place `from` up to the place `to` has the name
abbrev pub AreUnnamed : List ℕ → List Pair → ℕ → ℕ → Type 0
AreUnnamed name pairs from to = (k : ℕ) → from ≤ k → k < to → k < length pairs
    → bytes_eq (get_or pairs k ([], [])).0 name ≡ false

-- the set holds exactly the names of the pairs after the first ones
abbrev pub HasLaterNames : {A : Type 0} → BTreeSet (String A) → List Pair → Type 0
HasLaterNames later pairs = (name : List ℕ)
    → contains_text later name ≡ has_name name (drop LOOKED_THROUGH pairs)

-- the byte at a place of a name, if any, as it is in lower case if it is a letter
abbrev pub letter_at : List ℕ → ℕ → ℕ
letter_at name place = bit_or (slice_index name place) CASE

-- the fingerprint of a name, from its last three bytes
unfoldable pub fingerprint_of : List ℕ → ℕ
fingerprint_of name =
    let last = length name - 1 in
    (letter_at name last + 10 * letter_at name (last - 1) + 100 * letter_at name (last - 2)) % 256

-- the bytes are the fingerprints of the names of the pairs, in order
abbrev pub AreFingerprints : List ℕ → List Pair → Type 0
AreFingerprints bytes pairs = bytes ≡ map (λ (p : Pair). fingerprint_of p.0) pairs

-- all names are lower-case, the fingerprints are those of the first pairs, and the set holds the names of the later
-- pairs
pub record IsIndexed (kept : KeptParameters) : Type 0 where
  pub lower : HasLowercaseNames (pairs_of kept)
  pub room : length kept.fingerprints ≡ FINGERPRINTS_LEN
  pub alike : AreFingerprints (take (length (first_of (pairs_of kept))) kept.fingerprints)
      (first_of (pairs_of kept))
  pub later : HasLaterNames kept.later_names (pairs_of kept)
