-- What the private functions that write a MIME type in parts do.
use Rattle.std.specs.Char.{to_ascii_lowercase}
use Rattle.std.specs.Prelude.{◌+◌, ◌-◌, ◌^◌, ◌≡◌, ◌≤◌, Err, List, Ok, Result, length, map, min, ℕ}
use Rattle.std.specs.Str.{chars}
use Rattle.data_url.specs.Mime.{Pair, Record}
use Rattle.data_url.specs.MimeType.{pair_of}
use Rattle.data_url.specs.Parts.{IsLong, WritesIfFits, parts_of}
use Rattle.data_url.specs.Steps.Few.{AreAllTokens, sliced_pair}
use Rattle.data_url.specs.Steps.Parts.{Writes}
use Rattle.data_url.specs.declared.mime.in_parts.Parameters.TheVariants.{OfRecord, OfText}
use Rattle.data_url.specs.declared.mime.in_parts.Parameters.{Parameters}
use Rattle.data_url.specs.declared.mime.parse.Head.{Head}

-- the end is the place after a piece at a place, up to the largest number
abbrev pub Adds : List ℕ → ℕ → ℕ → Type 0
Adds piece at end = end ≡ min (at + length piece) (2 ^ 64 - 1)

-- a piece was written to an output at a place, if it fits
pub record Puts (piece before : List ℕ) (at : ℕ) (after : List ℕ) (end : ℕ) : Type 0 where
  pub end_is : Adds piece at end
  pub writes : Writes piece before at after end

-- the pairs of parameters
abbrev pub pairs_in : Parameters → List Pair
pairs_in (OfText slices) = map (λ s. sliced_pair s) slices.now
pairs_in (OfRecord pairs) = map (λ p. pair_of p) pairs.now

-- the names of parameters that are slices are token texts
abbrev pub HasTokens : Parameters → Type 0
HasTokens (OfText slices) = AreAllTokens slices.now
HasTokens (OfRecord pairs) = Unit {0}

-- the record of a type and a subtype, and these pairs
abbrev pub head_record : Head → List Pair → Record
head_record h pairs = record {
  type_ = map to_ascii_lowercase (chars h.type_.now);
  subtype = map to_ascii_lowercase (chars h.subtype.now);
  parameters = pairs;
}

-- the record is written to the start of an output that has room for it; or the record is long, and the output does not
-- change
abbrev pub WritesParts : {E : Type 0} → (Record → Type 0) → List ℕ → List ℕ → Result ℕ E → Type 0
WritesParts Is before after (Ok len) = (m : Record) × Is m × WritesIfFits (parts_of m) before after len
WritesParts Is before after (Err e) = (m : Record) × Is m × IsLong m × (after ≡ before)

-- this record is written so, or it has 2^63 bytes or more
abbrev pub WritesRecord : {E : Type 0} → Record → List ℕ → List ℕ → Result ℕ E → Type 0
WritesRecord m before after (Ok len) = WritesIfFits (parts_of m) before after len
WritesRecord m before after (Err e) = (2 ^ 63 ≤ length (parts_of m)) × (after ≡ before)
