-- A walk over the text of a body: what its steps find, and what stays true.
use Rattle.std.specs.Prelude.{◌*◌, ◌++◌, ◌+◌, ◌-◌, ◌<◌, ◌∷◌, ◌≡◌, ◌≤◌, Bool, IfNone, IfSome, List}
use Rattle.std.specs.Prelude.{MatchBool, Option, [], drop, false, length, map, slice_index, slice_range, take, true, ℕ}
use Rattle.std.specs.Simd.Lanes.{mask_l}
use Rattle.data_url.specs.Fetch.{plain_body}
use Rattle.data_url.specs.Pieces.{IsPiece, bytes_of, bytes_of_next, has_ended, is_slice_end, text_of}
use Rattle.data_url.specs.Steps.Digits.{EscapeAt, cleaned}
use Rattle.data_url.specs.Steps.Looks.{paid}
use Rattle.data_url.specs.Steps.Tail.{BeginsFragment}
use Rattle.data_url.specs.Steps.Window.{is_marked}
use Rattle.data_url.specs.Url.{after, number_sign, percent_sign}
use Rattle.data_url.specs.declared.escapes.Piece.{Piece}
use Rattle.data_url.specs.declared.escapes.cursor.Ahead.TheVariants.{AfterEscape, End, Escape, Unknown}
use Rattle.data_url.specs.declared.escapes.cursor.Ahead.{Ahead}
use Rattle.data_url.specs.declared.escapes.cursor.Cursor.{Cursor}
use Rattle.data_url.specs.declared.escapes.marks.Block.{Block}
use Rattle.data_url.specs.declared.escapes.marks.AtMark.TheVariants as at_mark
use Rattle.data_url.specs.declared.escapes.marks.AtMark.{AtMark}
use Rattle.data_url.specs.declared.escapes.source.Source.{Source}

-- Texts

-- the bytes are the part of the body between two indices of its text
pub record Reads (text : List ℕ) (from to : ℕ) (bytes : List ℕ) : Type 0 where
  pub few : from + length bytes ≤ to
  pub within : to ≤ length text
  pub body : plain_body (drop from text) ≡ bytes ++ plain_body (drop to text)
  pub after_is : after number_sign (drop from text) ≡ after number_sign (drop to text)

-- also, the text between the indices is `raw` without tabs and newlines
pub record Spells (text : List ℕ) (from to : ℕ) (raw bytes : List ℕ) : Type 0 where
  pub reads : Reads text from to bytes
  pub raw_is : cleaned (drop from text) ≡ raw ++ cleaned (drop to text)

-- tabs and newlines are skipped up to an index, and a stretch that is read as it is goes from there to another one
pub record Searching (text : List ℕ) (from place to : ℕ) : Type 0 where
  pub passed : Spells text from place [] []
  pub stretch : Spells text place to (slice_range text place to) (slice_range text place to)

-- between two indices there is no marked byte
abbrev pub IsClear : List ℕ → ℕ → ℕ → Type 0
IsClear text from to = (k : ℕ) → from ≤ k → k < to → is_marked (slice_index text k) ≡ false

-- the second index is that of the first marked byte from the first index on, or of the end of the text
pub record IsNextMark (text : List ℕ) (from to : ℕ) : Type 0 where
  pub forward : from ≤ to
  pub within : to ≤ length text
  pub clear : IsClear text from to
  pub marked : to < length text → is_marked (slice_index text to) ≡ true

-- the second index is that of the first marked byte from the first index on, or of the end of the
-- text; or it comes after
-- `end`, and no byte before it is marked
pub record IsMarkUpTo (text : List ℕ) (from end to : ℕ) : Type 0 where
  pub forward : from ≤ to
  pub within : to ≤ length text
  pub clear : IsClear text from to
  pub marked : to ≤ end → to < length text → is_marked (slice_index text to) ≡ true

-- the body ends at the index
pub record BodyEndsAt (text : List ℕ) (place : ℕ) : Type 0 where
  pub within : place ≤ length text
  pub begins : BeginsFragment (drop place text)

-- the bound on the number of bytes read grows by as many bytes as were read, and `more`
pub record Pays (text : List ℕ) (from to looks looks' more : ℕ) : Type 0 where
  pub within : to ≤ length text
  pub forward : from < to
  pub looks_are : looks' + more + paid text from ≤ looks + paid text to

-- what is at a marked byte, or that the text ends there; but for a '%', a slice may end there
abbrev pub IsAtMark : List ℕ → ℕ → ℕ → ℕ → AtMark → Type 0
IsAtMark text mark looks looks' at_mark.Stays = (slice_index text mark ≡ percent_sign)
    × Spells text mark (mark + 1) (percent_sign ∷ []) (percent_sign ∷ [])
    × Pays text mark (mark + 1) looks looks' 0
IsAtMark text mark looks looks' at_mark.Passed = (is_slice_end (drop mark text) ≡ true)
    × Spells text mark (mark + 1) [] [] × Pays text mark (mark + 1) looks looks' 0
IsAtMark text mark looks looks' (at_mark.Escape value end) = (is_slice_end (drop mark text) ≡ true)
    × EscapeAt text mark value end × Pays text mark end looks looks' 3
IsAtMark text mark looks looks' at_mark.End = (is_slice_end (drop mark text) ≡ true) × BodyEndsAt text mark
    × (looks' + mark ≤ looks + length text)

-- Walks

-- the block of the text between two indices: at most 64 bytes, with a bit for each marked one
pub record IsBlock (text : List ℕ) (base end marks : ℕ) : Type 0 where
  pub base_le : base ≤ end
  pub end_le : end ≤ length text
  pub short : end ≤ base + 64
  pub marks_are : marks ≡ mask_l (map is_marked (slice_range text base end))

-- the walk can go on at the index: its block does not begin after it, and the number of bytes read is within the
-- bound, and stays so if `more` bytes are added
pub record Looking (s : Source) (b : Block) (place more : ℕ) : Type 0 where
  pub block : IsBlock s.text.now b.base b.end b.marks
  pub base_le : b.base ≤ place
  pub within : place ≤ length s.text.now
  pub looks_are_paid : s.looks + more ≤ b.end + paid s.text.now place

-- the text does not change, and the number of bytes read does not become smaller
pub record LooksOn (s s' : Source) : Type 0 where
  pub text_stays : s'.text.now ≡ s.text.now
  pub looks_grow : s.looks ≤ s'.looks

-- the walk ends at the index
pub record Ended (c : Cursor) : Type 0 where
  pub ends : BodyEndsAt (text_of c) c.place
  pub few_looks : c.source.looks ≤ 3 * length (text_of c)

-- what is true of a walk, by what it knows about its index
abbrev pub KnowsAhead : Cursor → Ahead → Type 0
KnowsAhead c Unknown = Looking c.source c.block c.place 0
KnowsAhead c AfterEscape = Looking c.source c.block c.place 3
KnowsAhead c (Escape value end) = EscapeAt (text_of c) c.place value end × Looking c.source c.block end 3
KnowsAhead c End = Ended c

-- what is true of every walk
pub record Knows (c : Cursor) : Type 0 where
  pub after_is : after number_sign (text_of c) ≡ after number_sign (drop c.place (text_of c))
  pub ahead_is : KnowsAhead c c.ahead

-- nothing is known about the index, or the body ends there
abbrev pub IsUnknownOrEnd : Ahead → Type 0
IsUnknownOrEnd Unknown = Unit {0}
IsUnknownOrEnd AfterEscape = ⊥
IsUnknownOrEnd (Escape value end) = ⊥
IsUnknownOrEnd End = Unit {0}

-- the piece is the part of the body between two indices of its text
pub record IsPart (text : List ℕ) (from to : ℕ) (piece : Piece) : Type 0 where
  pub reads : Reads text from to (bytes_of piece)
  pub piece_is : IsPiece text from to piece

-- while bytes are gathered, no more is known about the index
pub record Gathering (c : Cursor) : Type 0 where
  pub unknown_or_end : IsUnknownOrEnd c.ahead
  pub knows : KnowsAhead c c.ahead

-- a walk returns its next piece, or ends. A piece has at most `most` bytes; if it has as many, it
-- may have been cut there.
pub record GivesPiece (c : Cursor) (next : Option Piece) (c' : Cursor) (most : ℕ) : Type 0 where
  pub on : LooksOn c.source c'.source
  pub reads : Reads (text_of c) c.place c'.place (bytes_of_next next)
  pub few : length (bytes_of_next next) ≤ most
  pub piece : IfSome next (λ p. length (bytes_of p) < most → IsPiece (text_of c) c.place c'.place p)
  pub ended : IfNone next (has_ended c'.ahead ≡ true)

-- bytes are appended to a buffer
pub record Gathers (c c' : Cursor) (buffer buffer' : List ℕ) (len len' : ℕ) : Type 0 where
  pub bytes : List ℕ
  pub on : LooksOn c.source c'.source
  pub reads : Reads (text_of c) c.place c'.place bytes
  pub buffer_is : take len' buffer' ≡ take len buffer ++ bytes
  pub len_is : len' ≡ len + length bytes

-- the buffer has room for the rest of the block, and for another block
pub record HasRoom (c : Cursor) (len : ℕ) : Type 0 where
  pub some : len ≤ 512
  pub for_block : c.place < c.block.end → len + (c.block.end - c.place) + 64 ≤ 512

-- the walk can copy the rest of its block into the buffer
pub record MayGather (c : Cursor) (len : ℕ) : Type 0 where
  pub looking : Looking c.source c.block c.place 0
  pub unknown : c.ahead ≡ Unknown
  pub room : HasRoom c len

-- if whole blocks are copied, 64 more bytes of the text come after the block that was read last
abbrev pub MayCopyBlocks : Cursor → Bool → Type 0
MayCopyBlocks c whole_blocks = whole_blocks ≡ true → c.block.end + 64 ≤ length (text_of c)

-- the block that was read last begins at the walk's place, has these 64 bytes, and their marks
pub record IsWholeBlock (c : Cursor) (bytes : List ℕ) : Type 0 where
  pub end_is : c.block.end ≡ c.place + 64
  pub bytes_are : bytes ≡ take 64 (drop c.place (text_of c))
  pub marks_are : c.block.marks ≡ mask_l (map is_marked bytes)

-- a walk gathers bytes, and can gather more
pub record Gathered (c c' : Cursor) (buffer buffer' : List ℕ) (len len' : ℕ) : Type 0 where
  pub gathers : Gathers c c' buffer buffer' len len'
  pub few : len' ≤ 512
  pub gathering : Gathering c'

-- a walk packs bytes of a block, and goes on after them
pub record Packs (c c' : Cursor) (buffer buffer' : List ℕ) (len len' : ℕ) : Type 0 where
  pub gathers : Gathers c c' buffer buffer' len len'
  pub few : len' ≤ 512
  pub moves : c.place < c'.place

-- the walk went on, or its body ends
abbrev pub Moves : Cursor → Cursor → Type 0
Moves c c' = MatchBool (has_ended c'.ahead) (Unit {0}) (c.place < c'.place)

-- a part of the body was copied; after it the body ends, or the walk goes on in its block
abbrev pub IsGathered : Cursor → Cursor → ℕ → Bool → Type 0
IsGathered c c' len ended =
    MatchBool ended
    ((len ≤ 512) × (c'.ahead ≡ End) × Ended c')
    ((c'.block.end ≡ c.block.end) × (c.place < c'.place) × MayGather c' len)
