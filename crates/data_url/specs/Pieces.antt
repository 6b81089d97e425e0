-- A body in pieces (URL Standard, section 1.3, percent-decode): what contracts see of a walk over
-- its text.
use Rattle.std.specs.Char.{is_ascii_hexdigit}
use Rattle.std.specs.Option.{option_map_or}
use Rattle.std.specs.Prelude.{[], ◌-◌, ◌<◌, ◌==◌, ◌||◌, ◌∷◌, ◌≡◌, ◌≤◌, Bool, List, Option, drop, false, slice_index}
use Rattle.std.specs.Prelude.{slice_range, true, ℕ}
use Rattle.data_url.specs.Fetch.{plain_body}
use Rattle.data_url.specs.Percent.{begins_with_escape, percent_decoding}
use Rattle.data_url.specs.Url.{front, is_tab_or_newline, number_sign, without_tabs_and_newlines}
use Rattle.data_url.specs.declared.escapes.Piece.TheVariants.{Byte, Slice}
use Rattle.data_url.specs.declared.escapes.Piece.{Piece}
use Rattle.data_url.specs.declared.escapes.cursor.Ahead.TheVariants.{End}
use Rattle.data_url.specs.declared.escapes.cursor.Ahead.{Ahead}
use Rattle.data_url.specs.declared.escapes.cursor.Cursor.{Cursor}

-- where a slice may end: before a tab or newline, the first '#', an escape, in which tabs and newlines
-- are skipped, or the end
abbrev pub is_slice_end : List ℕ → Bool
is_slice_end [] = true
is_slice_end (b ∷ s) = is_tab_or_newline b
    || ((b == number_sign) || begins_with_escape (without_tabs_and_newlines (b ∷ s)))

-- the slice is a part of the text between two indices, before the first '#'. It is not empty, and ends
-- where a slice may end. Without tabs and newlines, the text between the indices is the slice.
pub record IsStretch (text : List ℕ) (from to : ℕ) (slice : List ℕ) : Type 0 where
  pub start : ℕ
  pub end : ℕ
  pub from_le : from ≤ start
  pub nonempty : start < end
  pub to_le : end ≤ to
  pub slice_is : slice ≡ slice_range text start end
  pub skipped : without_tabs_and_newlines (slice_range text from to) ≡ slice
  pub in_front : front slice ≡ slice
  pub stops_there : is_slice_end (drop end text) ≡ true

-- the text between two indices, without tabs and newlines, is an escape, and the byte is its value.
-- The last byte of that text is a digit.
pub record IsEscape (text : List ℕ) (from to : ℕ) (byte : ℕ) : Type 0 where
  pub is_escape : begins_with_escape (without_tabs_and_newlines (slice_range text from to)) ≡ true
  pub value_is : percent_decoding (without_tabs_and_newlines (slice_range text from to)) ≡ byte ∷ []
  pub ends : is_ascii_hexdigit (slice_index text (to - 1)) ≡ true

abbrev pub IsPiece : List ℕ → ℕ → ℕ → Piece → Type 0
IsPiece text from to (Slice slice) = IsStretch text from to slice.now
IsPiece text from to (Byte byte) = IsEscape text from to byte

-- the decoded bytes of a piece
abbrev pub bytes_of : Piece → List ℕ
bytes_of (Slice slice) = slice.now
bytes_of (Byte byte) = byte ∷ []

abbrev pub bytes_of_next : Option Piece → List ℕ
bytes_of_next next = option_map_or bytes_of next []

-- a walk over a text: the text, the current index, the concatenation of the pieces from there on,
-- whether the walk has ended, and how many bytes were read
pub record Walk : Type 0 where
  pub text : List ℕ
  pub place : ℕ
  pub rest : List ℕ
  pub ended : Bool
  pub looks : ℕ

-- a walk at the start of its text: the concatenation of its pieces is the percent-decoded body
abbrev pub walk_at_start : List ℕ → Walk
walk_at_start text =
    record { text = text; place = 0; rest = plain_body text; ended = false; looks = 0 }

-- What contracts see of a `Pieces`

abbrev pub text_of : Cursor → List ℕ
text_of c = c.source.text.now

-- whether a walk has ended
abbrev pub has_ended : Ahead → Bool
has_ended End = true
has_ended ahead = false

-- the walk of a `Pieces`, from its fields
abbrev pub walk_of : Cursor → Walk
walk_of c = record {
  text = text_of c;
  place = c.place;
  rest = plain_body (drop c.place (text_of c));
  ended = has_ended c.ahead;
  looks = c.source.looks;
}
