-- MIME types, bodies, base64 and fragments in parts: what a call writes to its output, and what it leaves for the next.
use Rattle.std.specs.Int.{is_in_range, to_le_bytes, w64}
use Rattle.std.specs.List.{flat_map, list_all}
use Rattle.std.specs.Prelude.{◌%◌, ◌<◌, ◌⊎◌, ◌==◌, ◌^◌, ◌||◌, encode_utf8_all}
use Rattle.std.specs.Prelude.{◌&&◌, ◌*◌, ◌+◌, ◌++◌, ◌-◌, ◌/◌, ◌≡◌, ◌≤◌, Bool, Err, List, MatchBool, MatchOption, Ok}
use Rattle.std.specs.Prelude.{Result}
use Rattle.std.specs.Prelude.{drop, false, length, nat_le, not, take, true, ℕ}
use Rattle.data_url.specs.Base64.{Kind, complete_bytes, decoded, first_fault, is_symbol, is_valid, kind_of}
use Rattle.data_url.specs.Base64.{left_padding}
use Rattle.data_url.specs.Base64.{left_symbols, left_text}
use Rattle.data_url.specs.Fetch.{Bad, Good, Outcome, outcome, plain_body}
use Rattle.data_url.specs.declared.forgiving_base64.left_over.LeftOver.{LeftOver}
use Rattle.data_url.specs.DataUrl.{IsAcceptable, IsUrlWithParts}
use Rattle.data_url.specs.Fetch.{NoComma, NoScheme, staged}
use Rattle.data_url.specs.Mime.{HasNoRecord, IsWellformed, Pair, Parses, Record}
use Rattle.data_url.specs.Url.{after, before, comma, encoded_fragment, number_sign, trimmed_text}
use Rattle.data_url.specs.declared.DataUrlError.TheVariants as url
use Rattle.data_url.specs.declared.DataUrlError.{DataUrlError}
use Rattle.data_url.specs.declared.mime.MimeFromStrError.TheVariants as from_str
use Rattle.data_url.specs.declared.mime.MimeFromStrError.{MimeFromStrError}
use Rattle.data_url.specs.declared.parts.header.Header.{Header}
use Rattle.data_url.specs.declared.parts.base64.Fed.{Fed}
use Rattle.data_url.specs.declared.parts.body.Body.{Body}
use Rattle.data_url.specs.declared.parts.body.Part.{Part}
use Rattle.data_url.specs.declared.parts.body.Progress.TheVariants.{End, Fault, More}
use Rattle.data_url.specs.declared.parts.body.Progress.{Progress}
use Rattle.data_url.specs.declared.parts.fragment.Encoded.{Encoded}

-- the bytes were written to the start of an output, and are its first len bytes; the rest of it does not change
pub record WritesFront (bytes before after : List ℕ) (len : ℕ) : Type 0 where
  pub within : len ≤ length before
  pub bytes_are : take len after ≡ bytes
  pub rest_stays : drop len after ≡ drop len before

-- Base64

-- what a text leaves over, as a text: the symbols, and then the padding
abbrev pub left_over_text : LeftOver → List ℕ
left_over_text s = left_text (take s.pending s.symbols) s.padding

-- this is what the text u leaves over
pub record IsLeftOver (u : List ℕ) (s : LeftOver) : Type 0 where
  pub symbols_are : take s.pending s.symbols ≡ left_symbols u
  pub padding_is : s.padding ≡ left_padding u

-- at most three symbols, and padding that is counted up to three
abbrev pub is_left_over : List ℕ → ℕ → ℕ → Bool
is_left_over symbols pending padding =
    nat_le pending 3 && (nat_le padding 3 && list_all is_symbol (take pending symbols))

-- what is left over has these parts
pub record HasParts (s : LeftOver) (symbols : List ℕ) (pending padding : ℕ) : Type 0 where
  pub symbols_are : take 3 s.symbols ≡ symbols
  pub pending_is : s.pending ≡ pending
  pub padding_is : s.padding ≡ padding
  pub good : is_left_over symbols pending padding ≡ true

-- how many bytes of a text of base64 are decoded into an output, after symbols that are left over. All
-- are, if the output has room for as many symbols, with the bytes that end the text. Otherwise decoding
-- stops where the last group that fits would end, if every byte were a symbol.
abbrev pub IsFitting : ℕ → ℕ → ℕ → ℕ → Type 0
IsFitting pending len room read = MatchBool (nat_le (pending + len) (room / 3 * 4 + room % 3 + 1))
    (read ≡ len) (read ≡ room / 3 * 4 - pending)

-- what the text u leaves over; or the kind of its first fault
abbrev pub IsFed : List ℕ → Result LeftOver Kind → Type 0
IsFed u r = MatchOption (first_fault u) ((s : LeftOver) × (r ≡ Ok s) × IsLeftOver u s)
    (λ place. r ≡ Err (kind_of u))

-- feeding a part of a text: what is read of it follows what is left over
pub record FeedsPart (s : LeftOver) (input before after : List ℕ) (r : Fed) : Type 0 where
  pub read_is : IsFitting s.pending (length input) (length before) r.read
  pub wrote : WritesFront (complete_bytes (left_over_text s ++ take r.read input)) before after r.len
  pub fed : IsFed (left_over_text s ++ take r.read input) r.left_over

-- the end of the text u: its last bytes are written if it is valid; otherwise the kind of its fault is returned
abbrev pub FinishesText : List ℕ → List ℕ → List ℕ → Result ℕ Kind → Type 0
FinishesText u before after r = MatchBool (is_valid u)
    ((len : ℕ) × (r ≡ Ok len) × WritesFront (decoded u) before after len)
    ((r ≡ Err (kind_of u)) × (after ≡ before))

-- Bodies

-- an outcome, with more bytes before its own
abbrev pub prepend : List ℕ → Outcome → Outcome
prepend front (Good bytes) = Good (front ++ bytes)
prepend front (Bad bytes kind) = Bad (front ++ bytes) kind

-- the body of a tail after what is left over
abbrev pub body_after : Bool → LeftOver → List ℕ → Outcome
body_after flag s tail = outcome flag (left_over_text s ++ plain_body tail)

-- the rest of a body: what is left over, and then the body of the tail from its place on
abbrev pub rest_of : Body → Outcome
rest_of b = body_after b.base64 b.left_over (drop b.place b.tail.now)

-- the body goes on at the place in the tail, after what is left over
pub record IsBodyAt (b : Body) (tail : List ℕ) (flag : Bool) (place : ℕ) (s : LeftOver) : Type 0 where
  pub tail_is : b.tail.now ≡ tail
  pub base64_is : b.base64 ≡ flag
  pub place_is : b.place ≡ place
  pub left_over_is : b.left_over ≡ s

-- the place is in the tail, and nothing is left over if the body is not base64
abbrev pub is_resumable : Bool → List ℕ → ℕ → LeftOver → Bool
is_resumable flag tail place s =
    nat_le place (length tail) && (flag || ((s.pending == 0) && (s.padding == 0)))

-- an output is shorter than a tail of this length or, for base64, has room for fewer symbols than are left over and the
-- tail has bytes (`IsFitting`)
abbrev pub HasNoRoom : Bool → ℕ → ℕ → ℕ → Type 0
HasNoRoom flag pending len room = MatchBool flag (room / 3 * 4 + room % 3 + 1 < pending + len) (room < len)

-- after these bytes the rest of the body b is the rest of c: further on in the tail if the output has four bytes or
-- more, and with the same fragment. The output was too short for the rest of the tail.
pub record MovesOn (b : Body) (room : ℕ) (bytes : List ℕ) (c : Body) : Type 0 where
  pub tail_stays : c.tail.now ≡ b.tail.now
  pub base64_stays : c.base64 ≡ b.base64
  pub forward : 4 ≤ room → b.place < c.place
  pub too_small : HasNoRoom b.base64 b.left_over.pending (length (drop b.place b.tail.now)) room
  pub rest_is : rest_of b ≡ prepend bytes (rest_of c)
  pub fragment_is : after number_sign (drop b.place b.tail.now) ≡ after number_sign (drop c.place c.tail.now)

-- the body b ends at the place in its tail: the tail ends there, or '#' and the fragment follow
pub record EndsAt (b : Body) (place : ℕ) : Type 0 where
  pub forward : b.place ≤ place
  pub fragment_is : MatchOption (after number_sign (drop b.place b.tail.now)) (place ≡ length b.tail.now)
      (λ fragment. (place < length b.tail.now) × (fragment ≡ drop (place + 1) b.tail.now))

-- how the body b goes on after these bytes
abbrev pub Progresses : Body → ℕ → List ℕ → Progress → Type 0
Progresses b room bytes (More c) = MovesOn b room bytes c
Progresses b room bytes (End place) = (rest_of b ≡ Good bytes) × EndsAt b place
Progresses b room bytes (Fault kind) = rest_of b ≡ Bad bytes kind

-- the next bytes of the body b were written to an output
pub record WritesPart (b : Body) (before after : List ℕ) (r : Part) : Type 0 where
  pub bytes : List ℕ
  pub wrote : WritesFront bytes before after r.len
  pub goes_on : Progresses b (length before) bytes r.progress

-- Fragments

-- the start of a fragment was written to an output, encoded, and the rest of the fragment follows it.
-- At least one byte is read, if the text has one and the output has room for three. The text is read
-- to its end, or until the output has room for fewer than three bytes.
pub record EncodesPart (text before after : List ℕ) (r : Encoded) : Type 0 where
  pub within : r.read ≤ length text
  pub goes : 3 ≤ length before → 0 < length text → 0 < r.read
  pub stops : r.read < length text → length before < r.len + 3
  pub bytes : List ℕ
  pub wrote : WritesFront bytes before after r.len
  pub rest_is : encoded_fragment text ≡ bytes ++ encoded_fragment (drop r.read text)

-- MIME types

-- a part: its length in eight bytes, the lowest first, and then its bytes
unfoldable pub part : List ℕ → List ℕ
part bytes = to_le_bytes w64 (length bytes) ++ bytes

-- a name and a value, as parts
abbrev pub parts_of_pair : Pair → List ℕ
parts_of_pair p = part (encode_utf8_all p.0) ++ part (encode_utf8_all p.1)

-- the record in parts: the type, the subtype, and the name and the value of each parameter, in order
abbrev pub parts_of : Record → List ℕ
parts_of m = part (encode_utf8_all m.type_)
    ++ (part (encode_utf8_all m.subtype) ++ flat_map parts_of_pair m.parameters)

-- the record has more than eight parameters, or 2^63 bytes or more in parts
abbrev pub IsLong : Record → Type 0
IsLong m = (8 < length m.parameters) ⊎ (2 ^ 63 ≤ length (parts_of m))

-- len is the number of these bytes. They are written to the start of an output, if it has room for them, and the rest
-- of it does not change. Otherwise none of it changes.
pub record WritesIfFits (bytes before after : List ℕ) (len : ℕ) : Type 0 where
  pub len_is : len ≡ length bytes
  pub small : len < 2 ^ 63
  pub fits : length bytes ≤ length before → after ≡ bytes ++ drop (length bytes) before
  pub is_too_small : length before < length bytes → after ≡ before

-- the text s is a MIME type, whose record is written to an output in parts
pub record WritesMimeType (s before after : List ℕ) (len : ℕ) : Type 0 where
  pub mime : Record
  pub parses : Parses s mime
  pub wellformed : IsWellformed mime
  pub written : WritesIfFits (parts_of mime) before after len

-- what reading the MIME type of a text returns. After an error the output is as it was.
abbrev pub ReadsMimeType : List ℕ → List ℕ → List ℕ → Result ℕ MimeFromStrError → Type 0
ReadsMimeType s before after (Ok len) = WritesMimeType s before after len
ReadsMimeType s before after (Err (from_str.Parsing e)) = HasNoRecord s × (after ≡ before)
ReadsMimeType s before after (Err from_str.OutOfMemory) =
    (mime : Record) × Parses s mime × IsLong mime × (after ≡ before)

-- the text t is a URL, whose MIME type is written to an output in parts
pub record WritesHeader (t before after : List ℕ) (h : Header) : Type 0 where
  pub mime : Record
  pub url_is : IsUrlWithParts t mime h.base64 h.tail.now
  pub written : WritesIfFits (parts_of mime) before after h.len

-- printable ASCII or a space, and no '?': a header of such bytes is serialised as it is
abbrev pub is_serialised_as_is : ℕ → Bool
is_serialised_as_is b = is_in_range 32 126 b && not (b == 63)

-- before its first comma the trimmed text has a '?' or a byte outside 32 to 126. Memory may be needed to serialise its
-- header then.
abbrev pub HasEncodedHeader : List ℕ → Type 0
HasEncodedHeader t = list_all is_serialised_as_is (before comma (trimmed_text t)) ≡ false

-- the text is a URL whose MIME type is long
abbrev pub HasLongType : List ℕ → Type 0
HasLongType t = (mime : Record) × (base64 : Bool) × (tail : List ℕ)
    × IsUrlWithParts t mime base64 tail × IsLong mime

-- what reading the header of a URL returns. After an error the output is as it was.
abbrev pub ReadsHeader : List ℕ → List ℕ → List ℕ → Result Header DataUrlError → Type 0
ReadsHeader t before after (Ok h) = WritesHeader t before after h
ReadsHeader t before after (Err url.NotADataUrl) = (staged t ≡ NoScheme) × (after ≡ before)
ReadsHeader t before after (Err url.NoComma) = (staged t ≡ NoComma) × (after ≡ before)
ReadsHeader t before after (Err url.OutOfMemory) =
    IsAcceptable (staged t) × (after ≡ before) × (HasEncodedHeader t ⊎ HasLongType t)
