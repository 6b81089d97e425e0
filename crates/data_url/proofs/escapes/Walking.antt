-- The pieces of a walk, and the bytes that it gathers. For `Cursor` and `Pieces`.
use Rattle.std.proofs.Common.{Some, refl, sym, ap, ◌∙◌, inl, inr, arith, length-append, Bool, ◌≢◌, Option, ◌*◌, cond}
use Rattle.std.proofs.Common.{drop-drop, length-drop, append-nil, ◌≡◌, ℕ, ◌+◌, ◌-◌, ◌<◌, ◌≤◌, true, List, [], ◌∷◌, ◌++◌}
use Rattle.std.proofs.Common.{length, take, drop, get_or, None, length-take, length-take-le, set, append_assoc}
use Rattle.std.proofs.Common.{take-add}
use Rattle.std.proofs.Common.{Bor, false, leb, ltb, min, ◌&&◌}
use Rattle.std.{proofs.Common.{slice_range}, proofs.lemmas.List.{drop_more, drop_all, take_more_set}}
use Rattle.std.{proofs.lemmas.List.{append_cancel_right}, proofs.lemmas.List.Folds.{drop_split}}
use Rattle.std.proofs.lemmas.{Bool.{cases_lt}, Str.{IsCharBoundary-after_ascii}}
use Rattle.data_url.specs.{Fetch.{plain_body}, Pieces.{Walk, text_of, IsStretch, bytes_of, has_ended, is_slice_end}}
use Rattle.data_url.specs.{Pieces.{walk_of}, Steps.Digits.{EscapeAt}}
use Rattle.data_url.specs.Steps.Chunks.{IsBodyFrom, IsBodyPrefix, IsOver, Takes}
use Rattle.data_url.specs.{Steps.Digits.{cleaned}, Steps.Tail.{BeginsFragment, IsBodyEnd, rest_fragment}}
use Rattle.data_url.specs.Steps.Walk.{BodyEndsAt, Ended, Gathers, GivesPiece, IsClear, IsMarkUpTo, IsPart, Knows}
use Rattle.data_url.specs.Steps.Walk.{KnowsAhead}
use Rattle.data_url.specs.{Steps.Walk.{Looking, LooksOn, MayGather, Pays, Reads, Searching, Spells}, Url.{before}}
use Rattle.data_url.specs.{Url.{after, front, without_tabs_and_newlines}, declared.escapes.Piece.{Piece}}
use Rattle.data_url.specs.{declared.escapes.Piece.TheVariants.{Byte, Slice}, declared.escapes.cursor.Ahead.{Ahead}}
use Rattle.data_url.specs.declared.escapes.cursor.Ahead.TheVariants.{AfterEscape, End, Escape, Unknown}
use Rattle.data_url.specs.{declared.escapes.cursor.Cursor.{Cursor}, declared.escapes.marks.Block.{Block}}
use Rattle.data_url.specs.declared.escapes.source.Source.{Source}
use Rattle.data_url.proofs.escapes.BlockMarks.{copied_block, looking_on, marks_padded}
use Rattle.data_url.proofs.escapes.Reading.{spells_byte, spells_passed, body_shorter, ends_empty, paid_le, paid_on}
use Rattle.data_url.proofs.escapes.Reading.{percent_nil, spells_clear, spells_escape, spells_none, spells_then}
use Rattle.data_url.proofs.{percent.Encoding.{decoded_escape}, runs.Runs.{none_or_some}, texts.Bytes.{after_same}}
use Rattle.data_url.proofs.texts.Bytes.{after-dropped_none, before-append, is_cut, without_tabs_and_newlines-append}
use Rattle.data_url.proofs.texts.Bytes.{before_all, after_at, after_nil}

-- two ranges, of which the second begins where the first ends, are one range
slice_join : (text : List ℕ) (a b c : ℕ) → a ≤ b → b ≤ c → slice_range text a b ++ slice_range text b c
    ≡ slice_range text a c
slice_join text a b c l h = grind (arith, drop-drop (b - a) a text, take-add (b - a) (c - b) (drop a text))

-- if the same text follows the first '#' of x ++ y and of y, there is no '#' in x
none_before : (x y : List ℕ) → after 35 (x ++ y) ≡ after 35 y → after 35 x ≡ None
none_before x y h = elim (none_or_some (after 35 x)) [
  | inl e ↦ e
  | inr (rest, e) ↦
      let cut = is_cut 35 x rest e in
      let long = is_cut 35 y (rest ++ y) (grind (arith, append_assoc, after_at)) in
      absurd (omega (arith, ap length long.joined, length-append (before 35 y), length-append rest y))
]

-- the text between two indices has no '#'
no_hash : {text raw bytes : List ℕ} {from to : ℕ} → from ≤ to → Spells text from to raw bytes
    → after 35 (slice_range text from to) ≡ None
no_hash {text} {raw} {bytes} {from} {to} l s =
    let whole = ap (after 35) (sym (drop_split text from to l)) in
    none_before (slice_range text from to) (drop to text) (whole ∙ s.reads.after_is)

-- what is spelled between two indices is the text there without tabs and newlines
spelled : {text raw bytes : List ℕ} {from to : ℕ} → Spells text from to raw bytes
    → without_tabs_and_newlines (slice_range text from to) ≡ raw
unfolding front
spelled {text} {raw} {bytes} {from} {to} s =
    let few = s.reads.few in
    let no = no_hash (omega arith) s in
    let whole = drop_split text from to (omega arith) in
    let x = slice_range text from to in
    let y = drop to text in
    let front = before-append 35 (without_tabs_and_newlines x) (without_tabs_and_newlines y) in
    append_cancel_right _ _ (cleaned y)
    (cc (without_tabs_and_newlines-append x y, front (after-dropped_none 35 refl x no), s.raw_is))

-- a stretch goes on over bytes of which none is marked
pub searching_clear : {text : List ℕ} {from place to mark : ℕ} → Searching text from place to → to ≤ mark
    → mark ≤ length text → IsClear text to mark → Searching text from place mark
searching_clear {text} {from} {place} {to} {mark} s l w clear =
    let more = spells_then s.stretch (spells_clear text to mark l w clear) in
    grind (arith, slice_join text place to mark)

-- a stretch goes on up to any index before the next mark
pub searching_part : {text : List ℕ} {from place to end mark : ℕ} → Searching text from place to
    → IsMarkUpTo text to end mark → to ≤ end → end ≤ mark → Searching text from place end
searching_part s m l few =
    searching_clear s l (omega (arith, m.within)) (λ k from_le to_lt. m.clear k from_le (omega arith))

-- a '%' that does not begin an escape is part of the stretch
pub searching_percent : {text : List ℕ} {from place mark : ℕ} → Searching text from place mark
    → get_or text mark 0 ≡ 37 → Spells text mark (mark + 1) (37 ∷ []) (37 ∷ []) → Searching text from place (mark + 1)
searching_percent {text} {from} {place} {mark} s h p =
    let more = spells_then s.stretch p in grind (arith, slice_join text place mark (mark + 1), drop_more)

-- the stretch, with what is skipped before and after it, is a piece
pub slice_part : {text bytes : List ℕ} {from place mark next : ℕ} → Searching text from place mark → place < mark
    → is_slice_end (drop mark text) ≡ true → Spells text mark next [] [] → bytes ≡ slice_range text place mark
    → Reads text from next bytes × IsStretch text from next bytes
unfolding front
slice_part {text} {bytes} {from} {place} {mark} {next} s l ends a e =
    grind (arith, spells_then, append-nil, spelled, before_all, no_hash)

-- an escape, with what is skipped before it, is a piece
pub byte_part : {text : List ℕ} {from place value end : ℕ} → Spells text from place [] []
    → EscapeAt text place value end → IsPart text from end (Byte value)
byte_part {text} {from} {place} {value} {end} s q =
    let all = spells_then s (spells_escape q) in
    grind (arith, spelled all, decoded_escape q.high q.low [] q.high_hex q.low_hex, percent_nil)

-- a walk that goes from its index to the end of a part returns this part
pub goes_part : {c c' : Cursor} {text : List ℕ} {next most : ℕ} {p : Piece} → text ≡ text_of c
    → IsPart text c.place next p → LooksOn c.source c'.source → c'.place ≡ next → length (bytes_of p) ≤ most
    → GivesPiece c (Some p) c' most
goes_part {c} {c'} {text} {next} {most} {p} t h on e few = grind arith

-- a walk that goes on after a stretch, and what is skipped after it, returns the stretch
pub slice_goes : {c c' : Cursor} {text : List ℕ} {place mark next most : ℕ} {slice : Bor (List ℕ)} → text ≡ text_of c
    → Searching text c.place place mark → place < mark → mark ≤ place + most → is_slice_end (drop mark text) ≡ true
    → Spells text mark next [] [] → slice.now ≡ slice_range text place mark → LooksOn c.source c'.source
    → c'.place ≡ next → GivesPiece c (Some (Slice slice)) c' most
slice_goes {text = text} {place = place} {mark = mark} t s l few ends after is on e =
    let part = slice_part s l ends after is in
    goes_part t (record { reads = part.0; piece_is = part.1 }) on e
    (omega (arith, ap length is, length-take (mark - place) (drop place text)))

-- a walk returns a stretch that is cut after so many bytes as it may return
pub slice_cut : {c c' : Cursor} {text : List ℕ} {place to most : ℕ} {slice : Bor (List ℕ)} → text ≡ text_of c
    → Searching text c.place place to → place + most ≡ to → to ≤ length text → slice.now ≡ slice_range text place to
    → LooksOn c.source c'.source → c'.place ≡ to → GivesPiece c (Some (Slice slice)) c' most
slice_cut {c} {c'} {text} {place} {to} {most} {slice} t s cut within is on e =
    let size : length slice.now ≡ most =
    omega (arith, ap length is, length-take (to - place) (drop place text), length-drop place text) in
    let reads = (spells_then s.passed s.stretch).reads in
    record {
      on = on;
      reads = grind arith;
      few = omega (arith, size);
      piece = λ l. absurd (omega (arith, size));
      ended = tt;
    }

-- a stretch is cut before its end and that of the text
pub cut_at : (end mark total : ℕ) → (leb end mark && ltb end total) ≡ true → (end ≤ mark) × (end < total)
cut_at end mark total e = grind arith

-- a stretch that is not cut has at most so many bytes as may be returned
pub not_cut : (place most end mark total : ℕ) → end ≡ min (place + most) 18446744073709551615
    → (leb end mark && ltb end total) ≡ false → mark ≤ total → mark ≤ place + most
not_cut place most end mark total e other l = grind arith

-- the walk can go on after what it read
pub looking_paid : {s s' : Source} {b : Block} {mark to more : ℕ} → Looking s b mark 0 → s'.text.now ≡ s.text.now
    → Pays s.text.now mark to s.looks s'.looks more → Looking s' b to more
looking_paid {s} {s'} {b} {mark} {to} {more} k t p = grind arith

-- a search that finds the next mark, in a text that stays the same, goes up to it
pub searched : {s0 s s1 : Source} {from place to end mark : ℕ} → LooksOn s0 s → LooksOn s s1
    → Searching s0.text.now from place to → IsMarkUpTo s.text.now to end mark → Searching s1.text.now from place mark
searched {s0} {s} {s1} {from} {place} {to} {end} {mark} a b k m =
    rw (b.text_stays) (searching_clear (rw (sym a.text_stays) at k) m.forward m.within m.clear)

-- a walk that goes from its index to the end of an escape returns its value
pub byte_next : {c c' : Cursor} {value end most : ℕ} → EscapeAt (text_of c) c.place value end
    → LooksOn c.source c'.source
    → c'.place ≡ end → 1 ≤ most → GivesPiece c (Some (Byte value)) c' most
byte_next {c} {c'} {value} {end} q on e some = goes_part refl (byte_part (grind (arith, spells_none)) q) on e some

-- after an escape that was read at once, the walk can go on in the same way
pub looking_escape : {s s' : Source} {b : Block} {place : ℕ} → Looking s b place 3 → s'.text.now ≡ s.text.now
    → s'.looks ≤ s.looks + 3 → place + 3 ≤ length s.text.now → Looking s' b (place + 3) 3
looking_escape {s} {s'} {b} {place} k t l w = let p = paid_on s.text.now place (place + 3) (omega arith) in grind arith

-- a walk that stops at the end of the body ends there
pub ended_at : {c : Cursor} {s : Source} {b : Block} {mark : ℕ} → Looking s b mark 0 → c.source.text.now ≡ s.text.now
    → BodyEndsAt s.text.now mark → c.source.looks + mark ≤ s.looks + length s.text.now → c.place ≡ mark → Ended c
ended_at {c} {s} {b} {mark} k t h l e = grind (arith, paid_le)

-- if `ahead` is a, and what a says is true, what `ahead` says is true
pub ahead_is : (c : Cursor) (a : Ahead) → c.ahead ≡ a → KnowsAhead c a → KnowsAhead c c.ahead
ahead_is c a e k = grind arith

-- whatever a walk knows about its index, it ends there if that is the end, and it has read at most three times as many
-- bytes as its text has
known_cases : (c : Cursor) (a : Ahead) → KnowsAhead c a → (has_ended a ≡ true → Ended c)
    × (c.source.looks ≤ 3 * length (text_of c))
known_cases c Unknown k = (λ e. absurd (cc), grind (arith, paid_le))
known_cases c AfterEscape k = (λ e. absurd (cc), grind (arith, paid_le))
known_cases c (Escape value end) k = (λ e. absurd (cc), grind (arith, paid_le))
known_cases c End k = (λ e. k, k.few_looks)

-- a walk that has ended is at the end of its body
pub ended_of : {c : Cursor} → Knows c → has_ended c.ahead ≡ true → Ended c
ended_of {c} k e = (known_cases c c.ahead k.ahead_is).0 e

-- what follows the first '#' of a text that is empty or begins with '#' is its fragment
begun_fragment : (s : List ℕ) → BeginsFragment s → after 35 s ≡ rest_fragment s
begun_fragment [] h = after_nil 35
begun_fragment (b ∷ s) h = grind (arith, after_same)

-- where a walk ends, the body of its text ends
pub body_end : {c : Cursor} → Knows c → has_ended c.ahead ≡ true → IsBodyEnd (text_of c) c.place
body_end {c} k h = let e = ended_of k h in grind (arith, begun_fragment)

-- where a body ends, but not its text, is a '#', and the fragment follows
pub hash_at : {text : List ℕ} {place : ℕ} → IsBodyEnd text place → place ≢ length text → (place < length text)
    × (get_or text place 0 ≡ 35) × (after 35 text ≡ Some (drop (place + 1) text))
hash_at {text} {place} h n = grind (arith, drop_more text place 0)

-- what is left of a body is not longer than what is left of its text
pub short_rest : (text : List ℕ) (place : ℕ) → place ≤ length text
    → place + length (plain_body (drop place text)) ≤ length text
short_rest text place l = omega (arith, body_shorter (drop place text), length-drop place text)

-- the bytes before the first marked byte are the front of the body
pub front_is : {text bytes : List ℕ} {w : Walk} → w.text ≡ text → w.rest ≡ plain_body (drop w.place text)
    → IsClear text 0 w.place → w.place ≤ length text → bytes ≡ slice_range text 0 w.place → IsBodyPrefix text bytes w
front_is {text} {bytes} {w} same rest clear within is =
    let reads = (spells_clear text 0 w.place (omega arith) within clear).reads in
    grind (arith, short_rest text w.place within, length-take-le w.place text within)

-- after the first part of a text that is read, what follows the first '#' is what followed it
pub front_knows : {c : Cursor} → IsClear (text_of c) 0 c.place → c.place ≤ length (text_of c) → KnowsAhead c c.ahead
    → Knows c
front_knows {c} clear within k = grind (arith, spells_clear (text_of c) 0 c.place (omega arith) within clear)

-- at the end of its text, a walk ends
pub end_knows : {c : Cursor} → Looking c.source c.block c.place 0 → c.place ≡ length (text_of c) → Ended c
end_knows {c} k e = grind (arith, paid_le, drop_all)

-- what is gathered in two steps, one after the other, is gathered in both together
pub gathers_then : {c c1 c2 : Cursor} {buffer buffer1 buffer2 : List ℕ} {len len1 len2 : ℕ}
    → Gathers c c1 buffer buffer1 len len1
    → Gathers c1 c2 buffer1 buffer2 len1 len2 → Gathers c c2 buffer buffer2 len len2
gathers_then {c} {c1} {c2} {buffer} {buffer1} {buffer2} {len} {len1} {len2} g h =
    grind (arith, length-append, append_assoc)

-- one byte is appended to the buffer
pub gathers_byte : {c c' : Cursor} {buffer : List ℕ} {len b : ℕ} → LooksOn c.source c'.source
    → Reads (text_of c) c.place c'.place (b ∷ []) → len < length buffer
    → Gathers c c' buffer (set buffer len b) len (len + 1)
gathers_byte {c} {c'} {buffer} {len} {b} on r l = grind (arith, take_more_set)

-- only the walk goes on, and nothing is written
pub gathers_nothing : {c c' : Cursor} {buffer : List ℕ} {len : ℕ} → LooksOn c.source c'.source
    → Reads (text_of c) c.place c'.place [] → Gathers c c' buffer buffer len len
gathers_nothing {c} {c'} {buffer} {len} on r = grind (arith, append-nil)

-- a stretch without marks is copied from the block
pub gathers_clear : {c : Cursor} {buffer buffer' : List ℕ} {len : ℕ} (to : ℕ) → MayGather c len → c.place ≤ to
    → to ≤ c.block.end → IsClear (text_of c) c.place to
    → take (len + (to - c.place)) buffer' ≡ take len buffer ++ slice_range (text_of c) c.place to
    → Gathers c (record c { place = to }) buffer buffer' len (len + (to - c.place))
gathers_clear {c} {buffer} {buffer'} {len} to m l w clear e =
    let reads = (spells_clear (text_of c) c.place to l (omega (arith, m.looking.block.end_le)) clear).reads in
    let long = length-take-le (to - c.place) (drop c.place (text_of c)) in
    grind (arith, length-drop)

-- after that the walk can gather more
pub may_clear : {c : Cursor} {len : ℕ} (to : ℕ) → MayGather c len → c.place < c.block.end → c.place ≤ to
    → to ≤ c.block.end → MayGather (record c { place = to }) (len + (to - c.place))
may_clear {c} {len} to m h l w = grind (arith, looking_on to m.looking l, m.room.for_block h)

-- an escape is read as the byte of its value
pub reads_escape : {text : List ℕ} {place value end : ℕ} → EscapeAt text place value end
    → Reads text place end (value ∷ [])
reads_escape e = (spells_escape e).reads

-- the value of an escape directly after another one
pub gathers_escape : {c0 c c' : Cursor} {buffer0 buffer : List ℕ} {len0 len value : ℕ}
    → Gathers c0 c buffer0 buffer len0 len
    → LooksOn c.source c'.source → EscapeAt (text_of c) c.place value c'.place → len < length buffer
    → Gathers c0 c' buffer0 (set buffer len value) len0 (len + 1)
gathers_escape g on e l = gathers_then g (gathers_byte on (spells_escape e).reads l)

-- how far the walk still has to go, and whether it is at the end
abbrev pub measure : ℕ → ℕ → Bool → ℕ
measure total place ended = 2 * (total - place) + cond ended 0 1

-- where a walk has ended, nothing of the body is left
pub rest_over : {c : Cursor} → Knows c → has_ended c.ahead ≡ true → plain_body (drop c.place (text_of c)) ≡ []
rest_over {c} k e = grind (arith, ends_empty, ended_of)

-- a piece has at least one byte
piece_some : (p : Piece) {c c' : Cursor} {most : ℕ} → 1 ≤ most → GivesPiece c (Some p) c' most → 0 < length (bytes_of p)
piece_some (Slice slice) {c} {c'} {most} some g = elim (cases_lt (length slice.now) most) [
  | inl l ↦ let is = g.piece l in grind (arith, length-drop, length-take-le)
  | inr l ↦ omega arith
]
piece_some (Byte byte) some g = omega arith

-- a walk that has ended returns no further piece
pub again : (next : Option Piece) {c c' : Cursor} {most : ℕ} → 1 ≤ most → Knows c → GivesPiece c next c' most
    → has_ended c.ahead ≡ true → next ≡ None
again None some k g e = refl
again (Some p) {c} {c'} some k g e =
    grind (
      arith,
      piece_some p some g,
      rest_over k e,
      length-append (bytes_of p) (plain_body (drop c'.place
          (text_of c))),
    )

-- a walk has read at most three times as many bytes as its text has
pub few_looks : {c : Cursor} → Knows c → c.source.looks ≤ 3 * length (text_of c)
few_looks {c} k = (known_cases c c.ahead k.ahead_is).1

-- if some bytes were gathered, the walk returns these
pub takes_gathered : {c c' : Cursor} {buffer0 buffer : List ℕ} {len : ℕ} → Gathers c c' buffer0 buffer 0 len → 0 < len
    → Takes (walk_of c) (take len buffer) (walk_of c')
takes_gathered {c} {c'} {buffer0} {buffer} {len} g l =
    let short = short_rest (text_of c') c'.place (grind arith) in grind arith

-- if nothing was gathered, and then came a piece, the walk returns the bytes of the piece
pub takes_next : {c c1 c2 : Cursor} {buffer0 buffer : List ℕ} {len most : ℕ} (p : Piece)
    → Gathers c c1 buffer0 buffer 0 len
    → len ≡ 0 → 1 ≤ most → GivesPiece c1 (Some p) c2 most → Takes (walk_of c) (bytes_of p) (walk_of c2)
takes_next {c} {c1} {c2} {buffer0} {buffer} {len} p g e some h =
    let short = short_rest (text_of c2) c2.place (grind arith) in grind (arith, piece_some p some h)

-- if nothing was gathered, and then came no piece, the walk is at its end
pub over_next : {c c1 c2 : Cursor} {buffer0 buffer : List ℕ} {len most : ℕ} → Gathers c c1 buffer0 buffer 0 len
    → len ≡ 0
    → GivesPiece c1 None c2 most → Knows c2 → IsOver (walk_of c) (walk_of c2)
over_next {c} {c1} {c2} g e h k = grind (arith, rest_over)

-- the lemmas for pieces
pub ruleset stretches = (
  looking_escape,
  looking_paid,
  byte_part,
  byte_next,
  goes_part,
  slice_part,
  slice_goes,
  searched,
)

-- the lemmas for the functions that gather bytes
pub ruleset gathering = (gathers_byte, gathers_nothing, gathers_then, gathers_escape, reads_escape, ended_at)

-- the lemmas for `Cursor`
pub ruleset walks = (stretches, gathering, marks_padded, spells_none, spells_then)

-- the lemmas for `Source`
pub ruleset sources = (copied_block, hash_at, drop_all, IsCharBoundary-after_ascii)

-- a walk is within its text
placed : (c : Cursor) (a : Ahead) → KnowsAhead c a → c.place ≤ length (text_of c)
placed c Unknown k = k.within
placed c AfterEscape k = k.within
placed c (Escape value end) k = let three = k.0.three in omega (arith, k.0.within)
placed c End k = k.ends.within

-- a walk goes on from its index
pub goes_from : {c : Cursor} → Knows c → IsBodyFrom (text_of c) c.place (walk_of c)
goes_from {c} k = record {
  text_is = refl;
  place_is = refl;
  rest_is = refl;
  short = short_rest (text_of c) c.place (placed c c.ahead k.ahead_is);
}

-- the lemmas for `Pieces` and `Walk`
pub ruleset walking = (body_end, rest_over, again, few_looks, goes_from)
