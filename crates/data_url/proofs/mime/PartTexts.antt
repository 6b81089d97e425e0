-- Parts that are written, one after another. For `in_parts.rt`.
use Rattle.std.proofs.Common.{◌≡◌, ◌+◌, ◌-◌, ◌^◌, ◌≤◌, ◌<◌, ◌==◌, ◌&&◌, ◌++◌, ◌∷◌, [], Bool, List, ap, arith, drop}
use Rattle.std.proofs.Common.{Err, Ok, Result, inr, if◌then◌else◌, false, get_or, length, length-append}
use Rattle.std.proofs.Common.{length-drop, length-take, map, not, refl, sym, take, true, ◌∙◌, ℕ, ap₂, append_assoc}
use Rattle.std.proofs.Common.{append-nil, drop-drop, encode_utf8_all, min, suc, zero, subst, codes}
use Rattle.std.proofs.lemmas.List.{drop_all, drop_more}
use Rattle.std.proofs.lemmas.Simd.{put_chunk_is}
use Rattle.std.proofs.lemmas.Slice.{drop-append-drop}
use Rattle.std.proofs.lemmas.Str.{encodes-chars, encodes-IsAscii}
use Rattle.std.proofs.lemmas.Str.Ascii.{IsAscii-map, lowercase_ascii}
use Rattle.std.proofs.Math.Seq.{take-append_seam}
use Rattle.std.specs.{Int.{to_le_bytes, w64}, Simd.Lanes.{put_chunk}}
use Rattle.std.specs.{Char.{to_ascii_lowercase}, List.{flat_map}, Str.{IsAscii, IsUtf8, chars}}
use Rattle.data_url.specs.Mime.{IsRecordOfParts, Item, Items, Pair as MimePair, Record, default_record}
use Rattle.data_url.specs.Mime.{is_token_text, kept_pairs}
use Rattle.data_url.specs.declared.mime.parse.Head.{Head}
use Rattle.data_url.specs.Parts.{WritesIfFits, part, parts_of, parts_of_pair}
use Rattle.data_url.specs.Steps.MimeParts.{Adds, Puts, WritesParts, WritesRecord, head_record}
use Rattle.data_url.specs.Steps.{Parsing.{unescaped}, Parts.{Writes}}
use Rattle.data_url.proofs.examples.Literals.{on_literals}
use Rattle.data_url.proofs.mime.TokenTexts.{bytes_of_ascii, token_text_ascii, value_encodes}

-- Pieces

-- two pieces that fit, one after the other
writes_both : {a b old mid new : List ℕ} {at k end : ℕ} → Writes a old at mid k → Writes b mid k new end
    → Writes (a ++ b) old at new end
writes_both {a} {b} {old} {mid} {new} {at} {k} {end} v w = record {
  fits = λ f.
      let size = length-append a b in
      let first = v.fits (omega (arith, f, size)) in
      let p = take at old ++ a in
      let e : mid ≡ p ++ drop k old = first.1 ∙ sym (append_assoc (take at old) a (drop k old)) in
      let n : length p ≡ k = grind (arith, first.0, length-append, length-take, size) in
      let same : length mid ≡ length old = grind (arith, e, n, length-append, length-drop, size, first.0) in
      let second = w.fits (omega (arith, f, size, first.0, same)) in
      let t : take k mid ≡ p = grind (arith, e, n, take-append_seam) in
      let d : drop end mid ≡ drop end old = grind (arith, e, n, second.0, drop-append-drop) in
      let joined = append_assoc (take at old) a (b ++ drop end old) in
      (omega (arith, size, first.0, second.0), second.1 ∙ cc (t, d, joined, append_assoc a b (drop end old)));
}

-- two pieces, one after the other
pub puts_both : {a b old mid new : List ℕ} {at k end : ℕ} → Puts a old at mid k → Puts b mid k new end
    → Puts (a ++ b) old at new end
puts_both {a} {b} v w = record {
  end_is = omega (arith, length-append a b, v.end_is, w.end_is);
  writes = writes_both v.writes w.writes;
}

-- a piece that lanes write
pub puts_chunk : {bytes piece : List ℕ} (at : ℕ) (old : List ℕ) {end : ℕ} → bytes ≡ piece → Adds piece at end
    → end ≤ length old → length old < 2 ^ 63 → Puts piece old at (put_chunk at old bytes) end
puts_chunk {bytes} {piece} at old {end} e h l s =
    let size : end ≡ at + length piece = omega (arith, h, l, s) in
    let written = put_chunk_is at old piece (omega (arith, size, l)) in
    let after : drop (length piece) (drop at old) ≡ drop end old =
    drop-drop (length piece) at old ∙ ap (λ n. drop n old) (omega (arith, size)) in
    record {
      end_is = h;
      writes = record {
        fits = λ f. (size, ap (put_chunk at old) e ∙ written ∙ ap (λ x. take at old ++ (piece ++ x)) after);
      };
    }

-- Texts

-- a token text in lower case is encoded as its bytes in lower case
pub lower_encoded : (bs : List ℕ) → IsUtf8 bs → is_token_text (chars bs) ≡ true
    → encode_utf8_all (map to_ascii_lowercase (chars bs)) ≡ map to_ascii_lowercase bs
lower_encoded bs u h =
    let ascii = token_text_ascii (chars bs) h in
    let same = bytes_of_ascii bs u ascii in
    let lower : IsAscii (map to_ascii_lowercase (chars bs)) = search (arith, IsAscii-map, lowercase_ascii) in
    encodes-IsAscii (map to_ascii_lowercase (chars bs)) lower ∙ ap (map to_ascii_lowercase) (sym same)

-- a token text is encoded as it is, as a part
ascii_part : (s : List ℕ) → is_token_text s ≡ true → part s ≡ part (encode_utf8_all s)
ascii_part s h = ap part (sym (encodes-IsAscii s (token_text_ascii s h)))

-- a part: its length, and then its text
puts_part : (text : List ℕ) {old mid new : List ℕ} {at k end : ℕ}
    → Puts (to_le_bytes w64 (length text)) old at mid k → Puts text mid k new end → Puts (part text) old at new end
unfolding part
puts_part text v w = puts_both v w

module _ (text : List ℕ) {n at start end : ℕ} (size : n ≡ length text) (g : start ≡ min (at + 8) (2 ^ 64 - 1))
    (h : end ≡ min (start + n) (2 ^ 64 - 1)) where
  -- a part that does not fit is not written
  pub part_not : (old : List ℕ) → length old < end → Puts (part text) old at old end
  unfolding part
  part_not old l = record {
    end_is = omega (arith, g, h, size, length-append (to_le_bytes w64 (length text)) text);
    writes = record {
      fits = λ f. absurd (omega (
        arith,
        g,
        h,
        l,
        f,
        size,
        length-append (to_le_bytes w64 (length text)) text,
      ));
    };
  }

  -- a part that fits is written: its length, and then its text
  pub part_fits : {piece old mid new : List ℕ} {k : ℕ} → piece ≡ text → end ≤ length old → length old < 2 ^ 63
      → Puts (to_le_bytes w64 n) old at mid (at + 8) → Puts piece mid (at + 8) new k → Puts (part text) old at new end
  part_fits {piece} {old} {mid} {new} {k} e l s v w =
      let all = puts_part text (subst (λ i. Puts (to_le_bytes w64 i) old at mid (at + 8)) size v)
      (subst (λ x. Puts x mid (at + 8) new k) e w) in
      subst (Puts (part text) old at new) (omega (arith, g, h, l, s, size, w.end_is, ap length e)) all

-- a part, whose text is encoded
pub puts_text : (text : List ℕ) {old new : List ℕ} {at end : ℕ} → IsUtf8 text → Puts (part text) old at new end
    → Puts (part (encode_utf8_all (chars text))) old at new end
puts_text text {old} {new} {at} {end} u = subst (λ x. Puts (part x) old at new end) (sym (encodes-chars text u))

-- a part in lower case, whose text is encoded
pub puts_lower : (text : List ℕ) {old new : List ℕ} {at end : ℕ} → IsUtf8 text → is_token_text (chars text) ≡ true
    → Puts (part (map to_ascii_lowercase text)) old at new end
    → Puts (part (encode_utf8_all (map to_ascii_lowercase (chars text)))) old at new end
puts_lower text {old} {new} {at} {end} u h =
    subst (λ x. Puts (part x) old at new end) (sym (lower_encoded text u h))

-- Values of quoted strings

-- the value of the bytes before the index is written, and the value of the rest follows it
pub record Unescaped (quoted : List ℕ) (is_escaped : Bool) (index : ℕ) (old : List ℕ) (at : ℕ) (new : List ℕ) (end : ℕ)
    : Type 0 where
  pub read : List ℕ
  pub puts : Puts read old at new end
  pub value_is : read ++ unescaped is_escaped (drop index quoted) ≡ unescaped false quoted

-- the value of a quoted string is not longer than its text
unescaped_short : (e : Bool) (s : List ℕ) → length (unescaped e s) ≤ length s + 1
unescaped_short false [] = omega arith
unescaped_short true [] = omega arith
unescaped_short false (c ∷ s) = grind (arith, unescaped_short false s, unescaped_short true s)
unescaped_short true (c ∷ s) = grind (arith, unescaped_short false s)

-- the value of a quoted string has as many bytes as are counted
pub value_len : (bytes : List ℕ) {out : List ℕ} {len : ℕ} → length bytes < 2 ^ 63
    → Puts (unescaped false bytes) [] 0 out len → len ≡ length (unescaped false bytes)
value_len bytes l counted = omega (arith, counted.end_is, unescaped_short false bytes)

-- the value of a quoted string, as a part, whose text is encoded
pub puts_quoted : (quoted : List ℕ) {old new : List ℕ} {at end : ℕ} → IsUtf8 quoted
    → Puts (part (unescaped false quoted)) old at new end
    → Puts (part (encode_utf8_all (unescaped false (chars quoted)))) old at new end
puts_quoted quoted {old} {new} {at} {end} u =
    subst (λ x. Puts (part x) old at new end) (sym (value_encodes u refl))

module _ {quoted old mid : List ℕ} {e : Bool} {i at k : ℕ} (h : Unescaped quoted e i old at mid k) where
  module _ {e' : Bool} (l : i < length quoted) (f : e' ≡ ((get_or quoted i 0 == 92) && not e)) where
    -- the value of the bytes from the index on, from the value of those after it
    value_next : unescaped e (drop i quoted) ≡ (if e' then unescaped true (drop (i + 1) quoted)
        else get_or quoted i 0 ∷ unescaped false (drop (i + 1) quoted))
    value_next = grind (arith, drop_more)

    -- a '\\' that escapes the next byte is not written
    pub unescapes_past : e' ≡ true → Unescaped quoted e' (i + 1) old at mid k
    unescapes_past t = record { read = h.read; puts = h.puts; value_is = grind (arith, value_next, h.value_is) }

    -- any other byte is written
    pub unescapes_byte : {new : List ℕ} {end : ℕ} → e' ≡ false → Puts (get_or quoted i 0 ∷ []) mid k new end
        → Unescaped quoted e' (i + 1) old at new end
    unescapes_byte t v = record {
      read = h.read ++ (get_or quoted i 0 ∷ []);
      puts = puts_both h.puts v;
      value_is = grind (arith, value_next, h.value_is, append_assoc);
    }

  -- at the end, a '\\' that escapes nothing is written
  pub unescapes_last : {new : List ℕ} {end : ℕ} → length quoted ≤ i → e ≡ true → Puts (92 ∷ []) mid k new end
      → Puts (unescaped false quoted) old at new end
  unescapes_last {new} {end} l t v =
      let none : drop i quoted ≡ [] = grind (arith, drop_all) in
      let all : h.read ++ (92 ∷ []) ≡ unescaped false quoted = cc (h.value_is, none, t) in
      subst (λ x. Puts x old at new end) all (puts_both h.puts v)

-- Pairs

-- the parts of the first pairs are written
abbrev pub PutsPairs : List MimePair → ℕ → List ℕ → ℕ → List ℕ → ℕ → Type 0
PutsPairs pairs n old at new end = Puts (flat_map parts_of_pair (take n pairs)) old at new end

-- the parts of one pair more
parts_next : (pairs : List MimePair) (i : ℕ) → i < length pairs → flat_map parts_of_pair (take (suc i) pairs)
    ≡ flat_map parts_of_pair (take i pairs) ++ parts_of_pair (get_or pairs i ([], []))
parts_next [] i l = absurd (omega arith)
parts_next (p ∷ pairs) zero l = append-nil (parts_of_pair p)
parts_next (p ∷ pairs) (suc i) l = ap (λ x. parts_of_pair p ++ x) (parts_next pairs i (omega arith))
    ∙ sym (append_assoc (parts_of_pair p) (flat_map parts_of_pair (take i pairs))
    (parts_of_pair (get_or pairs i ([], []))))

-- one pair more
pub puts_pair : (pairs : List MimePair) (i : ℕ) {old mid mid' new : List ℕ} {at k k' end : ℕ} (p : MimePair)
    (a b : List ℕ) → PutsPairs pairs i old at mid k → i < length pairs → get_or pairs i ([], []) ≡ p
    → encode_utf8_all p.0 ≡ a → encode_utf8_all p.1 ≡ b → Puts (part a) mid k mid' k' → Puts (part b) mid' k' new end
    → PutsPairs pairs (i + 1) old at new end
puts_pair pairs i {old} {new = new} {at = at} {end = end} p a b h l e f g v w =
    let one : suc i ≡ i + 1 = omega arith in
    let done = flat_map parts_of_pair (take i pairs) in
    let more : done ++ (part a ++ part b) ≡ flat_map parts_of_pair (take (i + 1) pairs) =
    ap₂ (λ x y. done ++ (part x ++ part y)) (sym f) (sym g) ∙ ap (λ q. done ++ parts_of_pair q) (sym e)
    ∙ sym (parts_next pairs i l) ∙ ap (λ n. flat_map parts_of_pair (take n pairs)) one in
    subst (λ x. Puts x old at new end) more (puts_both h (puts_both v w))

-- The default record

-- the parts of the default record
pub default_parts : part (codes "text") ++ (part (codes "plain") ++ (part (codes "charset") ++ part (codes "US-ASCII")))
    ≡ parts_of default_record
unfolding on_literals
default_parts = cc (
  ascii_part (codes "text") refl,
  ascii_part (codes "plain") refl,
  ascii_part (codes "charset") refl,
  ascii_part (codes "US-ASCII") refl,
  append-nil (part (encode_utf8_all (codes "charset")) ++ part (encode_utf8_all (codes "US-ASCII"))),
)

-- Results

-- parts that fit an output and were put at its start
pub written_fits : {bytes old new : List ℕ} {len end : ℕ} → len ≡ length bytes → len < 2 ^ 63 → len ≤ length old
    → Puts bytes old 0 new end → WritesIfFits bytes old new len
written_fits {bytes} {old} {new} {len} {end} e s l v =
    let w = v.writes.fits (omega (arith, e, l)) in
    record {
      len_is = e;
      small = s;
      fits = λ f. w.1 ∙ ap (λ n. bytes ++ drop n old) (omega (arith, w.0));
      is_too_small = λ f. absurd (omega (arith, e, l, f));
    }

-- parts that do not fit an output, which did not change
pub written_not : {bytes old new : List ℕ} {len : ℕ} → len ≡ length bytes → len < 2 ^ 63 → length old < len → new ≡ old
    → WritesIfFits bytes old new len
written_not e s l same =
    record { len_is = e; small = s; fits = λ f. absurd (omega (arith, e, l, f)); is_too_small = λ f. same }

-- one piece that is put at the start of an output, which does not change if the piece does not fit
pub written_put : {bytes old new : List ℕ} {len : ℕ} → length bytes < 2 ^ 63 → Puts bytes old 0 new len
    → (length old < 0 + length bytes → new ≡ old) → WritesIfFits bytes old new len
written_put {bytes} {old} {new} {len} s v stays = record {
  len_is = omega (arith, s, v.end_is);
  small = omega (arith, s, v.end_is);
  fits = λ f.
      let w = v.writes.fits (omega (arith, f)) in
      w.1 ∙ ap (λ n. bytes ++ drop n old) (omega (arith, w.0));
  is_too_small = λ f. stays (omega (arith, f));
}

-- Records

-- the record of a type, a subtype and the pairs that are kept of the items of the parameters is that of these parts
pub record_of_head : (h : Head) (items : List Item) (pairs : List MimePair) → Items (chars h.parameters.now) items
    → pairs ≡ kept_pairs items → IsRecordOfParts (chars h.type_.now) (chars h.subtype.now) (chars h.parameters.now)
    (head_record h pairs)
record_of_head h items pairs i e =
    record { items = items; items_are = i; type_is = refl; subtype_is = refl; parameters_are = e }

-- a record that is written, or is too long
pub record_written : {E : Type 0} (Is : Record → Type 0) (m : Record) (before after : List ℕ) (r : Result ℕ E) → Is m
    → WritesRecord m before after r → WritesParts Is before after r
record_written Is m before after (Ok len) is h = (m, is, h)
record_written Is m before after (Err e) is h = (m, is, inr h.0, h.1)
