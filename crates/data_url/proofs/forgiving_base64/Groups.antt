-- Groups of four symbols, and texts that are fed in two parts.
use Rattle.std.proofs.Common.{sym, take, drop, refl, ap, ap₂, arith, length-take, get_or-take, take-append-drop}
use Rattle.std.proofs.Common.{append-nil, take-take, drop-drop, length-drop, length-take-le, ◌∙◌, false, min}
use Rattle.std.proofs.Common.{None, take-add, append_assoc, length-append, ◌/◌, ◌≡◌, ℕ, Bool, ◌+◌, ◌*◌, ◌≤◌, true, ◌&&◌}
use Rattle.std.proofs.Common.{◌||◌, List, [], ◌∷◌, ◌++◌, map, length, ◌-◌, replicate, zero, suc}
use Rattle.std.{proofs.Math.Seq.{take-append-add}, proofs.lemmas.Bool.{and_parts}, proofs.lemmas.List.{length-map}}
use Rattle.std.proofs.lemmas.List.{take-append-le, take_rest, map-append, length-replicate}
use Rattle.std.proofs.lemmas.List.{take_rest}
use Rattle.std.{proofs.lemmas.List.Elements.{filter-append}, proofs.lemmas.List.Folds.{list_all-append}}
use Rattle.std.proofs.lemmas.List.Sums.{list_all-from_AllPass, prefix_len-le-length, prefix_len_passes}
use Rattle.std.{specs.Char.{is_ascii_whitespace}, specs.List.{list_all, prefix_len, filter, list_any}}
use Rattle.data_url.specs.Base64.{decoded, first_fault, left_padding, left_symbols, left_text}
use Rattle.data_url.specs.{Base64.{groups, is_symbol, symbol_value, values, after_groups}, Laws.{GoesOn}}
use Rattle.data_url.specs.{Laws.{TwoFeeds}, Steps.Groups.{AddsGroups, IsOverGap, is_symbol_or_space}}
use Rattle.data_url.specs.Steps.Lanes.{DecodesFront}
use Rattle.data_url.proofs.forgiving_base64.Padding.{after_groups-append, after_groups-map, before-append, before_none}
use Rattle.data_url.proofs.forgiving_base64.Padding.{any_filter, filter_every, classes, every_list_all, filter_all}
use Rattle.data_url.proofs.forgiving_base64.Padding.{done_is, every_after, fault-append, fault_byte, fault_invalid}
use Rattle.data_url.proofs.forgiving_base64.Padding.{fault_none, fault_some, fault_text, groups-append, is_pad, kind_is}
use Rattle.data_url.proofs.forgiving_base64.Padding.{length_alike, no_fault_valid, pads_of_text, symbols_of_text}
use Rattle.data_url.proofs.{forgiving_base64.Padding.{space_alone}, forgiving_base64.Vectors.{groups_whole}}

-- Groups at the start of a text.

-- How many bytes groups have

-- there are three bytes for each four values, without those that are left over
pub groups_size : (x : List ℕ) → length (groups x) ≡ 3 * (length x / 4)
unfolding groups
groups_size [] = refl
groups_size (p ∷ []) = omega arith
groups_size (p ∷ q ∷ []) = omega arith
groups_size (p ∷ q ∷ r ∷ []) = omega arith
groups_size (p ∷ q ∷ r ∷ s ∷ rest) = omega (arith, groups_size rest)

-- the bytes of the groups are at most three for each four values
pub groups_length : (x : List ℕ) → 4 * length (groups x) ≤ 3 * length x
groups_length x = omega (arith, groups_size x)

-- a text has at most as many symbols as bytes
pub filter_length : (t : List ℕ) → length (filter is_symbol t) ≤ length t
filter_length [] = omega arith
filter_length (c ∷ t) = grind (arith, filter_length t)

-- A text of symbols

-- if all bytes of a text are symbols, all are symbols or whitespace
pub symbols_alone : (s : List ℕ) → list_all is_symbol s ≡ true → list_all is_symbol_or_space s ≡ true
symbols_alone [] h = refl
symbols_alone (b ∷ s) h =
    let p = and_parts (is_symbol b) (list_all is_symbol s) h in
    ap₂ (λ x y. x && y) (ap (λ t. t || is_ascii_whitespace b) p.0) (symbols_alone s p.1)

-- the items before the first one that fails a test pass it
pub prefix_passes : (p : ℕ → Bool) (t : List ℕ) → list_all p (take (prefix_len p t) t) ≡ true
prefix_passes p t =
    grind (arith, list_all-from_AllPass, length-take, get_or-take, prefix_len_passes, prefix_len-le-length)

-- if the first n items pass a test, so do the first ones up to an earlier place
pub all_before : (p : ℕ → Bool) (t : List ℕ) (n to : ℕ) → list_all p (take n t) ≡ true → to ≤ n
    → list_all p (take to t) ≡ true
all_before p t n to all l =
    let whole = ap (list_all p) (take-append-drop to (take n t)) ∙ all in
    let parts = and_parts _ _ (sym (list_all-append p (take to (take n t)) (drop to (take n t))) ∙ whole) in
    sym (ap (list_all p) (take-take to n t l)) ∙ parts.0

-- a text of white space has no symbols, and only symbols and white space
pub spaces_only : (t : List ℕ) → list_all is_ascii_whitespace t ≡ true
    → (filter is_symbol t ≡ []) × (list_all is_symbol_or_space t ≡ true)
spaces_only [] h = (refl, refl)
spaces_only (c ∷ t) h =
    let p = and_parts (is_ascii_whitespace c) (list_all is_ascii_whitespace t) h in
    let k = space_alone (classes c) p.0 in
    let r = spaces_only t p.1 in
    grind (arith)

-- what a filter keeps passes
pub symbols_kept : (t : List ℕ) → list_all is_symbol (filter is_symbol t) ≡ true
symbols_kept [] = refl
symbols_kept (c ∷ t) = grind (arith, symbols_kept t)

-- no bytes are read
adds_nothing : (held : List ℕ) → AddsGroups held [] held
unfolding groups
adds_nothing held = grind (arith, append-nil)

-- the groups of a text and then those of another are added
pub adds_then : {held h1 h2 : List ℕ} (a b : List ℕ) → AddsGroups held a h1 → AddsGroups h1 b h2
    → AddsGroups held (a ++ b) h2
adds_then {held} {h1} {h2} a b f g =
    let x = filter is_symbol a in
    let y = filter is_symbol b in
    let both = filter-append is_symbol a b in
    record {
      whole = record {
        spaced = cc (list_all-append is_symbol_or_space a b, f.whole.spaced, g.whole.spaced);
        whole = omega (arith, ap length both, length-append x y, f.whole.whole, g.whole.whole);
      };
      held_are = cc (
        both,
        g.held_are,
        f.held_are,
        map-append symbol_value x y,
        groups_whole (map symbol_value x) (map symbol_value y)
            (omega (arith, length-map x symbol_value, f.whole.whole)),
        append_assoc held (groups (map symbol_value x)) (groups (map symbol_value y)),
      );
    }

-- the first bytes of a list, and then some of those that were written after them
pub part_taken : (old part rest : List ℕ) (at n : ℕ) → at ≤ length old → n ≤ length part
    → take (at + n) (take at old ++ (part ++ rest)) ≡ take at old ++ take n part
part_taken old part rest at n within few =
    let size : at + n ≡ length (take at old) + n = omega (arith, length-take-le at old within) in
    ap (λ k. take k (take at old ++ (part ++ rest))) size ∙ take-append-add (take at old) (part ++ rest) n
    ∙ ap (λ t. take at old ++ t) (take-append-le n part rest few)

-- what was put after the first n bytes, as far as it is kept
pub put_front : (old new row : List ℕ) (n k : ℕ) → n ≤ length old → k ≤ 16 → take (n + 16) new ≡ take n old ++ row
    → take (n + k) new ≡ take n old ++ take k row
put_front old new row n k within few put =
    let size : n + k ≡ length (take n old) + k = omega (arith, length-take-le n old within) in
    sym (take-take (n + k) (n + 16) new (omega (arith, few))) ∙ ap (take (n + k)) put
    ∙ ap (λ m. take m (take n old ++ row)) size ∙ take-append-add (take n old) row k

-- what was put after the first n bytes keeps these
pub put_keeps : (old new row : List ℕ) (n : ℕ) → n ≤ length old → take (n + 16) new ≡ take n old ++ row
    → take n new ≡ take n old
put_keeps old new row n h e =
    let n_is : n + 0 ≡ n = omega arith in
    rw (n_is, append-nil (take n old)) at (put_front old new row n 0 h (omega arith) e)

-- rest is the text after whole groups and white space, and held' is held followed by the bytes of these groups
pub record Leaves (held text rest held' : List ℕ) : Type 0 where
  pub front : List ℕ
  pub text_is : text ≡ front ++ rest
  pub added : AddsGroups held front held'

-- before any group is read
pub leaves_all : (held text : List ℕ) → Leaves held text text held
leaves_all held text = record { front = []; text_is = refl; added = adds_nothing held }

-- some more groups are read
pub leaves_then : {held h1 h2 text rest : List ℕ} (n : ℕ) → Leaves held text rest h1 → AddsGroups h1 (take n rest) h2
    → Leaves held text (take (length rest - n) (drop n rest)) h2
leaves_then {rest = rest} n l f = rw (take_rest rest n) (record {
  front = l.front ++ take n rest;
  text_is = cc (l.text_is, append_assoc l.front (take n rest) (drop n rest), take-append-drop n rest);
  added = adds_then l.front (take n rest) l.added f;
})

-- a row of a text has sixteen bytes
pub row_long : {row : List ℕ} (text : List ℕ) → row ≡ take 16 text → 16 ≤ length text → length row ≡ 16
row_long text is h = ap length is ∙ length-take-le 16 text h

-- n symbols that are a part of a text, with white space taken out in one place, are its first n symbols
pub over_gap : (n : ℕ) (text symbols : List ℕ) (p k : ℕ) → p ≤ n → n + k ≤ length text
    → symbols ≡ take p text ++ take (n - p) (drop (p + k) text) → list_all is_symbol symbols ≡ true
    → list_all is_ascii_whitespace (take k (drop p text)) ≡ true → IsOverGap n text symbols k
over_gap n text symbols p k few within is all spaces =
    let x = take p text in
    let gap = take k (drop p text) in
    let y = take (n - p) (drop (p + k) text) in
    let only = spaces_only gap spaces in
    let size : n + k ≡ p + (k + (n - p)) = omega arith in
    let whole : take (n + k) text ≡ x ++ (gap ++ y) =
    ap (λ n. take n text) size ∙ take-add p (k + (n - p)) text
    ∙ ap (λ t. x ++ t) (take-add k (n - p) (drop p text) ∙ ap (λ t. gap ++ take (n - p) t) (drop-drop k p text)) in
    let each = sym (list_all-append is_symbol x y) ∙ sym (ap (list_all is_symbol) is) ∙ all in
    let parts = and_parts (list_all is_symbol x) (list_all is_symbol y) each in
    let front : filter is_symbol x ≡ x = filter_all is_symbol x (every_list_all x parts.0) in
    let back : filter is_symbol y ≡ y = filter_all is_symbol y (every_list_all y parts.1) in
    record {
      within = within;
      long = omega (
        arith,
        ap length is,
        length-append x y,
        length-take-le p text (omega arith),
        length-take-le (n - p) (drop (p + k) text) (omega (arith, length-drop (p + k) text)),
      );
      spaced = cc (
        whole,
        list_all-append is_symbol_or_space x (gap ++ y),
        list_all-append is_symbol_or_space gap y,
        symbols_alone x parts.0,
        only.1,
        symbols_alone y parts.1,
      );
      symbols_are =
          cc (whole, filter-append is_symbol x (gap ++ y), filter-append is_symbol gap y, only.0, front, back, is);
    }

-- 64 symbols of a text, from a place on, have no gap
pub no_gap : (s : List ℕ) (at : ℕ) → at + 64 ≤ length s → list_all is_symbol (take 64 (drop at s)) ≡ true
    → IsOverGap 64 (take (length s - at) (drop at s)) (take 64 (drop at s)) 0
no_gap s at within all =
    let rest = drop at s in
    let room : 64 + 0 ≤ length rest = omega (arith, length-drop at s) in
    rw (take_rest s at)
    (over_gap 64 rest (take 64 rest) 64 0 (omega arith) room (sym (append-nil (take 64 rest))) all refl)

-- the symbols of the groups that a text begins with, and of white space after them, are those of a row with the same
-- groups at its start
pub front_symbols : (row text : List ℕ) (m k : ℕ) → take (4 * m) row ≡ take (4 * m) text
    → list_all is_symbol (take (4 * m) row) ≡ true → list_all is_ascii_whitespace (take k (drop (4 * m) text)) ≡ true
    → (list_all is_symbol_or_space (take (4 * m + k) text) ≡ true)
    × (filter is_symbol (take (4 * m + k) text) ≡ take (4 * m) row)
front_symbols row text m k front all spaces =
    let q = take (4 * m) text in
    let only = spaces_only (take k (drop (4 * m) text)) spaces in
    let each = sym (ap (list_all is_symbol) front) ∙ all in
    let alone : filter is_symbol q ≡ q = filter_all is_symbol q (every_list_all q each) in (
      cc (
        take-add (4 * m) k text,
        list_all-append is_symbol_or_space q (take k (drop (4 * m) text)),
        symbols_alone q each,
        only.1,
      ),
      cc (
        take-add (4 * m) k text,
        filter-append is_symbol q (take k (drop (4 * m) text)),
        append-nil q,
        only.0,
        alone,
        front,
      ),
    )

-- the groups of t bytes of a text are held, if a row that begins with their symbols was decoded and put after n bytes
row_adds : (text old new bytes row : List ℕ) (n m t : ℕ)
    → n + 16 ≤ length old → take (n + 16) new ≡ take n old ++ bytes → DecodesFront row bytes → m ≤ 4 → length row ≡ 16
    → (list_all is_symbol_or_space (take t text) ≡ true) × (filter is_symbol (take t text) ≡ take (4 * m) row)
    → AddsGroups (take n old) (take t text) (take (n + 3 * m) new)
row_adds text old new bytes row n m t room put decodes few long are =
    let size : n + 3 * m ≡ length (take n old) + 3 * m = omega (arith, length-take-le n old (omega arith)) in
    let each = ap (list_all is_symbol) (sym are.1) ∙ symbols_kept (take t text) in
    record {
      whole = record {
        spaced = are.0;
        whole = omega (arith, ap length are.1, length-take-le (4 * m) row (omega (arith, long)));
      };
      held_are = cc (
        take-take (n + 3 * m) (n + 16) new (omega arith),
        put,
        size,
        take-append-add (take n old) bytes (3 * m),
        decodes m few each,
        are.1,
      );
    }

-- so they are read
pub row_leaves : {held text rest : List ℕ} (old new bytes row : List ℕ) (n m t : ℕ)
    → Leaves held text rest (take n old) → n + 16 ≤ length old → take (n + 16) new ≡ take n old ++ bytes
    → DecodesFront row bytes → m ≤ 4 → length row ≡ 16
    → (list_all is_symbol_or_space (take t rest) ≡ true) × (filter is_symbol (take t rest) ≡ take (4 * m) row)
    → Leaves held text (take (length rest - t) (drop t rest)) (take (n + 3 * m) new)
row_leaves old new bytes row n m t before room put decodes few long are =
    leaves_then t before (row_adds _ old new bytes row n m t room put decodes few long are)

-- the same, where the row begins at a place in the text, and k bytes of white space follow its m groups
pub row_leaves_at : {held : List ℕ} (text old new bytes row : List ℕ) (at n m k : ℕ)
    → Leaves held text (drop at text) (take n old) → n + 16 ≤ length old → take (n + 16) new ≡ take n old ++ bytes
    → DecodesFront row bytes → at + 16 ≤ length text → row ≡ take 16 (drop at text) → m ≤ 4
    → list_all is_symbol (take (4 * m) row) ≡ true
    → list_all is_ascii_whitespace (take k (drop (4 * m) (drop at text))) ≡ true
    → Leaves held text (drop (at + (4 * m + k)) text) (take (n + 3 * m) new)
row_leaves_at text old new bytes row at n m k before room put decodes long is few all spaces =
    let rest = drop at text in
    let front : take (4 * m) row ≡ take (4 * m) rest =
    ap (take (4 * m)) is ∙ take-take (4 * m) 16 rest (omega arith) in
    rw (sym (drop-drop (4 * m + k) at text) ∙ sym (take_rest rest (4 * m + k)))
    (row_leaves old new bytes row n m (4 * m + k) before room put decodes few
    (row_long rest is (omega (arith, length-drop at text))) (front_symbols row rest m k front all spaces))

-- a text with zeros after it begins with no more items that pass a test than it has, if zero does not pass it
pub prefix_end : (p : ℕ → Bool) (text : List ℕ) (after : ℕ) → p 0 ≡ false
    → prefix_len p (text ++ replicate after 0) ≤ length text
prefix_end p [] zero zero_fails = omega arith
prefix_end p [] (suc after) zero_fails = grind (arith, zero_fails)
prefix_end p (b ∷ text) after zero_fails = grind (arith, prefix_end p text after zero_fails)

-- A text that is fed in two parts.

-- decoding goes on from the text w as it does from what is left over of a
pub record Stands (a w : List ℕ) : Type 0 where
  pub symbols : filter is_symbol w ≡ after_groups (filter is_symbol a)
  pub pads : min (length (filter is_pad w)) 3 ≡ min (length (filter is_pad a)) 3
  pub seen : list_any is_pad w ≡ list_any is_pad a
  pub no_fault : fault_byte false a ≡ None
  pub none_left : fault_byte false w ≡ None

module _ (a b w : List ℕ) (st : Stands a w) where
  -- given `Stands a w`, the symbols of w ++ t are those left over of a and then those of t
  symbols_left : (t : List ℕ) → filter is_symbol (w ++ t) ≡ after_groups (filter is_symbol a) ++ filter is_symbol t
  symbols_left t = grind (arith, filter-append)

  -- given `Stands a w`, the values of w ++ t are those left over of a and then those of t
  values_left : (t : List ℕ) → values (w ++ t) ≡ after_groups (values a) ++ values t
  unfolding values
  values_left t = grind (arith, symbols_left, map-append, after_groups-map)

  -- what a text decodes to, and whether it has a fault
  ruleset decoding = (done_is, groups-append, before_none, kind_is, no_fault_valid, after_groups-append, values_left)

  -- texts, one after the other
  ruleset joining = (before-append, fault-append, filter-append, length-append, append_assoc, map-append)

  -- given `Stands a w`, decoding b after a is the same as decoding w ++ b
  pub goes_on : GoesOn a b (w ++ b)
  unfolding left_padding left_symbols values decoded
  goes_on = grind (arith, decoding, joining, fault_some, length-map, fault_invalid, length_alike)

-- Decoding goes on from what is left over

-- if a has no fault, decoding goes on from what is left over of a
pub left_stands : (a : List ℕ) → fault_byte false a ≡ None → Stands a (left_text (left_symbols a) (left_padding a))
unfolding left_symbols left_padding
left_stands a h =
    search (arith, every_after, filter_every, symbols_of_text, pads_of_text, length-replicate, any_filter, fault_text)

-- if a has no fault, decoding a ++ b is the same as decoding a, and then what is left over of a with b
pub two_feeds : (a b : List ℕ) → first_fault a ≡ None → TwoFeeds a b
two_feeds a b h = search (arith, goes_on, left_stands, fault_none)
