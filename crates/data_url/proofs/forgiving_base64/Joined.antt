-- The symbols that are left over, and then those that a text begins with, in one row. For `row_with`, and for what
-- reads such rows.
use Rattle.std.proofs.Common.{append_assoc, Bool, filter, List, [], ◌∷◌, ap, append-nil, arith, drop, false, get_or}
use Rattle.std.proofs.Common.{length, length-append, length-drop, length-take, length-take-le, map, refl, replicate}
use Rattle.std.proofs.Common.{suc, sym, take}
use Rattle.std.proofs.Common.{take-add, take-take, true, zero, ℕ, ◌%◌, ◌*◌, ◌++◌, ◌+◌, ◌-◌, ◌/◌, ◌∙◌, ◌≡◌, ◌≤◌}
use Rattle.std.proofs.Math.Seq.{take-append-add}
use Rattle.std.proofs.lemmas.Bool.{and_parts}
use Rattle.std.proofs.lemmas.List.{drop-take, length-map, map-append, nil_from_length, take-append-le, take_rest}
use Rattle.std.proofs.lemmas.List.Elements.{filter-append}
use Rattle.std.proofs.lemmas.List.Folds.{list_all-append}
use Rattle.std.proofs.lemmas.List.Sums.{prefix_len-le-length}
use Rattle.std.specs.{Char.{is_ascii_whitespace}, List.{list_all, prefix_len}}
use Rattle.data_url.specs.Base64.{after_groups, groups, is_symbol, symbol_value}
use Rattle.data_url.specs.declared.forgiving_base64.left_over.LeftOver as left
use Rattle.data_url.specs.{Decoder.{State}, Steps.Holding.{Completes, Gains}, Steps.Lanes.{DecodesFront}}
use Rattle.data_url.specs.Steps.Groups.{is_symbol_or_space}
use Rattle.data_url.proofs.classes.FirstRows.{padded_front}
use Rattle.data_url.proofs.forgiving_base64.Groups.{part_taken, prefix_end, prefix_passes, spaces_only, symbols_alone}
use Rattle.data_url.proofs.forgiving_base64.Groups.{symbols_kept}
use Rattle.data_url.proofs.forgiving_base64.Holding.{completes_spaced}
use Rattle.data_url.proofs.forgiving_base64.Padding.{after_groups-append, after_is, every_list_all, filter_all}
use Rattle.data_url.proofs.forgiving_base64.Padding.{length-after_groups}
use Rattle.data_url.proofs.forgiving_base64.{Steps.{IsSound, groups_few}, Vectors.{groups_whole}}

-- the first items of a list, up to three, are the same where only its first three items are kept
pub first_items : (s r : List ℕ) (k : ℕ) → k ≤ 3 → 3 ≤ length s
    → take k (get_or s 0 0 ∷ get_or s 1 0 ∷ get_or s 2 0 ∷ r) ≡ take k s
first_items (a ∷ b ∷ c ∷ s) r zero few long = refl
first_items (a ∷ b ∷ c ∷ s) r (suc zero) few long = refl
first_items (a ∷ b ∷ c ∷ s) r (suc (suc zero)) few long = refl
first_items (a ∷ b ∷ c ∷ s) r (suc (suc (suc zero))) few long = refl
first_items (a ∷ b ∷ c ∷ s) r (suc (suc (suc (suc k)))) few long = absurd (omega arith)
first_items [] r k few long = absurd (omega arith)
first_items (a ∷ []) r k few long = absurd (omega arith)
first_items (a ∷ b ∷ []) r k few long = absurd (omega arith)

-- the row begins with the symbols left over and then with `read` bytes of the text that pass a test, and no more
pub record Joins (pass : ℕ → Bool) (q text row : List ℕ) (read : ℕ) : Type 0 where
  pub within : read ≤ length text
  pub count : prefix_len pass row ≡ length q + read
  pub same : take (length q + read) row ≡ q ++ take read text
  pub all : list_all pass (q ++ take read text) ≡ true

-- if all items of a list pass, so do those that another one begins with after it
prefix_after : (pass : ℕ → Bool) (q s : List ℕ) → list_all pass q ≡ true
    → prefix_len pass (q ++ s) ≡ length q + prefix_len pass s
prefix_after pass [] s h = omega arith
prefix_after pass (x ∷ q) s h =
    let p = and_parts (pass x) (list_all pass q) h in grind (arith, prefix_after pass q s p.1)

-- such a row begins with the symbols left over and then with bytes of the text that pass
joins : (pass : ℕ → Bool) (q text row : List ℕ) (p : ℕ) → pass 0 ≡ false → length q ≡ p → p ≤ 16
    → list_all pass q ≡ true → row ≡ q ++ take (16 - p) (text ++ replicate 16 0)
    → Joins pass q text row (prefix_len pass row - p)
joins pass q text row p zero_fails long few passed is =
    let s = take (16 - p) (text ++ replicate 16 0) in
    let read = prefix_len pass s in
    let count : prefix_len pass row ≡ length q + read = ap (prefix_len pass) is ∙ prefix_after pass q s passed in
    let read_is : prefix_len pass row - p ≡ read = omega (arith, count, long) in
    let front = take (16 - p) text in
    let zeros : List ℕ = replicate (16 - p - length text) 0 in
    let s_is : s ≡ front ++ zeros = padded_front text (16 - p) (omega arith) in
    let few_read : read ≤ length front =
    rw (sym s_is) at (prefix_end pass front (16 - p - length text) zero_fails) in
    let size = length-take (16 - p) text in
    let same : take (length q + read) row ≡ q ++ take read text =
    ap (take (length q + read)) is ∙ take-append-add q s read
    ∙ ap (λ t. q ++ t) (ap (take read) s_is ∙ take-append-le read front zeros few_read
    ∙ take-take read (16 - p) text (omega (arith, few_read, size))) in
    rw read_is (record {
      within = omega (arith, few_read, size);
      count = count;
      same = same;
      all = ap (list_all pass) (sym same ∙ ap (λ n. take n row) (sym count)) ∙ prefix_passes pass row;
    })

-- so it is with what is left over of a text
pub joins_left : (s : left.LeftOver) (text row : List ℕ) {count : ℕ}
    → row ≡ take s.pending s.symbols ++ take (16 - s.pending) (text ++ replicate 16 0)
    → count ≡ prefix_len is_symbol row → Joins is_symbol (take s.pending s.symbols) text row (count - s.pending)
joins_left s text row is count =
    rw count (joins is_symbol (take s.pending s.symbols) text row s.pending refl
    (length-take-le s.pending s.symbols (omega (arith, s.sized, s.few_pending))) (omega (arith, s.few_pending))
    s.pending_symbols is)

-- the symbols that such a row begins with have those left over among them
pub left_ahead : (s : left.LeftOver) (text row : List ℕ) {count : ℕ}
    → row ≡ take s.pending s.symbols ++ take (16 - s.pending) (text ++ replicate 16 0)
    → count ≡ prefix_len is_symbol row → s.pending ≤ count
left_ahead s text row is count = omega (
  arith,
  (joins_left s text row is count).count,
  count,
  length-take-le s.pending s.symbols (omega (arith, s.sized, s.few_pending)),
)

-- if the text begins with an item that passes the test, it is read
begins : (pass : ℕ → Bool) (text : List ℕ) (n : ℕ) → 1 ≤ length text → pass (get_or text 0 0) ≡ true
    → 1 ≤ prefix_len pass (take (suc n) (text ++ replicate 16 0))
begins pass [] n some h = absurd (omega arith)
begins pass (c ∷ t) n some h = grind (arith, h)

pub some_after : (pass : ℕ → Bool) (text row : List ℕ) (at : ℕ) {end : ℕ}
    → row ≡ take 16 (drop at text ++ replicate 16 0) → end ≡ prefix_len pass row → 1 ≤ length text
    → pass (get_or text 0 0) ≡ true → 1 ≤ at + end
some_after pass text row zero is ends some first =
    omega (arith, ends, ap (prefix_len pass) is, begins pass text 15 some first)
some_after pass text row (suc at) is ends some first = omega arith

pub some_read : (s : left.LeftOver) (text row : List ℕ) {count : ℕ}
    → row ≡ take s.pending s.symbols ++ take (16 - s.pending) (text ++ replicate 16 0)
    → count ≡ prefix_len is_symbol row → 1 ≤ length text → is_symbol (get_or text 0 0) ≡ true
    → 1 ≤ count - s.pending
some_read s text row is count some first =
    let q = take s.pending s.symbols in
    let rest = take (16 - s.pending) (text ++ replicate 16 0) in
    let one : 16 - s.pending ≡ suc (15 - s.pending) = omega (arith, s.few_pending) in
    let more : 1 ≤ prefix_len is_symbol rest = rw (sym one) at (begins is_symbol text (15 - s.pending) some first) in
    let all = ap (prefix_len is_symbol) is ∙ prefix_after is_symbol q rest s.pending_symbols in
    omega (arith, count, all, more, length-take-le s.pending s.symbols (omega (arith, s.sized, s.few_pending)))

-- after `at` bytes of a text that pass, so do those that a row of what follows begins with
pub all_after : (pass : ℕ → Bool) (text row : List ℕ) (at : ℕ) {end : ℕ} → pass 0 ≡ false
    → row ≡ take 16 (drop at text ++ replicate 16 0) → end ≡ prefix_len pass row → at ≤ length text
    → list_all pass (take at text) ≡ true
    → (at + end ≤ length text) × ((list_all pass (take (at + end) text) ≡ true)
    × (take end row ≡ take end (drop at text)))
all_after pass text row at {end} zero_fails is ends within before =
    let rest = drop at text in
    let all : prefix_len pass row - 0 ≡ end = omega (arith, ends) in
    let j : Joins pass [] rest row end = rw all at (joins pass [] rest row 0 zero_fails refl (omega arith) refl is) in (
      omega (arith, j.within, length-drop at text, within),
      (
        cc (take-add at end text, list_all-append pass (take at text) (take end rest), before, j.all),
        ap (λ k. take k row) (omega arith) ∙ j.same,
      ),
    )

-- the first n items of a list are those of the largest multiple of four and the others
cut : (s : List ℕ) (n : ℕ) → take n s ≡ take (n / 4 * 4) s ++ take (n % 4) (drop (n / 4 * 4) s)
cut s n = let size : n ≡ n / 4 * 4 + n % 4 = omega arith in ap (λ k. take k s) size ∙ take-add (n / 4 * 4) (n % 4) s

-- those after the largest multiple of four, written in another way
after_fours : (s : List ℕ) (n : ℕ) → take (n % 4) (drop (n / 4 * 4) s) ≡ drop (n / 4 * 4) (take n s)
after_fours s n =
    let size : n / 4 * 4 + n % 4 ≡ n = omega arith in
    sym (drop-take (n / 4 * 4) (n % 4) s) ∙ ap (λ k. drop (n / 4 * 4) (take k s)) size

-- the symbols after the groups of a row, in the row that is turned to begin with them
pub left_items : (row turned : List ℕ) (n : ℕ) → length row ≡ 16 → n ≤ 16
    → turned ≡ drop (n / 4 * 4) row ++ take (n / 4 * 4) row → take (n % 4) turned ≡ drop (n / 4 * 4) (take n row)
left_items row turned n long within is = cc (
  is,
  take-append-le (n % 4) (drop (n / 4 * 4) row) (take (n / 4 * 4) row)
      (omega (arith, long, length-drop (n / 4 * 4) row)),
  after_fours row n,
)

-- if there are none
pub none_left : (row s : List ℕ) (n : ℕ) → length row ≡ 16 → n ≤ 16 → n % 4 ≡ 0
    → take (n % 4) s ≡ drop (n / 4 * 4) (take n row)
none_left row s n long within none =
    let left = drop (n / 4 * 4) (take n row) in
    let size = length-take-le n row (omega (arith, long)) in
    let empty : length left ≡ 0 = omega (arith, length-drop (n / 4 * 4) (take n row), size) in
    ap (λ k. take k s) none ∙ sym (nil_from_length left empty)

-- the symbols that a row begins with are whole groups and others
cut_symbols : (row : List ℕ) (n : ℕ) → list_all is_symbol (take n row) ≡ true
    → (list_all is_symbol (take (n / 4 * 4) row) ≡ true) × (list_all is_symbol (drop (n / 4 * 4) (take n row)) ≡ true)
cut_symbols row n all =
    let parts = and_parts _ _
    (sym (list_all-append is_symbol (take (n / 4 * 4) row) (take (n % 4) (drop (n / 4 * 4) row)))
    ∙ ap (list_all is_symbol) (sym (cut row n)) ∙ all) in
    (parts.0, sym (ap (list_all is_symbol) (after_fours row n)) ∙ parts.1)

-- the others are symbols
pub left_are_symbols : (row : List ℕ) (n : ℕ) → list_all is_symbol (take n row) ≡ true
    → list_all is_symbol (drop (n / 4 * 4) (take n row)) ≡ true
left_are_symbols row n all = (cut_symbols row n all).1

-- the groups of n items are those of the largest multiple of four
groups_cut : (s : List ℕ) (n : ℕ) → n ≤ length s
    → groups (map symbol_value (take (n / 4 * 4) s)) ≡ groups (map symbol_value (take n s))
groups_cut s n within =
    let w = n / 4 * 4 in
    let x = take w s in
    let y = take (n % 4) (drop w s) in
    let size : length x ≡ w = length-take-le w s (omega (arith, within)) in
    let short : length y ≤ 3 = omega (arith, length-take (n % 4) (drop w s)) in
    cc (
      cut s n,
      map-append symbol_value x y,
      groups_whole (map symbol_value x) (map symbol_value y) (omega (arith, length-map x symbol_value, size)),
      groups_few (map symbol_value y) (omega (arith, length-map y symbol_value, short)),
      append-nil (groups (map symbol_value x)),
    )

-- the bytes of the groups that a row begins with
decoded_groups : (row bytes : List ℕ) (n : ℕ) → length row ≡ 16 → n ≤ 16 → list_all is_symbol (take n row) ≡ true
    → DecodesFront row bytes → take (n / 4 * 3) bytes ≡ groups (map symbol_value (take n row))
decoded_groups row bytes n long within all decodes =
    let four : 4 * (n / 4) ≡ n / 4 * 4 = omega arith in
    let three : 3 * (n / 4) ≡ n / 4 * 3 = omega arith in
    rw (four, three) at (decodes (n / 4) (omega arith)) (cut_symbols row n all).0
    ∙ groups_cut row n (omega (arith, long, within))

-- the symbols q, and then those of the first `read` bytes of a text, which are symbols and white space, are those of
-- whole groups with these bytes, and then the first `count` bytes of a row
pub record Rows (q text row bytes : List ℕ) (read count : ℕ) : Type 0 where
  pub within : read ≤ length text
  pub spaced : list_all is_symbol_or_space (take read text) ≡ true
  pub in_row : list_all is_symbol (take count row) ≡ true
  pub before : List ℕ
  pub whole : length before % 4 ≡ 0
  pub symbols_are : q ++ filter is_symbol (take read text) ≡ before ++ take count row
  pub bytes_are : bytes ≡ groups (map symbol_value before)

-- so it is before any symbol is read
pub rows_none : {q row : List ℕ} (text : List ℕ) (p : ℕ) → list_all is_symbol q ≡ true → take p row ≡ q
    → Rows q text row [] 0 p
unfolding groups
rows_none {q} text p all same = record {
  within = omega arith;
  spaced = refl;
  in_row = ap (list_all is_symbol) same ∙ all;
  before = [];
  whole = refl;
  symbols_are = append-nil q ∙ sym same;
  bytes_are = refl;
}

-- so it is with the first row
pub rows_first : {q text row : List ℕ} (read count : ℕ) → Joins is_symbol q text row read
    → count ≡ prefix_len is_symbol row → Rows q text row [] read count
unfolding groups
rows_first {q} {text} {row} read count j ahead =
    let t = take read text in
    let symbols : take count row ≡ q ++ t = ap (λ k. take k row) (ahead ∙ j.count) ∙ j.same in
    let alone = (and_parts (list_all is_symbol q) (list_all is_symbol t)
    (sym (list_all-append is_symbol q t) ∙ j.all)).1 in
    record {
      within = j.within;
      spaced = symbols_alone t alone;
      in_row = ap (list_all is_symbol) symbols ∙ j.all;
      before = [];
      whole = refl;
      symbols_are = ap (λ k. q ++ k) (filter_all is_symbol t (every_list_all t alone)) ∙ sym symbols;
      bytes_are = refl;
    }

module _ {q text row bytes : List ℕ} {read count : ℕ} (r : Rows q text row bytes read count) (long : length row ≡ 16)
    (few : count ≤ 16) where
  -- with the bytes of the groups that the row begins with, they are those of all groups
  pub rows_bytes : {more : List ℕ} (decoded : List ℕ) → DecodesFront row decoded
      → more ≡ bytes ++ take (count / 4 * 3) decoded
      → more ≡ groups (map symbol_value (q ++ filter is_symbol (take read text)))
  rows_bytes decoded decodes is = cc (
    is,
    r.bytes_are,
    decoded_groups row decoded count long few r.in_row decodes,
    r.symbols_are,
    map-append symbol_value r.before (take count row),
    groups_whole (map symbol_value r.before) (map symbol_value (take count row))
        (omega (arith, length-map r.before symbol_value, r.whole)),
  )

  -- what is left over is in the row
  pub rows_left : drop (count / 4 * 4) (take count row) ≡ after_groups (q ++ filter is_symbol (take read text))
  rows_left = cc (
    after_is (take count row),
    length-take-le count row (omega (arith, few, long)),
    r.symbols_are,
    after_groups-append r.before (take count row),
    nil_from_length (after_groups r.before) (length-after_groups r.before ∙ r.whole),
  )

  -- the white space that follows is read
  pub rows_spaces : {k : ℕ} → k ≡ prefix_len is_ascii_whitespace (take (length text - read) (drop read text))
      → Rows q text row bytes (read + k) count
  rows_spaces {k} is =
      let u = drop read text in
      let ahead : k ≡ prefix_len is_ascii_whitespace u =
      is ∙ ap (prefix_len is_ascii_whitespace) (take_rest text read) in
      let spaces = spaces_only (take k u)
      (ap (λ n. list_all is_ascii_whitespace (take n u)) ahead ∙ prefix_passes is_ascii_whitespace u) in
      record {
        within = omega (arith, ahead, prefix_len-le-length is_ascii_whitespace u, length-drop read text, r.within);
        spaced = cc (
          take-add read k text,
          list_all-append is_symbol_or_space (take read text) (take k u),
          r.spaced,
          spaces.1,
        );
        in_row = r.in_row;
        before = r.before;
        whole = r.whole;
        symbols_are = cc (
          take-add read k text,
          filter-append is_symbol (take read text) (take k u),
          spaces.0,
          append-nil (filter is_symbol (take read text)),
          r.symbols_are,
        );
        bytes_are = r.bytes_are;
      }

  -- the row goes on with the symbols that follow
  pub rows_joined : {row' : List ℕ} {count' : ℕ}
      → row' ≡ take count row ++ take (16 - count) (drop read text ++ replicate 16 0)
      → count' ≡ prefix_len is_symbol row' → Rows q text row' bytes (read + (count' - count)) count' × (count ≤ count')
  rows_joined {row'} {count'} is ahead =
      let n = count' - count in
      let u = drop read text in
      let sized = length-take-le count row (omega (arith, few, long)) in
      let j : Joins is_symbol (take count row) u row' n =
      rw ahead (joins is_symbol (take count row) u row' count refl sized few r.in_row
      is) in
      let symbols : take count' row' ≡ take count row ++ take n u = ap (λ k. take k row') (ahead ∙ j.count) ∙ j.same in
      let alone = (and_parts (list_all is_symbol (take count row)) (list_all is_symbol (take n u))
      (sym (list_all-append is_symbol (take count row) (take n u)) ∙ j.all)).1 in (
        record {
          within = omega (arith, r.within, j.within, length-drop read text);
          spaced = cc (
            take-add read n text,
            list_all-append is_symbol_or_space (take read text) (take n u),
            r.spaced,
            symbols_alone (take n u) alone,
          );
          in_row = ap (list_all is_symbol) symbols ∙ j.all;
          before = r.before;
          whole = r.whole;
          symbols_are = cc (
            take-add read n text,
            filter-append is_symbol (take read text) (take n u),
            filter_all is_symbol (take n u) (every_list_all (take n u) alone),
            append_assoc q (filter is_symbol (take read text)) (take n u),
            r.symbols_are,
            append_assoc r.before (take count row) (take n u),
            symbols,
          );
          bytes_are = r.bytes_are;
        },
        omega (arith, ahead, j.count, sized),
      )

-- a whole row is decoded, and then no symbols are in the row
pub rows_whole : {q text row bytes more : List ℕ} {read count : ℕ} (decoded : List ℕ)
    → Rows q text row bytes read count → count ≡ 16 → length row ≡ 16 → DecodesFront row decoded
    → more ≡ bytes ++ take 12 decoded → Rows q text row more read 0
rows_whole {q} {text} {row} {bytes} {more} {read} decoded r full long decodes is =
    let r16 : Rows q text row bytes read 16 = rw full at r in
    record {
      within = r.within;
      spaced = r.spaced;
      in_row = refl;
      before = q ++ filter is_symbol (take read text);
      whole = omega (
        arith,
        ap length r16.symbols_are,
        length-append r16.before (take 16 row),
        length-take-le 16 row (omega (arith, long)),
        r16.whole,
      );
      symbols_are = sym (append-nil (q ++ filter is_symbol (take read text)));
      bytes_are = rows_bytes r16 long (omega arith) decoded decodes is;
    }

module _ {F : Type 0} (d d' : State F) (text row bytes : List ℕ) (read count : ℕ)
    (r : Rows d.symbols text row bytes read count) (long : length row ≡ 16) (few : count ≤ 16)
    (s : IsSound d.symbols d.padding) (none : d.padding ≡ 0) (closure : d'.closure ≡ d.closure)
    (left : d'.symbols ≡ drop (count / 4 * 4) (take count row)) (padding : d'.padding ≡ 0)
    (going : d'.failed ≡ false) {more : List ℕ} (decoded : List ℕ) (decodes : DecodesFront row decoded)
    (is : more ≡ bytes ++ take (count / 4 * 3) decoded) where
  -- the symbols and the white space are read
  pub completes_rows : Completes d (take read text) more d'
  completes_rows =
      completes_spaced (take read text) (filter is_symbol (take read text)) s none r.spaced refl
      (rows_bytes r long few decoded decodes is) closure (left ∙ rows_left r long few) padding going

  -- their bytes are held after others
  pub gains_rows : {held held' : List ℕ} → 1 ≤ read → held' ≡ held ++ more → Gains d held text read d' held'
  gains_rows some same = record {
    some = some;
    within = r.within;
    more = more;
    completes = completes_rows;
    held_are = same;
  }

-- symbols that are left over, in the row that a list begins with, and those that are packed after them
pub packed_after : (left start packed rest : List ℕ) (p n : ℕ) {k : List ℕ} → p ≤ 16 → length left ≡ 16
    → take 16 start ≡ left → n ≤ length packed → k ≡ take n packed
    → (take (p + n) (take p start ++ (packed ++ rest)) ≡ take p left ++ k)
    × (p + n ≤ length (take p start ++ (packed ++ rest)))
packed_after left start packed rest p n few size is within are =
    let front : take p start ≡ take p left = sym (take-take p 16 start few) ∙ ap (take p) is in
    let long : p ≤ length start = omega (arith, few, size, ap length is, length-take 16 start) in (
      part_taken start packed rest p n long within ∙ cc (front, are),
      omega (
        arith,
        within,
        length-take-le p start long,
        length-append (take p start) (packed ++ rest),
        length-append packed rest,
      ),
    )

module _ (symbols row : List ℕ) (count : ℕ) (is : row ≡ take 16 (drop (count / 4 * 4) symbols)) where
  -- the symbols after whole groups, in a row
  pub left_in_row : take (count % 4) row ≡ drop (count / 4 * 4) (take count symbols)
  left_in_row = cc (
    is,
    take-take (count % 4) 16 (drop (count / 4 * 4) symbols) (omega arith),
    after_fours symbols count,
  )

module _ {F : Type 0} (d d' : State F) (text symbols row old new : List ℕ) (n read count : ℕ)
    (are : (take count symbols ≡ d.symbols ++ filter is_symbol (take read text)) × (count ≤ length symbols))
    (spaced : list_all is_symbol_or_space (take read text) ≡ true)
    (decodes : (m : ℕ) → 4 * m ≤ count → list_all is_symbol (take (4 * m) symbols) ≡ true
    → take (n + 3 * m) new ≡ take n old ++ groups (map symbol_value (take (4 * m) symbols)))
    (is : row ≡ take 16 (drop (count / 4 * 4) symbols)) (s : IsSound d.symbols d.padding) where
  all_symbols : list_all is_symbol (take count symbols) ≡ true
  all_symbols =
      let k = filter is_symbol (take read text) in
      let left : list_all is_symbol d.symbols ≡ true =
      ap (list_all is_symbol) (sym (filter_all is_symbol d.symbols s.every)) ∙ symbols_kept d.symbols in
      cc (are.0, list_all-append is_symbol d.symbols k, left, symbols_kept (take read text))

  -- the symbols after whole groups are kept
  pub row_symbols_left : list_all is_symbol (take (count % 4) row) ≡ true
  row_symbols_left =
      ap (list_all is_symbol) (left_in_row symbols row count is) ∙ left_are_symbols symbols count all_symbols

  -- symbols and white space are read, and the bytes of their groups are held after others
  pub gains_spaced : 1 ≤ read → read ≤ length text → d.padding ≡ 0 → d'.closure ≡ d.closure
      → d'.symbols ≡ drop (count % 4 / 4 * 4) (take (count % 4) row) → d'.padding ≡ 0 → d'.failed ≡ false
      → Gains d (take n old) text read d' (take (n + count / 4 * 3) new)
  gains_spaced some within none closure left padding going =
      let k = filter is_symbol (take read text) in
      let none_cut : count % 4 / 4 * 4 ≡ 0 = omega arith in
      let four : 4 * (count / 4) ≡ count / 4 * 4 = omega arith in
      let three : n + 3 * (count / 4) ≡ n + count / 4 * 3 = omega arith in
      let all = rw (sym four) at (cut_symbols symbols count all_symbols).0 in
      let bytes : take (n + count / 4 * 3) new
      ≡ take n old ++ groups (map symbol_value (take (count / 4 * 4) symbols)) =
      rw (four, three) at (decodes (count / 4) (omega arith) all) in
      record {
        some = some;
        within = within;
        more = groups (map symbol_value (d.symbols ++ k));
        completes = completes_spaced (take read text) k s none spaced refl refl closure (left ∙ cc (
          none_cut,
          left_in_row symbols row count is,
          after_is (take count symbols),
          length-take-le count symbols are.1,
          are.0,
        )) padding going;
        held_are = cc (bytes, groups_cut symbols count are.1, are.0);
      }
