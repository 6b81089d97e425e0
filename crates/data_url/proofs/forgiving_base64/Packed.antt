-- Rows with gaps, and units of symbols with white space between them. For `gaps.rt`, `symbols_ahead`, `spaced_ahead`
-- and `decode_spaced_rows`.
use Rattle.std.proofs.Common.{Bool, List, not, replicate, ◌++◌, map, ◌≡◌, ℕ, ◌<◌}
use Rattle.std.proofs.Common.{◌≤◌, ◌+◌, ◌*◌, ◌-◌, ◌/◌, ◌%◌, ◌^◌, true, false, cond}
use Rattle.std.proofs.Common.{get_or, ⊎_elim, length-take-le, length, take, drop, ap, sym, ◌∙◌, arith, take-take}
use Rattle.std.proofs.Common.{take-append-drop, append_assoc, append-nil, take-add, take_at, suc, zero, refl, [], ◌∷◌}
use Rattle.std.{proofs.Math.Seq.{take-append-add}, proofs.lemmas.Bool.{and_parts, cases_lt}}
use Rattle.std.proofs.lemmas.List.{drop-replicate, length-map, map-append}
use Rattle.std.{proofs.lemmas.List.Elements.{filter-append}}
use Rattle.std.{proofs.lemmas.List.Filters.{length-filter_more}, proofs.lemmas.List.Folds.{list_all-append}}
use Rattle.std.{proofs.lemmas.Simd.{mask_l-lt}, specs.Int.Count.{count_trailing_zeros}, specs.List.{filter, list_all}}
use Rattle.std.{specs.List.{prefix_len}, specs.Simd.Lanes.{mask_l}}
use Rattle.data_url.specs.Base64.{groups, is_symbol, symbol_value}
use Rattle.data_url.specs.Steps.Groups.{AddsGroups, clear, is_symbol_or_space}
use Rattle.data_url.specs.Steps.Lanes.{DecodesFront}
use Rattle.data_url.proofs.{forgiving_base64.Groups.{put_keeps, symbols_kept}, forgiving_base64.Spaces.{clear_mask}}
use Rattle.data_url.proofs.forgiving_base64.Vectors.{groups_whole, others_mask}

-- Rows that are packed

-- zeros are no symbols
no_zeros : (n : ℕ) → filter is_symbol (replicate n 0) ≡ []
no_zeros zero = refl
no_zeros (suc n) = no_zeros n

-- the mask of a row has sixteen bits
pub row_mask_small : (p : ℕ → Bool) (v : List ℕ) {mask : ℕ} → length v ≡ 16 → mask ≡ mask_l (map p v) → mask < 65536
row_mask_small p v {mask} long is =
    let size : 2 ^ length (map p v) ≡ 65536 = ap (λ n. 2 ^ n) (length-map v p ∙ long) in
    omega (arith, is, size, mask_l-lt (map p v))

-- the first bytes of a row, with zeros in place of the others, have the symbols of these bytes
pub front_symbols_kept : (row front : List ℕ) (end : ℕ) {mask : ℕ} → front ≡ take end row ++ drop end (replicate 16 0)
    → mask ≡ others_mask front → clear front mask ≡ filter is_symbol (take end row)
front_symbols_kept row front end is mask =
    let zeros = ap (filter is_symbol) (drop-replicate end 16 0) ∙ no_zeros (16 - end) in
    let parts = filter-append is_symbol (take end row) (drop end (replicate 16 0)) in
    cc (mask, clear_mask front, is, parts, zeros, append-nil (filter is_symbol (take end row)))

-- the lowest bit of the mask of the items that do not pass a test is that of the first of them
pub first_other : (p : ℕ → Bool) (k : ℕ) (v : List ℕ) → length v ≡ k
    → count_trailing_zeros k (mask_l (map (λ b. not (p b)) v)) ≡ prefix_len p v
unfolding count_trailing_zeros
first_other p zero [] e = refl
first_other p zero (x ∷ v) e = absurd (omega arith)
first_other p (suc k) [] e = absurd (omega arith)
first_other p (suc k) (x ∷ v) e = grind (arith, first_other p k v)

-- the symbols of one row more are packed
pub row_symbols : (text old new v : List ℕ) (have at next : ℕ) {mask : ℕ} → filter is_symbol (take at text) ≡ take
    have old
    → v ≡ take 16 (drop at text) → mask ≡ others_mask v → take next new ≡ take have old ++ clear v mask
    → filter is_symbol (take (at + 16) text) ≡ take next new
row_symbols text old new v have at next before is mask packed =
    let parts = filter-append is_symbol (take at text) (take 16 (drop at text)) in
    cc (take-add at 16 text, parts, before, is, mask, clear_mask v, packed)

-- one row more has only symbols and white space
pub row_spaced : (text v : List ℕ) (at : ℕ) → list_all is_symbol_or_space (take at text) ≡ true
    → v ≡ take 16 (drop at text) → list_all is_symbol_or_space v ≡ true
    → list_all is_symbol_or_space (take (at + 16) text) ≡ true
row_spaced text v at before is all = cc (
  take-add at 16 text,
  list_all-append is_symbol_or_space (take at text) (take 16 (drop at text)),
  before,
  is,
  all,
)

-- The whole groups of what was packed

-- there is no symbol before the first byte
pub no_symbols : (text : List ℕ) {have : ℕ} (at : ℕ) → have ≡ length (filter is_symbol (take at text))
    → (have % 4 ≡ 0 → ⊥) → 1 ≤ at
no_symbols text zero is some = absurd (some (ap (λ n. n % 4) is))
no_symbols text (suc at) is some = omega arith

-- before the last byte there is one symbol fewer, or as many
pub symbols_back : (text : List ℕ) {have : ℕ} (at : ℕ) → 1 ≤ at → at ≤ length text
    → have ≡ length (filter is_symbol (take at text))
    → (is_symbol (get_or text (at - 1) 0) ≡ true → have - 1 ≡ length (filter is_symbol (take (at - 1) text)))
    × (is_symbol (get_or text (at - 1) 0) ≡ false → have ≡ length (filter is_symbol (take (at - 1) text)))
symbols_back text {have} at some within is =
    let more = length-filter_more is_symbol text (at - 1) 0 (omega (arith, some, within)) in
    let next : at - 1 + 1 ≡ at = omega (arith, some) in
    let all : have ≡ length (filter is_symbol (take (at - 1) text)) + cond (is_symbol (get_or text (at - 1) 0)) 1 0 =
    is ∙ ap (λ k. length (filter is_symbol (take k text))) (sym next) ∙ more in (
      λ e. omega (arith, all, ap {B = ℕ} (λ b. cond b 1 0) e),
      λ e. omega (arith, all, ap {B = ℕ} (λ b. cond b 1 0) e),
    )

-- the symbols before an earlier place are the first ones
pub symbols_before : (text symbols : List ℕ) (have at n to : ℕ) → filter is_symbol (take at text) ≡ take have symbols
    → to ≤ at → n ≤ have → n ≡ length (filter is_symbol (take to text)) → filter is_symbol (take to text) ≡ take n
    symbols
symbols_before text symbols have at n to all back few size =
    let front : take to (take at text) ≡ take to text = take-take to at text back in
    let parts = filter-append is_symbol (take to (take at text)) (drop to (take at text)) in
    let whole = take-append-drop to (take at text) in
    let cut = take_at (filter is_symbol (take to text)) (filter is_symbol (drop to (take at text))) n (sym size) in
    cc (front, parts, whole, cut, all, take-take n have symbols few)

-- Decoding

-- after n bytes of `old`, `new` has the bytes of the groups, up to k, of the symbols that a text begins with
abbrev pub Decodes : List ℕ → List ℕ → List ℕ → ℕ → ℕ → Type 0
Decodes symbols old new n k = (m : ℕ) → m ≤ k → list_all is_symbol (take (4 * m) symbols) ≡ true
    → take (n + 3 * m) new ≡ take n old ++ groups (map symbol_value (take (4 * m) symbols))

-- no groups
pub decodes_none : (symbols old : List ℕ) (n : ℕ) → Decodes symbols old old n 0
unfolding groups
decodes_none symbols old n zero few all =
    let same : n + 3 * 0 ≡ n = omega arith in ap (λ k. take k old) same ∙ sym (append-nil (take n old))
decodes_none symbols old n (suc m) few all = absurd (omega (arith, few))

-- the groups of a row of sixteen symbols more
decodes_row : (symbols old now new y : List ℕ) (n q m : ℕ) → n + 12 * q ≤ length now → 16 * q ≤ length symbols
    → Decodes symbols old now n (4 * q) → take (n + 12 * q + 16) new ≡ take (n + 12 * q) now ++ y
    → DecodesFront (take 16 (drop (16 * q) symbols)) y → 4 * q ≤ m → m ≤ 4 * (q + 1)
    → list_all is_symbol (take (4 * m) symbols) ≡ true
    → take (n + 3 * m) new ≡ take n old ++ groups (map symbol_value (take (4 * m) symbols))
decodes_row symbols old now new y n q m room long before put decodes more few all =
    let j = m - 4 * q in
    let front = take (16 * q) symbols in
    let rest = drop (16 * q) symbols in
    let j_few : j ≤ 4 = omega (arith, few) in
    let cut : 4 * m ≡ 16 * q + 4 * j = omega (arith, more) in
    let text : take (4 * m) symbols ≡ front ++ take (4 * j) rest =
    ap (λ k. take k symbols) cut ∙ take-add (16 * q) (4 * j) symbols in
    let each = and_parts (list_all is_symbol front) (list_all is_symbol (take (4 * j) rest))
    (sym (list_all-append is_symbol front (take (4 * j) rest)) ∙ sym (ap (list_all is_symbol) text) ∙ all) in
    let row : take (4 * j) (take 16 rest) ≡ take (4 * j) rest = take-take (4 * j) 16 rest (omega (arith, j_few)) in
    let mine : take (3 * j) y ≡ groups (map symbol_value (take (4 * j) rest)) =
    decodes j j_few (ap (list_all is_symbol) row ∙ each.1) ∙ ap (λ t. groups (map symbol_value t)) row in
    let sixteen : 4 * (4 * q) ≡ 16 * q = omega arith in
    let twelve : n + 3 * (4 * q) ≡ n + 12 * q = omega arith in
    let theirs : take (n + 12 * q) now ≡ take n old ++ groups (map symbol_value front) =
    sym (ap (λ k. take k now) twelve)
    ∙ before (4 * q) (omega arith) (ap (λ k. list_all is_symbol (take k symbols)) sixteen ∙ each.0)
    ∙ ap (λ k. take n old ++ groups (map symbol_value (take k symbols))) sixteen in
    let size : n + 3 * m ≡ length (take (n + 12 * q) now) + 3 * j =
    omega (arith, more, length-take-le (n + 12 * q) now room) in
    let whole = groups_whole (map symbol_value front) (map symbol_value (take (4 * j) rest))
    (omega (arith, length-map front symbol_value, length-take-le (16 * q) symbols long)) in
    cc (
      take-take (n + 3 * m) (n + 12 * q + 16) new (omega (arith, few)),
      put,
      size,
      take-append-add (take (n + 12 * q) now) y (3 * j),
      theirs,
      mine,
      append_assoc (take n old) (groups (map symbol_value front)) (groups (map symbol_value (take (4 * j) rest))),
      text,
      map-append symbol_value front (take (4 * j) rest),
      whole,
    )

-- one row more was decoded and put
pub decodes_more : (symbols old now new y : List ℕ) (n q : ℕ) → n + 12 * q ≤ length now → 16 * q ≤ length symbols
    → Decodes symbols old now n (4 * q) → take (n + 12 * q + 16) new ≡ take (n + 12 * q) now ++ y
    → DecodesFront (take 16 (drop (16 * q) symbols)) y → Decodes symbols old new n (4 * (q + 1))
decodes_more symbols old now new y n q room long before put decodes m few all =
    ⊎_elim
    (λ (l : m < 4 * q). let keeps = put_keeps now new y (n + 12 * q) room put in
    let fits : n + 3 * m ≤ n + 12 * q = omega (arith, l) in
    cc (
      take-take (n + 3 * m) (n + 12 * q) new fits,
      take-take (n + 3 * m) (n + 12 * q) now fits,
      keeps,
      before m (omega (arith, l)) all,
    ))
    (λ (l : 4 * q ≤ m). decodes_row symbols old now new y n q m room long before put decodes l few all)
    (cases_lt m (4 * q))

-- the groups of a unit are read
pub unit_adds : (text old new symbols : List ℕ) (n have taken : ℕ)
    → ((m : ℕ) → 4 * m ≤ have → list_all is_symbol (take (4 * m) symbols) ≡ true
    → take (n + 3 * m) new ≡ take n old ++ groups (map symbol_value (take (4 * m) symbols)))
    → have % 4 ≡ 0 → have ≤ length symbols → list_all is_symbol_or_space (take taken text) ≡ true
    → filter is_symbol (take taken text) ≡ take have symbols
    → AddsGroups (take n old) (take taken text) (take (n + have / 4 * 3) new)
unit_adds text old new symbols n have taken decodes whole long spaced are =
    let m = have / 4 in
    let four : 4 * m ≡ have = omega (arith, whole) in
    let three : n + m * 3 ≡ n + 3 * m = omega arith in
    let same : filter is_symbol (take taken text) ≡ take (4 * m) symbols = are ∙ ap (λ k. take k symbols) (sym four) in
    let each : list_all is_symbol (take (4 * m) symbols) ≡ true =
    ap (list_all is_symbol) (sym same) ∙ symbols_kept (take taken text) in
    record {
      whole = record {
        spaced = spaced;
        whole = omega (arith, ap length are, length-take-le have symbols long, whole);
      };
      held_are = ap (λ k. take k new) three ∙ decodes m (omega arith) each
          ∙ ap (λ t. take n old ++ groups (map symbol_value t)) (sym same);
    }
