-- The scheme, and the first comma of a text. For `after_scheme` and `split_at_comma`.
use Rattle.std.proofs.{lemmas.Grind.{common_steps}, Common.{None, ◌⊎◌, eqb-true, append-nil, [], get_or-take}}
use Rattle.std.proofs.Common.{◌≤◌, sym}
use Rattle.std.proofs.Common.{length-take, codes, refl, ap, ◌∙◌, arith, ◌-◌, ◌≡◌, ◌≢◌, ℕ, ◌+◌, ◌<◌, true, false, List}
use Rattle.std.proofs.Common.{◌∷◌, ◌++◌, length, get_or, take, drop, take-append-drop, take_all, map, nat_eq}
use Rattle.std.proofs.{Common.{length-append}, lemmas.{Bool.{or_parts}, List.Sums.{prefix_len_passes}}}
use Rattle.std.proofs.lemmas.List.{get_or_at, take_more, length-map, Sums.{prefix_len-le-length, prefix_len_stops}}
use Rattle.std.proofs.lemmas.List.{map-append, take-append-le, take-map, drop_more, take_rest}
use Rattle.std.proofs.lemmas.{Slice.Eq.{bytes_eq-Decides, starts_is}, Str.{IsCharBoundary-after_ascii}}
use Rattle.std.proofs.lemmas.Str.{IsCharBoundary-from_take, IsUtf8-from_ascii}
use Rattle.std.proofs.lemmas.List.Folds.{list_all_at}
use Rattle.std.specs.{Char.{to_ascii_lowercase}, Str.{IsCharBoundary, IsUtf8}}
use Rattle.std.specs.List.{list_all, prefix_len, starts_with}
use Rattle.data_url.specs.{Mime.{Every}, Steps.Split.{HasNoScheme, IsSchemeAndRest, IsHeaderAndTail, in_header}}
use Rattle.data_url.specs.{Steps.{Split.{is_unencoded_path}, Header.{header_text}}, Url.{without_tabs_and_newlines}}
use Rattle.data_url.specs.Url.{is_tab_or_newline, after, front}
use Rattle.data_url.proofs.percent.Encoding.{kept_whole, ascii_all, StaysUnencoded}
use Rattle.data_url.proofs.{texts.Bytes.{before_at, after_none}}
use Rattle.data_url.proofs.texts.Bytes.{after_nil, after_other, after-dropped_none, without_tabs_and_newlines-append}
use Rattle.data_url.proofs.texts.Bytes.{dropped_around, dropped_keeps, dropped_nil, dropped_passes, before_all}
use Rattle.data_url.proofs.texts.CodePoints.{front_further, front_passes}

-- the scheme, in lower case
abbrev scheme : List ℕ
scheme = codes "data:"

-- a text is its first n bytes, the byte at index n, and the bytes after it
pub cut_at : (s : List ℕ) (n : ℕ) → n < length s → s ≡ take n s ++ get_or s n 0 ∷ drop (n + 1) s
cut_at s n l = grind (arith, take-append-drop, drop_more)

-- the text spells the first n bytes of the scheme, and not all of it
pub record Spells (s : List ℕ) (n : ℕ) : Type 0 where
  pub open_at : n < 5
  pub spelled : map to_ascii_lowercase (without_tabs_and_newlines s) ≡ take n scheme

-- a tab or newline does not change how many bytes of the scheme are spelled
pub spells_passed : (text : List ℕ) (place n : ℕ) → place < length text → Spells (take place text) n
    → is_tab_or_newline (get_or text place 0) ≡ true → Spells (take (place + 1) text) n
spells_passed text place n l h e =
    grind (arith, take_more text place 0, without_tabs_and_newlines-append, dropped_passes, dropped_nil, append-nil)

-- a byte that is, in lower case, the next one of the scheme is spelled
one_more : (text : List ℕ) (place n : ℕ) → place < length text → Spells (take place text) n
    → is_tab_or_newline (get_or text place 0) ≡ false
    → to_ascii_lowercase (get_or text place 0) ≡ get_or scheme n 0
    → map to_ascii_lowercase (without_tabs_and_newlines (take (place + 1) text)) ≡ take (n + 1) scheme
one_more text place n l h e same =
    grind (arith, common_steps, without_tabs_and_newlines-append, dropped_keeps, dropped_nil)

-- with that byte, one byte more of the scheme is spelled
pub spells_more : (text : List ℕ) (place n : ℕ) → place < length text → Spells (take place text) n
    → is_tab_or_newline (get_or text place 0) ≡ false
    → to_ascii_lowercase (get_or text place 0) ≡ get_or scheme n 0 → n + 1 ≢ 5
    → Spells (take (place + 1) text) (n + 1)
spells_more text place n l h e same ne = grind (arith, one_more)

-- if that byte is the last one of the scheme, the text has the scheme
pub spells_all : (text : List ℕ) (place n : ℕ) → place < length text → Spells (take place text) n
    → is_tab_or_newline (get_or text place 0) ≡ false
    → to_ascii_lowercase (get_or text place 0) ≡ get_or scheme n 0 → n + 1 ≡ 5
    → IsSchemeAndRest text (drop (place + 1) text)
spells_all text place n l h e same whole =
    grind (arith, take-append-drop (place + 1) text, one_more text place n l h e same)

-- a text that spells n bytes of the scheme has n bytes without its tabs and newlines
spelled_length : (s : List ℕ) (n : ℕ) → Spells s n → length (without_tabs_and_newlines s) ≡ n
spelled_length s n h = grind (arith, length-map, length-take)

-- a text that spells only a part of the scheme does not begin with the scheme
pub ends_early : (s : List ℕ) (n : ℕ) → Spells s n → HasNoScheme s
ends_early s n h = grind (arith, bytes_eq-Decides, length-map, length-take, spelled_length s n h)

-- if a byte follows that is neither a tab or newline nor the next byte of the scheme, the text does not begin with the
-- scheme
pub differs : (text : List ℕ) (place n : ℕ) → place < length text → Spells (take place text) n
    → is_tab_or_newline (get_or text place 0) ≡ false
    → to_ascii_lowercase (get_or text place 0) ≢ get_or scheme n 0 → HasNoScheme text
differs text place n l h e ne =
    let s = without_tabs_and_newlines (take place text) in
    let b = get_or text place 0 in
    let rest = without_tabs_and_newlines (drop (place + 1) text) in
    let low = map to_ascii_lowercase s in
    let all : without_tabs_and_newlines text ≡ s ++ b ∷ rest =
    ap without_tabs_and_newlines (cut_at text place l) ∙ dropped_around b e (take place text) (drop (place + 1) text) in
    let size = length-map s to_ascii_lowercase ∙ spelled_length (take place text) n h in
    let at = get_or_at low (to_ascii_lowercase b) (map to_ascii_lowercase rest) 0 n size in
    let there = get_or-take 5 (low ++ to_ascii_lowercase b ∷ map to_ascii_lowercase rest) n 0 h.open_at in
    let test = bytes_eq-Decides (map to_ascii_lowercase (take 5 (without_tabs_and_newlines text))) scheme in
    let lower = take-map to_ascii_lowercase 5 (without_tabs_and_newlines text) in
    grind (arith, map-append to_ascii_lowercase s (b ∷ rest))

-- the scheme stays as it is in lower case and without tabs and newlines
common_spelled : map to_ascii_lowercase (without_tabs_and_newlines scheme) ≡ scheme
unfolding without_tabs_and_newlines
common_spelled = refl

-- a UTF-8 text that begins with "data:" can be cut after it
pub common_boundary : (text : List ℕ) → IsUtf8 text → starts_with nat_eq text scheme ≡ true → IsCharBoundary text 5
common_boundary text u h =
    grind (arith, starts_is, take-append-le, length-append, IsCharBoundary-from_take, IsUtf8-from_ascii, ascii_all)

-- a text that begins with "data:" has the scheme, and its rest is the text from the sixth byte on
pub common_scheme : (text rest : List ℕ) → starts_with nat_eq text scheme ≡ true → rest ≡ drop 5 text
    → IsSchemeAndRest text rest
common_scheme text rest h e = grind (arith, common_spelled, starts_is)

-- at index n is the first ',' or '#' of the text
pub record IsHeaderEnd (s : List ℕ) (n : ℕ) : Type 0 where
  pub within : n < length s
  pub is : (get_or s n 0 ≡ 44) ⊎ (get_or s n 0 ≡ 35)
  pub no_comma : after 44 (take n s) ≡ None
  pub no_hash : after 35 (take n s) ≡ None

-- a text of bytes that are neither ',' nor '#' has neither
no_end : (s : List ℕ) → Every in_header s → (after 44 s ≡ None) × (after 35 s ≡ None)
no_end [] h = (after_nil 44, after_nil 35)
no_end (b ∷ s) h = grind (arith, or_parts, after_other, no_end s h.1)

-- if the first ',' or '#' of a text is a ',', the bytes before it are the header, and those after it are the tail
pub at_comma : (s : List ℕ) (n : ℕ) → IsHeaderEnd s n → get_or s n 0 ≢ 35
    → IsHeaderAndTail s (take n s) (drop (n + 1) s)
at_comma s n f ne = grind (arith, cut_at)

-- if the first ',' or '#' of a text is a '#', there is no ',' before the first '#'
pub at_hash : (s : List ℕ) (n : ℕ) → IsHeaderEnd s n → get_or s n 0 ≡ 35 → after 44 (front s) ≡ None
unfolding front
at_hash s n f h = cc (cut_at s n f.within, before_at 35 (take n s) (drop (n + 1) s) f.no_hash)

module _ (s items : List ℕ) (n k : ℕ) (e : items ≡ s) (f : n ≡ prefix_len is_unencoded_path items)
    (g : k ≡ prefix_len in_header (take (length items - n) (drop n items))) where
  -- the first ',' or '#' of the text, if there is one, is k bytes after the n unencoded bytes at the front
  end_at : n + k ≡ prefix_len in_header s
  end_at = grind (arith, take_rest, front_further, prefix_len_passes, prefix_len-le-length)

  -- if the text has so many bytes, the first ',' or '#' is at n + k
  pub header_end_at : n + k ≢ length s → IsHeaderEnd s (n + k)
  header_end_at ne =
      let lacks = no_end (take (prefix_len in_header s) s) (front_passes in_header s) in
      grind (arith, end_at, prefix_len-le-length in_header s, prefix_len_stops in_header s 0, eqb-true)

  -- otherwise, there is no ',' before the first '#' of the text
  pub no_header_end : n + k ≡ length s → after 44 (front s) ≡ None
  unfolding front
  no_header_end ends =
      let lacks = no_end (take (prefix_len in_header s) s) (front_passes in_header s) in
      grind (arith, end_at, take_all, before_all)

-- if the ',' follows directly after the unencoded bytes at the front, the header is serialised as it is
pub unencoded_before : (s items header : List ℕ) (n k : ℕ) → items ≡ s → n ≡ prefix_len is_unencoded_path items
    → ((i : ℕ) → get_or s i 0 < 256) → header ≡ take (n + k) s → n + k ≡ n
    → header_text (without_tabs_and_newlines header) ≡ header
unfolding header_text
unencoded_before s items header n k e f h is same =
    let unencoded : (k : ℕ) → k < n → StaysUnencoded (get_or s k 0) = λ k l. grind (arith, prefix_len_passes) in
    grind (arith, after-dropped_none, after_none, before_all, kept_whole, length-take, get_or-take)

-- if the ',' follows later, the header has another byte
pub other_before : (s items header : List ℕ) (n k : ℕ) → items ≡ s → n ≡ prefix_len is_unencoded_path items
    → n + k ≤ length s → header ≡ take (n + k) s → n + k ≢ n → list_all is_unencoded_path header ≡ false
other_before s items header n k e f l is ne =
    let first : n ≡ prefix_len is_unencoded_path s = f ∙ ap (prefix_len is_unencoded_path) e in
    let stops : is_unencoded_path (get_or s n 0) ≡ false =
    rw (sym first) at (prefix_len_stops is_unencoded_path s 0 (omega (arith, first, ne, l))) in
    rw is (list_all_at is_unencoded_path (take (n + k) s) n 0 (omega (arith, l, ne, length-take (n + k) s))
    (ap is_unencoded_path (get_or-take (n + k) s n 0 (omega (arith, ne))) ∙ stops))

-- one byte more of the scheme
pub ruleset steps = (spells_passed, spells_all, spells_more)

-- the lemmas for `after_respelled_scheme`
pub ruleset spelling = (steps, differs, ends_early, dropped_nil, take_all, IsCharBoundary-after_ascii)

-- the lemmas for `split_at_comma`
pub ruleset cuts_at = (no_header_end, at_hash, header_end_at, at_comma)

pub ruleset commas = (cuts_at, IsCharBoundary-after_ascii, eqb-true, unencoded_before, other_before)
