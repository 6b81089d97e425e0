-- The suffix `;base64` of a header, and its serialised path and query. For `header.rt`.
use Rattle.std.proofs.{lemmas.Grind.{common_steps}, Common.{None, Some, ap, ◌∙◌, arith, suc, Bool, false, ◌++◌}}
use Rattle.std.proofs.Common.{length-append, reverse, Option, get_or-drop, append-nil, take-append-drop, is_some, refl}
use Rattle.std.proofs.Common.{append_assoc, ◌⊎◌, true, sym, inl, inr, eqb-true, zero, option_and_then, ◌==◌}
use Rattle.std.proofs.Common.{length-take, get_or-take, length-drop, length-take-le, take-take, ◌≡◌, ◌≢◌, ℕ, ◌+◌, ◌-◌}
use Rattle.std.proofs.Common.{◌<◌, ◌≤◌, List, [], ◌∷◌, length, get_or, take, drop, map, codes}
use Rattle.std.proofs.{Math.Seq.{drop-append-add, take-append-add}, lemmas.Bool.{cases_lt, ne_eqb, cases_Bool}}
use Rattle.std.proofs.lemmas.{Bool.{not-true, not-false}, List.Folds.{prefix_len-append}, Slice.Eq.{bytes_eq-Decides}}
use Rattle.std.proofs.lemmas.List.Sums.{prefix_len_passes, prefix_len_stops, suffix_len-le-length, prefix_len-drop_no}
use Rattle.std.proofs.lemmas.List.{length-map, drop_all, drop_more, drop-append-le, Sums.{prefix_len-le-length}}
use Rattle.std.proofs.lemmas.List.{get_or_at, get_or-map, reverse-append, take_rest, get_or-reverse, length-reverse}
use Rattle.std.specs.{Option.{option_map}, Str.{bytes_eq}, Char.{to_ascii_lowercase}, List.{suffix_len, prefix_len}}
use Rattle.data_url.specs.Steps.Header.{header_text, is_no_question_mark, IsPrintable, HasNoLastSpace, IsPathAndQuery}
use Rattle.data_url.specs.{Steps.Header.{WithoutSpace, encoded_parts}, Fetch.{before_base64, before_semicolon}}
use Rattle.data_url.specs.Fetch.{is_space, before_word, has_base64_suffix, stripped_header, before_comma}
use Rattle.data_url.specs.{Steps.Parsing.{DoesNotEnd}, Url.{encoded_byte, encoded_path, in_path_set, in_query_set}}
use Rattle.data_url.specs.Url.{is_tab_or_newline, is_c0_control_or_space, without_end, before, after}
use Rattle.data_url.specs.Url.{without_tabs_and_newlines, percent_encoding, after_scheme, cleaned_text, serialised}
use Rattle.data_url.specs.Url.{trimmed_text, with_query}
use Rattle.data_url.proofs.{facts.Definitions.{base64_flag, serialised_with_spaces}, split.Cuts.{cut_at}}
use Rattle.data_url.proofs.{header.Stages.{low_end, printable_take}, percent.Encoding.{encoded, encoded_cons}}
use Rattle.data_url.proofs.{percent.Encoding.{encoded_nil, path_cons, path_nil}, texts.Bytes.{before_all, before_at}}
use Rattle.data_url.proofs.texts.Bytes.{after-dropped_none, after_at, after_none, dropped_around, before_other}
use Rattle.data_url.proofs.texts.Bytes.{after_other, is_cut, dropped_keeps, dropped_nil, dropped_passes, before-append}
use Rattle.data_url.proofs.texts.Bytes.{after-append}

-- the word of the suffix
abbrev pub word : List ℕ
word = codes "base64"

-- the last n bytes, and the bytes before them
abbrev last_bytes : ℕ → List ℕ → List ℕ
last_bytes n s = drop (length s - n) s

-- the bytes before the last n bytes
abbrev before_last : ℕ → List ℕ → List ℕ
before_last n s = take (length s - n) s

-- a text whose last six bytes are not "base64", in any ASCII case, has no base64 suffix
pub no_word : (s : List ℕ) → (map to_ascii_lowercase (last_bytes 6 s) ≡ word → ⊥) → before_base64 s ≡ None
unfolding before_base64
no_word s h = grind (arith, bytes_eq-Decides)

-- the word is at the end, and there are that many spaces before it
pub record HasWord (s : List ℕ) (n spaces : ℕ) : Type 0 where
  pub six : n + 6 ≡ length s
  pub is : map to_ascii_lowercase (drop n s) ≡ word
  pub spaces_are : spaces ≡ suffix_len is_c0_control_or_space (take n s)

-- a text that is cut before its last six bytes, which are the word, has the word
pub has_word : (s front w : List ℕ) (spaces : ℕ) → front ≡ take (length s - 6) s → w ≡ drop (length s - 6) s
    → length front + 6 ≡ length s → bytes_eq (map to_ascii_lowercase w) word ≡ true
    → spaces ≡ suffix_len is_c0_control_or_space front → HasWord s (length front) spaces
has_word s front w spaces f g six is e =
    let size : length s - 6 ≡ length front = omega (arith, six) in
    record {
      six = six;
      is = grind (arith, bytes_eq-Decides);
      spaces_are = grind arith;
    }

-- the text before the spaces
after_word : (s : List ℕ) (n spaces : ℕ) → IsPrintable s → HasWord s n spaces
    → before_base64 s ≡ before_semicolon (take (n - spaces) s)
unfolding before_base64
after_word s n spaces p h = grind (arith, length-take-le, low_end, printable_take, take-take)

-- if there is nothing before the spaces and the word, there is no base64 suffix
pub nothing_left : (s : List ℕ) (n spaces : ℕ) → IsPrintable s → HasWord s n spaces → n - spaces ≡ 0
    → before_base64 s ≡ None
nothing_left s n spaces p h e = after_word s n spaces p h ∙ ap (λ m. before_semicolon (take m s)) e

-- the last of n + 1 bytes
last_one : (s : List ℕ) (n : ℕ) → n < length s → last_bytes 1 (take (n + 1) s) ≡ get_or s n 0 ∷ []
last_one s n l = grind (arith, length-take-le, drop_all, drop_more, get_or-take)

-- the bytes before the last of n + 1 bytes are the first n bytes
before_one : (s : List ℕ) (n : ℕ) → n < length s → before_last 1 (take (n + 1) s) ≡ take n s
before_one s n l = grind (arith, length-take-le, take-take)

-- if the byte before the spaces and the word is not ';', there is no base64 suffix
pub no_semicolon : (s : List ℕ) (n spaces m : ℕ) → IsPrintable s → HasWord s n spaces → n - spaces ≡ m + 1
    → get_or s m 0 ≢ 59 → before_base64 s ≡ None
no_semicolon s n spaces m p h e ne = grind (arith, last_one, after_word s n spaces p h, bytes_eq-Decides)

-- if the byte before the spaces and the word is a ';' at index m, the text before the suffix is the first m bytes
pub with_semicolon : (s : List ℕ) (n spaces m : ℕ) → IsPrintable s → HasWord s n spaces → n - spaces ≡ m + 1
    → get_or s m 0 ≡ 59 → before_base64 s ≡ Some (take m s)
with_semicolon s n spaces m p h e is =
    let one = last_one s m (omega (arith, h.six)) in
    let front = before_one s m (omega (arith, h.six)) in grind (arith, after_word s n spaces p h, bytes_eq-Decides)

-- if b does not pass, the longest suffix of x ++ b ∷ q that passes is as long as that of q
pub suffix_stop : (p : ℕ → Bool) (x q : List ℕ) (b : ℕ) → p b ≡ false → suffix_len p (x ++ b ∷ q) ≡ suffix_len p q
suffix_stop p x q b f = grind (arith, common_steps, prefix_len-drop_no, reverse-append, append_assoc, prefix_len-append)

-- removing spaces at the end of a text with a '?' removes them only after that '?'
end_after : (x q : List ℕ) → without_end is_space (x ++ 63 ∷ q) ≡ x ++ 63 ∷ without_end is_space q
end_after x q =
    let n = suc (length q - suffix_len is_space q) in
    grind (arith, suffix_stop, suffix_len-le-length is_space q, length-append, take-append-add x (63 ∷ q) n)

-- if q has at least n bytes, the last n bytes of y ++ q are those of q
pub last_after : (y q : List ℕ) (n : ℕ) → n ≤ length q → last_bytes n (y ++ q) ≡ last_bytes n q
last_after y q n l = grind (arith, length-append, drop-append-add)

-- if q has at least n bytes, the bytes before the last n of y ++ q are y and the bytes before the last n of q
pub before_last_after : (y q : List ℕ) (n : ℕ) → n ≤ length q → before_last n (y ++ q) ≡ y ++ before_last n q
before_last_after y q n l = grind (arith, length-append y q, take-append-add y q (length q - n))

-- if q has at least six bytes, what is before a final "base64" of y ++ q is y and what is before that of q
word_after : (y q : List ℕ) → 6 ≤ length q → before_word (y ++ q) ≡ option_map (λ m. y ++ m) (before_word q)
word_after y q l = grind (arith, last_after, before_last_after)

-- a text with fewer than six bytes after a '?' has no base64 suffix
too_near : (x q : List ℕ) → length q < 6 → before_base64 (x ++ 63 ∷ q) ≡ None
too_near x q l = no_word (x ++ 63 ∷ q) (λ e.
    let s = x ++ 63 ∷ q in
    let n = length s - 6 in
    let place = length x - n in
    let size = length-append x (63 ∷ q) in
    let here : get_or (drop n s) place 0 ≡ 63 =
    grind (arith, get_or-drop n s place 0, get_or_at x 63 q 0 (length x) refl) in
    let within : place < length (drop n s) = omega (arith, length-drop n s) in
    let mark : get_or word place 0 ≡ 63 = cc (get_or-map to_ascii_lowercase (drop n s) place 0 0 within) in
    grind arith)

-- what the suffix depends on
abbrev after_char : Option (List ℕ) → Bool
after_char None = false
after_char (Some m) = bytes_eq (last_bytes 1 (63 ∷ without_end is_space m)) (codes ";")

-- if "base64" comes after a '?', whether there is a suffix does not depend on what is before the '?'
by_word : (x : List ℕ) (o : Option (List ℕ)) → is_some (option_and_then (λ m. before_semicolon (without_end is_space m))
    (option_map (λ m. (x ++ 63 ∷ []) ++ m) o)) ≡ after_char o
by_word x None = refl
by_word x (Some m) = grind (arith, append_assoc, end_after, last_after)

-- if at least six bytes follow a '?', whether there is a base64 suffix depends only on these bytes
suffix_after : (x q : List ℕ) → 6 ≤ length q → is_some (before_base64 (x ++ 63 ∷ q)) ≡ after_char (before_word q)
unfolding before_base64
suffix_after x q l = cc (append_assoc x (63 ∷ []) q, word_after (x ++ 63 ∷ []) q l, by_word x (before_word q))

-- the flag does not depend on the text before the '?'
pub same_flag : (a b query : List ℕ) → has_base64_suffix (a ++ 63 ∷ query) ≡ has_base64_suffix (b ++ 63 ∷ query)
unfolding has_base64_suffix stripped_header
same_flag a b query =
    grind (arith, drop-append-le, prefix_len-append, prefix_len-le-length, end_after, too_near, suffix_after)

-- the text before a word at the end
pub ruleset words = (no_word, take_rest, nothing_left, no_semicolon, with_semicolon)

-- the lemmas for `without_suffix`
pub ruleset suffixes = (words, length-map, length-take, suffix_len-le-length, printable_take)

-- the first byte of a path is encoded with the set of a path if another byte follows it
path_more : (b : ℕ) (s : List ℕ) (c : ℕ) → encoded_path (b ∷ (s ++ c ∷ [])) ≡ encoded_byte in_path_set b ++ encoded_path
    (s ++ c ∷ [])
path_more b [] c = path_cons b (c ∷ [])
path_more b (d ∷ s) c = path_cons b (d ∷ (s ++ c ∷ []))

-- if a path ends with a space, this space is encoded as "%20", and the bytes before it with the path's set
pub path_space : (s : List ℕ) → encoded_path (s ++ 32 ∷ []) ≡ percent_encoding in_path_set s ++ codes "%20"
path_space [] = grind (arith, path_cons, path_nil, append-nil, encoded_nil)
path_space (b ∷ s) = grind (arith, path_more, path_space s, encoded_cons)

-- a path that ends with another byte is encoded with the path's set
pub path_other : (s : List ℕ) (c : ℕ) → (c == 32) ≡ false → encoded_path (s ++ c ∷ []) ≡ percent_encoding in_path_set
    (s ++ c ∷ [])
path_other [] c e = grind (arith, path_cons, path_nil, append-nil, encoded_nil, encoded_cons)
path_other (b ∷ s) c e = grind (arith, path_more, path_other s c e, encoded_cons)

-- only tabs and newlines
all_dropped : (s : List ℕ) → ((k : ℕ) → k < length s → is_tab_or_newline (get_or s k 0) ≡ true)
    → without_tabs_and_newlines s ≡ []
all_dropped [] h = dropped_nil
all_dropped (b ∷ s) h = dropped_passes b s (h 0 (omega arith)) ∙ all_dropped s (λ k l. h (suc k) (omega arith))

-- each byte of the longest suffix that passes does pass
pub suffix_passes : (p : ℕ → Bool) (s : List ℕ) (m k : ℕ) → m ≡ suffix_len p s → length s ≤ k + m → k < length s
    → p (get_or s k 0) ≡ true
suffix_passes p s m k e far l =
    let j = length s - 1 - k in
    grind (arith, get_or-reverse s j 0, prefix_len_passes p (reverse s) j 0, length-reverse s)

-- the byte before the longest suffix that passes does not pass
pub suffix_stops : (p : ℕ → Bool) (s : List ℕ) (m n : ℕ) → m ≡ suffix_len p s → length s ≡ (n + 1) + m
    → p (get_or s n 0) ≡ false
suffix_stops p s m n e at = grind (arith, get_or-reverse s m 0, prefix_len_stops p (reverse s) 0, length-reverse s)

-- if only tabs and newlines follow byte n, the text without these is the first n bytes without these, and byte n
pub dropped_end : (s : List ℕ) (m n : ℕ) → m ≡ suffix_len is_tab_or_newline s → length s ≡ (n + 1) + m
    → without_tabs_and_newlines s ≡ without_tabs_and_newlines (take n s) ++ get_or s n 0 ∷ []
dropped_end s m n e at =
    let none : without_tabs_and_newlines (drop (n + 1) s) ≡ [] =
    grind (arith, all_dropped, get_or-drop, suffix_passes, length-drop) in
    let stops = suffix_stops is_tab_or_newline s m n e at in
    cc (cut_at s n (omega arith), dropped_around (get_or s n 0) stops (take n s) (drop (n + 1) s))

-- if the last byte of a path that is not a tab or newline is not a space, the path has no last space
pub has_other_end : (s : List ℕ) (m n : ℕ) → m ≡ suffix_len is_tab_or_newline s → length s ≡ (n + 1) + m
    → get_or s n 0 ≢ 32 → HasNoLastSpace s
has_other_end s m n e at other =
    rw (dropped_end s m n e at) (path_other _ (get_or s n 0) (ne_eqb (get_or s n 0) 32 other))

-- a path of only tabs and newlines has no last space
pub has_no_end : (s : List ℕ) (m : ℕ) → m ≡ suffix_len is_tab_or_newline s → length s ≤ m → HasNoLastSpace s
has_no_end s m e all = grind (arith, all_dropped, suffix_passes, path_nil, encoded_nil)

-- with one
header_and_query : (path rest : List ℕ) → after 63 path ≡ None
    → header_text (without_tabs_and_newlines (path ++ 63 ∷ rest)) ≡ encoded_path
    (without_tabs_and_newlines path) ++ percent_encoding in_query_set (without_tabs_and_newlines (63 ∷ rest))
unfolding header_text
header_and_query path rest h =
    grind (arith, after-dropped_none, dropped_keeps, dropped_around, encoded_cons, before_at, after_at)

-- if the path has no last space, or there is no query, the encoded path and query are the serialised header
pub parts_whole : (header path query : List ℕ) → IsPathAndQuery header path query → (query ≡ []) ⊎ HasNoLastSpace path
    → encoded_parts path [] query ≡ header_text (without_tabs_and_newlines header)
unfolding header_text
parts_whole header path query h end =
    grind (arith, dropped_nil, encoded_nil, after-dropped_none, before_all, append-nil, header_and_query)

-- if a query follows a last space, the path without it, encoded, "%20", and the encoded query are the header
pub parts_spaced : (header path front query : List ℕ) → IsPathAndQuery header path query → query ≢ []
    → WithoutSpace path front → encoded_parts front (codes "%20") query ≡ header_text (without_tabs_and_newlines header)
parts_spaced header path front query h there w = grind (arith, append_assoc, path_space, header_and_query)

-- the bytes before the first '?' of a text are its path, and the rest is its query
pub cut_at_query : (text : List ℕ) (n : ℕ) → n ≡ prefix_len is_no_question_mark text
    → IsPathAndQuery text (take n text) (drop n text)
cut_at_query text n e = record {
  joined = sym (take-append-drop n text);
  path_ends = grind (arith, after_none, length-take, get_or-take, not-true, prefix_len_passes);
  query_begins = elim (cases_lt n (length text)) [
    | inl l ↦
        let stops = prefix_len_stops is_no_question_mark text 0 (omega arith) in
        let is : get_or text n 0 ≡ 63 = eqb-true (get_or text n 0) 63 (not-false _ (rw e stops)) in
        inr (drop (n + 1) text, cc (drop_more text n 0 l))
    | inr l ↦ inl (drop_all n text l)
  ];
}

-- a text does not end with a code point that passes if its last code point does not pass
ends_from : (p : ℕ → Bool) (s : List ℕ) → (0 < length s → p (get_or s (length s - 1) 0) ≡ false) → DoesNotEnd p s
ends_from p [] h = tt
ends_from p (c ∷ []) h = h (omega arith)
ends_from p (c ∷ d ∷ s) h =
    let e : length (c ∷ d ∷ s) - 1 ≡ suc (length (d ∷ s) - 1) = omega arith in
    ends_from p (d ∷ s) (λ l. rw e at (h (omega arith)))

-- a text without its end of C0 controls and spaces does not end with one
pub ends_trimmed : (s : List ℕ) → DoesNotEnd is_c0_control_or_space (without_end is_c0_control_or_space s)
ends_trimmed s = grind (arith, ends_from, suffix_len-le-length, length-take, suffix_stops, get_or-take)

-- a text that is not empty, and does not end with one, is neither empty nor ends with a space without tabs and newlines
ends_dropped : (c : ℕ) (s : List ℕ) → DoesNotEnd is_c0_control_or_space (c ∷ s)
    → DoesNotEnd is_space (without_tabs_and_newlines (c ∷ s)) × (without_tabs_and_newlines (c ∷ s) ≢ [])
ends_dropped c [] h = grind (arith, dropped_keeps, dropped_nil)
ends_dropped c (d ∷ s) h = grind (arith, cases_Bool, dropped_passes, dropped_keeps, ends_dropped d s h)

-- a text that does not end with a space does not without its first n bytes
ends_after : (n : ℕ) (s : List ℕ) → DoesNotEnd is_space s → DoesNotEnd is_space (drop n s)
ends_after zero s e = e
ends_after (suc n) [] e = tt
ends_after (suc n) (c ∷ []) e = ends_after n [] tt
ends_after (suc n) (c ∷ d ∷ s) e = ends_after n (d ∷ s) e

-- so is the empty text
ends_whole : (s : List ℕ) → DoesNotEnd is_c0_control_or_space s → DoesNotEnd is_space (without_tabs_and_newlines s)
ends_whole [] h = rw dropped_nil tt
ends_whole (c ∷ s) h = (ends_dropped c s h).0

-- what follows the scheme does not end with a space
pub no_last_space : (t a : List ℕ) → after_scheme t ≡ Some a → DoesNotEnd is_space a
unfolding after_scheme cleaned_text trimmed_text
no_last_space t a h = grind (arith, ends_after, ends_whole, ends_trimmed)

-- an encoded path is the same by both rules, or ends with "%20" by one and with a space by the other
data Differs (path : List ℕ) : Type 0 where
  same_path : encoded_path path ≡ percent_encoding in_path_set path → Differs path
  last_space : (x : List ℕ) → encoded_path path ≡ x ++ codes "%20" → percent_encoding in_path_set path ≡ x ++ codes " "
      → Differs path

-- each path is the same by both rules, except for a space at its end
differs_by : (path : List ℕ) → Differs path
differs_by [] = grind (arith, path_nil, encoded_nil)
differs_by (b ∷ []) = elim (cases_Bool (b == 32)) [
  | inl e ↦ rw (eqb-true b 32 e)
      (last_space [] (grind (arith, path_space [], encoded_nil)) (grind (arith, encoded_cons, encoded_nil)))
  | inr e ↦ same_path (path_other [] b e)
]
differs_by (b ∷ c ∷ s) = elim (differs_by (c ∷ s)) [
  | same_path e ↦ same_path (grind (arith, path_cons b (c ∷ s), encoded_cons, e))
  | last_space x e f ↦ last_space (encoded_byte in_path_set b ++ x)
      (grind (arith, path_cons b (c ∷ s), e, append_assoc)) (grind (arith, encoded_cons, f, append_assoc))
]

-- nothing after the first comma changes the header
comma_before : (x y rest : List ℕ) → after 44 x ≡ Some rest → before_comma (x ++ y) ≡ Some (before 44 x)
comma_before x y rest h = grind (arith, is_cut 44 x rest h, append_assoc, after_at, before_at)

-- if the text before a '?' has no comma, the flag does not depend on that text
flag_after : (u v query : List ℕ) → after 44 u ≡ None → after 44 v ≡ None → (o : Option (List ℕ)) → after 44 query ≡ o
    → base64_flag (u ++ 63 ∷ query) ≡ base64_flag (v ++ 63 ∷ query)
flag_after u v query h k None e = grind (arith, after-append, after_other)
flag_after u v query h k (Some rest) e = grind (arith, same_flag, after-append, before-append, before_other)

-- there is no comma in "%20", nor in a text of one space
no_comma : (after 44 (codes "%20") ≡ None) × (after 44 (codes " ") ≡ None)
unfolding after
no_comma = (refl, refl)

-- the flag of a path that ends with "%20" or with a space, before its query
flag_of_query : (x query : List ℕ) (o : Option (List ℕ)) → after 44 x ≡ o
    → base64_flag ((x ++ codes "%20") ++ 63 ∷ query) ≡ base64_flag ((x ++ codes " ") ++ 63 ∷ query)
flag_of_query x query None e = grind (arith, flag_after, after-append, no_comma)
flag_of_query x query (Some rest) e = grind (arith, append_assoc, comma_before)

-- the flag of such a path without a query
flag_of_path : (x : List ℕ) (o : Option (List ℕ)) → after 44 x ≡ o
    → base64_flag (x ++ codes "%20") ≡ base64_flag (x ++ codes " ")
flag_of_path x None e = grind (arith, after-append, no_comma)
flag_of_path x (Some rest) e = grind (arith, comma_before)

-- with any query, and without one, the flag does not depend on the rule by which the path is encoded
flag_by : (path : List ℕ) (o : Option (List ℕ)) → Differs path
    → base64_flag (with_query (encoded_path path) o) ≡ base64_flag (with_query (percent_encoding in_path_set path) o)
flag_by path None (same_path e) = ap base64_flag e
flag_by path (Some query) (same_path e) = grind arith
flag_by path None (last_space x e f) = grind (arith, flag_of_path)
flag_by path (Some query) (last_space x e f) = grind (arith, flag_of_query)

-- the flag is the same by both rules
pub flag_of_spaces : (s : List ℕ) → base64_flag (serialised s) ≡ base64_flag (serialised_with_spaces s)
unfolding serialised
flag_of_spaces s = flag_by (before 63 s) (after 63 s) (differs_by (before 63 s))

-- the lemmas for `split_last_space`
pub ruleset last_spaces = (parts_whole, parts_spaced, has_no_end, has_other_end, dropped_end, suffix_len-le-length)

-- the lemmas for `serialised`
pub ruleset serialising = (encoded, append_assoc, cut_at_query, prefix_len-le-length)
