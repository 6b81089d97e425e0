-- Texts of token code points, and quoted strings and their values. For `cuts.rt`, `values.rt` and `split_quote`.
use Rattle.std.proofs.{lemmas.Grind.{common_steps}, Common.{append_assoc, append-nil, eqb-true, inl, inr, zero, suc}}
use Rattle.std.proofs.Common.{get_or, encode_utf8_all, drop-drop, ◌⊎◌, ◌≢◌, refl, sym, ap, subst, Bool, ◌∙◌, arith}
use Rattle.std.proofs.Common.{take, drop, length-take-le, ◌+◌, cond, ◌++◌, take-append-drop, drop-cons, add-one}
use Rattle.std.proofs.Common.{drop_of_length-le, Some, nat_le, length-append, ◌-◌, ◌≡◌, ℕ, ◌<◌, ◌≤◌, ◌==◌, ◌&&◌, nat_lt}
use Rattle.std.proofs.Common.{codes, true, false, not, List, [], ◌∷◌, length, length-drop, one-add, take_all}
use Rattle.std.proofs.{Common.{slice_index, min, take-add, take-take}, lemmas.List.{take_rest, get_or-drop}}
use Rattle.std.proofs.{lemmas.Bool.{and_parts, and_from, cases_lt, eqb-false, not-false}, Math.Seq.{take-append_seam}}
use Rattle.std.proofs.Math.Seq.{take-length, drop-append-add, take-append-add}
use Rattle.std.proofs.lemmas.List.Sums.{prefix_len-le-length, prefix_len_passes, prefix_len_stops}
use Rattle.std.proofs.lemmas.Str.{chars-IsAscii, encodes-IsAscii, encodes-chars, chars-nil, chars_past_char}
use Rattle.std.proofs.lemmas.Str.{encode_ascii, IsUtf8-drop, IsCharBoundary-before_ascii, IsCharBoundary-after_ascii}
use Rattle.std.proofs.lemmas.Str.{chars-encodes, scalars-chars}
use Rattle.std.specs.{Str.{IsAscii, IsUtf8, chars}, List.{list_all, list_any, prefix_len, suffix_len}}
use Rattle.data_url.specs.{CodePoints.{is_http_whitespace, is_token}, Url.{without_start}, Mime.{Every, is_token_text}}
use Rattle.data_url.specs.Mime.{Quoted, QuotedOpen, after_backslash, nothing_quoted, as_itself}
use Rattle.data_url.specs.Steps.Parsing.{IsTokens, front_of, in_name, in_value, quoted_len, quoted_reading, unescaped}
use Rattle.data_url.specs.Steps.{Parsing.{Quoting, is_escaped}, Classes.{AreOf, may_be_outside}}
use Rattle.data_url.specs.declared.classes.TheConstants.{UNESCAPED}
use Rattle.data_url.proofs.texts.CodePoints.{IsCutInto, IsEnd, IsSteady, cut_end, cut_front, every_ascii, front_passes}
use Rattle.data_url.proofs.{texts.CodePoints.{cut_into, front_further}, classes.Rows.{Looked, unmarked_passes}}
use lib.Utf8.{encode, scalars}

-- a code point that is not ASCII is none of some ASCII marks
any_other : (c : ℕ) (marks : List ℕ) → list_all (λ m. nat_lt m 128) marks ≡ true → 128 ≤ c
    → list_any (λ m. m == c) marks ≡ false
any_other c [] h l = refl
any_other c (m ∷ marks) h l = grind (arith, any_other c marks)

-- no token code point is beyond ASCII
pub tokens_steady : IsSteady is_token
unfolding is_token
tokens_steady c l = grind (arith, any_other c (codes "!#$%&'*+-.^_`|~") refl l)

-- no HTTP whitespace is beyond ASCII
pub spaces_steady : IsSteady is_http_whitespace
spaces_steady c l = grind arith

-- all code points beyond ASCII can be in a name
pub names_steady : IsSteady in_name
names_steady c l = grind arith

-- all code points beyond ASCII can be in a value
pub values_steady : IsSteady in_value
values_steady c l = grind arith

-- a UTF-8 text can be cut before its longest suffix of HTTP whitespace
pub spaces_end : (bs : List ℕ) → IsUtf8 bs
    → IsEnd is_http_whitespace spaces_steady refl bs (length bs - suffix_len is_http_whitespace bs)
spaces_end = cut_end is_http_whitespace spaces_steady refl

-- a token code point is ASCII
pub token_below : (c : ℕ) → is_token c ≡ true → c < 128
unfolding is_token
token_below c h = grind (arith, tokens_steady c)

-- if `list_all p t` is true, each code point of t passes
pub every_from_all : (p : ℕ → Bool) (t : List ℕ) → list_all p t ≡ true → Every p t
every_from_all p [] h = tt
every_from_all p (c ∷ t) h = let e = and_parts (p c) (list_all p t) h in (e.0, every_from_all p t e.1)

-- if each code point of t passes, `list_all p t` is true
pub all_from_every : (p : ℕ → Bool) (t : List ℕ) → Every p t → list_all p t ≡ true
all_from_every p [] h = refl
all_from_every p (c ∷ t) h = and_from (p c) (list_all p t) h.0 (all_from_every p t h.1)

-- each code point of a token text is a token code point
pub every_token : (t : List ℕ) → is_token_text t ≡ true → Every is_token t
every_token [] h = tt
every_token (c ∷ t) h = every_from_all is_token (c ∷ t) h

-- a token text is ASCII
pub token_text_ascii : (t : List ℕ) → is_token_text t ≡ true → IsAscii t
unfolding is_token
token_text_ascii t h = every_ascii is_token tokens_steady refl t (every_token t h)

-- a text of ASCII code points is its bytes
pub bytes_of_ascii : (bs : List ℕ) → IsUtf8 bs → IsAscii (chars bs) → bs ≡ chars bs
bytes_of_ascii bs u h = sym (encodes-chars bs u) ∙ encodes-IsAscii (chars bs) h

-- a text is one of token code points exactly if its bytes are
pub token_text_chars : (bs : List ℕ) → IsUtf8 bs → is_token_text bs ≡ is_token_text (chars bs)
token_text_chars bs u = grind (arith, chars-IsAscii, token_text_ascii, bytes_of_ascii)

-- each item of a text passes exactly if its longest prefix that passes is the whole text
pub whole_front : (p : ℕ → Bool) (s : List ℕ) → list_all p s ≡ (prefix_len p s == length s)
whole_front p [] = refl
whole_front p (c ∷ s) = grind (arith, whole_front p s)

-- a text is a token text exactly if it is not empty and its longest prefix of token code points is the whole text
token_text_is : (t : List ℕ) → is_token_text t ≡ (not (length t == 0) && (prefix_len is_token t == length t))
token_text_is [] = refl
token_text_is (c ∷ t) = grind (arith, whole_front is_token (c ∷ t))

-- the same, if b says whether a UTF-8 text is empty, and n is the length of this prefix of its bytes
pub token_text_by : (text bs : List ℕ) (n : ℕ) (b : Bool) → IsUtf8 text → bs ≡ text → n ≡ prefix_len is_token bs
    → b ≡ (length text == 0) → is_token_text (chars text) ≡ (not b && (n == length text))
token_text_by text bs n b u e f g = grind (arith, token_text_chars text u, token_text_is text)

-- a text of token code points that is not empty is a token text
nonempty_tokens : (t : List ℕ) → Every is_token t → (t ≡ [] → ⊥) → is_token_text t ≡ true
nonempty_tokens [] h n = absurd (n refl)
nonempty_tokens (c ∷ t) h n = all_from_every is_token (c ∷ t) h

module _ (bs : List ℕ) (n : ℕ) (u : IsUtf8 bs) (e : n ≡ prefix_len is_token bs) where
  -- a UTF-8 text is split after its longest prefix of token code points, if that is not empty
  pub some_tokens : (n ≡ 0 → ⊥) → (front after : List ℕ) → front ≡ take n bs → after ≡ drop n bs
      → IsTokens (chars bs) (chars front) (chars after)
  some_tokens z front after f g =
      let cut = cut_front is_token tokens_steady bs u in
      let long : length (take n bs) ≡ n = length-take-le n bs (omega (arith, prefix_len-le-length is_token bs)) in
      let tokens = subst (λ k. Every is_token (take k bs)) (sym e) (front_passes is_token bs) in
      grind (arith, nonempty_tokens, chars-IsAscii, token_text_ascii)

-- the lemmas for texts of token code points
pub ruleset tokens = (tokens_steady, cut_front, chars-nil, token_text_by, some_tokens)

-- the first n items of a text pass exactly if its longest prefix that passes has n or more
front_all : (p : ℕ → Bool) (n : ℕ) (s : List ℕ) → n ≤ length s → list_all p (take n s) ≡ nat_le n (prefix_len p s)
front_all p zero s l = grind arith
front_all p (suc n) [] l = absurd (omega arith)
front_all p (suc n) (c ∷ s) l = grind (arith, front_all p n s)

module _ {text bytes : List ℕ} {tokens more : ℕ} (u : IsUtf8 text) (e : bytes ≡ text)
    (f : tokens ≡ prefix_len is_token bytes) (g : more ≡ prefix_len in_name (take (length bytes - tokens)
    (drop tokens bytes))) where
  -- the name is its longest prefix of token code points, and what follows up to the first ';' or '='
  name_length : tokens + more ≡ prefix_len in_name text
  unfolding is_token
  name_length =
      grind (arith, common_steps, token_below, prefix_len_passes, take_rest, front_further, prefix_len-le-length)

  -- a UTF-8 text can be cut after the name
  pub cut_name : IsCutInto text (tokens + more) (front_of in_name (chars text)) (without_start in_name (chars text))
  cut_name = rw name_length (cut_front in_name names_steady text u)

  -- the name is a token text exactly if that prefix is not empty and is all of the name
  name_token : (name : List ℕ) → IsUtf8 name → name ≡ take (tokens + more) text
      → is_token_text (chars name) ≡ (not (tokens == 0) && (tokens == length name))
  name_token name w h =
      let within : tokens + more ≤ length text = omega (arith, name_length, prefix_len-le-length in_name text) in
      let long : length name ≡ tokens + more = ap length h ∙ length-take-le (tokens + more) text within in
      let all : list_all is_token name ≡ nat_le (tokens + more) (prefix_len is_token text) =
      ap (list_all is_token) h ∙ front_all is_token (tokens + more) text within in
      let token = token_text_is name in
      let chars' = token_text_chars name w in
      grind arith

  -- so a flag says whether it is, if it is false without a prefix, and otherwise whether the prefix is all of the name
  pub name_token_by : (name : List ℕ) (flag : Bool) → IsUtf8 name → name ≡ take (tokens + more) text
      → ((tokens ≢ 0) × (flag ≡ (tokens == length name))) ⊎ ((tokens ≡ 0) × (flag ≡ not (tokens == 0)))
      → flag ≡ is_token_text (chars name)
  name_token_by name flag w h (inl (n, b)) = let t = name_token name w h in grind arith
  name_token_by name flag w h (inr (n, b)) = let t = name_token name w h in grind arith

-- the lemmas for `split_name`
pub ruleset names = (cut_name)

-- the length and the value of a quoted text and then x are those of the quoted text, and then those of x
quoted_before : (q v x : List ℕ) → Quoted q v → (quoted_len false (q ++ x) ≡ length q + quoted_len false x)
    × (unescaped false (q ++ x) ≡ v ++ unescaped false x)
quoted_before q v x nothing_quoted = grind arith
quoted_before q v x (as_itself {text} {value} c n m h) = grind (arith, quoted_before text value x h)
quoted_before q v x (after_backslash {text} {value} c h) = grind (arith, quoted_before text value x h)

-- a quoted string without a closing quote is as long as its text, and has the value that is read
quoted_open : (q v : List ℕ) → QuotedOpen q v → (quoted_len false q ≡ length q) × (unescaped false q ≡ v)
quoted_open q v (inl h) = grind (arith, quoted_before q v [] h, append-nil)
quoted_open q v (inr (q', v', t, e, h)) = grind (arith, quoted_before q' v' (92 ∷ []) h, length-append)

-- a quoted text, its closing quote and w are read as its value and w from its first ';' on
pub closed_reading : (q v w : List ℕ) → Quoted q v
    → quoted_reading (q ++ 34 ∷ w) ≡ record { value = Some v; rest = without_start in_value w }
closed_reading q v w h =
    let n : quoted_len false (q ++ 34 ∷ w) ≡ length q = grind (arith, quoted_before q v (34 ∷ w) h) in
    let d : drop (suc (length q)) (q ++ 34 ∷ w) ≡ w = grind (arith, drop-append-add q (34 ∷ w) 1) in
    let u = quoted_open q v (inl h) in
    cc (n, d, u.1, take-append_seam q (34 ∷ w))

-- a quoted string without a closing quote is read as its value, and nothing is left
pub open_reading : (q v : List ℕ) → QuotedOpen q v → quoted_reading q ≡ record { value = Some v; rest = [] }
open_reading q v h =
    grind (arith, quoted_open q v h, drop_of_length-le q {i = suc (length q)} (omega arith), take-length q)

-- the text with a backslash before it if the flag is true
abbrev pub flagged : Bool → List ℕ → List ℕ
flagged false s = s
flagged true s = 92 ∷ s

-- the text is a quoted text, a closing quote and more, or a quoted string without a closing quote
pub data IsRead : List ℕ → Type 0 where
  is_closed : {s : List ℕ} (q v w : List ℕ) → s ≡ q ++ 34 ∷ w → Quoted q v → IsRead s
  is_open : {s : List ℕ} (v : List ℕ) → QuotedOpen s v → IsRead s

-- if x before each quoted text puts c before its value, x and a text that is read are read
read_more : (x : List ℕ) (c : ℕ) (s : List ℕ) → ((q v : List ℕ) → Quoted q v → Quoted (x ++ q) (c ∷ v)) → IsRead s
    → IsRead (x ++ s)
read_more x c s more (is_closed q v w e h) = is_closed (x ++ q) (c ∷ v) w (cc (append_assoc x q (34 ∷ w))) (more q v h)
read_more x c s more (is_open v (inl h)) = is_open (c ∷ v) (inl (more s v h))
read_more x c s more (is_open v (inr (q, w, t, e, h))) =
    is_open (c ∷ v) (inr (x ++ q, c ∷ w, cc (append_assoc x q (92 ∷ [])), cc, more q w h))

-- if a text can be read with and without a backslash before it, so can c and the text
read_first : (c : ℕ) (s : List ℕ) → IsRead s → IsRead (92 ∷ s) → (a b : Bool) → (c == 34) ≡ a → (c == 92) ≡ b
    → IsRead (c ∷ s)
read_first c s as_is escaped true b e f = is_closed [] [] s (ap (λ d. d ∷ s) (eqb-true c 34 e)) nothing_quoted
read_first c s as_is escaped false true e f = rw (eqb-true c 92 f) escaped
read_first c s as_is escaped false false e f =
    read_more (c ∷ []) c s (λ q v. as_itself c (eqb-false c 34 e) (eqb-false c 92 f)) as_is

-- each text is read, also after a backslash
pub is_read : (escaped : Bool) (s : List ℕ) → IsRead (flagged escaped s)
is_read false [] = is_open [] (inl nothing_quoted)
is_read true [] = is_open (92 ∷ []) (inr ([], [], refl, refl, nothing_quoted))
is_read true (c ∷ s) = read_more (92 ∷ c ∷ []) c s (λ q v. after_backslash c) (is_read false s)
is_read false (c ∷ s) = read_first c s (is_read false s) (is_read true s) (c == 34) (c == 92) refl refl

-- bytes that are not ASCII come before the quote
others_len : (bs r : List ℕ) → Every (λ b. nat_le 128 b) bs → quoted_len false (bs ++ r)
    ≡ length bs + quoted_len false r
others_len [] r h = grind arith
others_len (b ∷ bs) r h = grind (arith, others_len bs r h.1)

-- the bytes of a code point that is not ASCII are not ASCII
pub encode_others : (c : ℕ) → 128 ≤ c → Every (λ b. nat_le 128 b) (encode c)
unfolding encode
encode_others c l = grind arith

-- the quote of an encoded code point and more is that code point, or comes after it
quoted_char : (e : Bool) (c : ℕ) (r : List ℕ) → quoted_len e (encode c ++ r)
    ≡ cond ((c == 34) && not e) 0 (length (encode c) + quoted_len ((c == 92) && not e) r)
unfolding encode
quoted_char true c r = grind arith
quoted_char false c r = grind (arith, cases_lt, encode_ascii, others_len, encode, encode_others)

-- the length of an encoded quoted text is that of the text, encoded
quoted_encodes : (e : Bool) (cs : List ℕ)
    → quoted_len e (encode_utf8_all cs) ≡ length (encode_utf8_all (take (quoted_len e cs) cs))
quoted_encodes e [] = refl
quoted_encodes true (c ∷ cs) = grind (arith, quoted_char, encode_utf8_all, length-append, quoted_encodes false cs)
quoted_encodes false (c ∷ cs) = grind (arith, quoted_char, length-append, quoted_encodes (c == 92) cs)

-- a UTF-8 text is cut at its closing quote where its code points are
pub cut_quote : (bs : List ℕ) → IsUtf8 bs → IsCutInto bs (quoted_len false bs)
    (take (quoted_len false (chars bs)) (chars bs)) (drop (quoted_len false (chars bs)) (chars bs))
cut_quote bs u =
    let n = quoted_len false (chars bs) in
    cut_into bs (take n (chars bs)) (drop n (chars bs)) (quoted_len false bs) u (sym (take-append-drop n (chars bs)))
    (ap (quoted_len false) (sym (encodes-chars bs u)) ∙ quoted_encodes false (chars bs))

module _ {bs : List ℕ} {i : ℕ} (u : IsUtf8 bs) (l : i < length bs) (g : get_or bs i 0 ≡ 34)
    (h : i + quoted_len false (drop i bs) ≡ quoted_len false bs) where
  -- the quote that is found is the closing quote
  pub quote_at : quoted_len false bs ≡ i
  quote_at = grind (arith, drop-cons)

  -- the text after it
  pub after_quote : chars (drop (i + 1) bs) ≡ drop (suc (quoted_len false (chars bs))) (chars bs)
  after_quote =
      let cut = cut_quote bs u in
      let text = IsUtf8-drop bs i u (IsCharBoundary-before_ascii bs i l (omega arith)) in
      let first = chars_past_char (drop i bs) (drop (suc i) bs) 34 text
      (grind (arith, drop-cons, encode_ascii)) in
      let n = quoted_len false (chars bs) in
      cc (first, quote_at, cut.after, drop-drop 1 n (chars bs), add-one i, add-one n)

-- if the search reaches the end of a text, there is no closing quote
pub no_quote : {bs bytes : List ℕ} {i : ℕ} → IsUtf8 bs → bytes ≡ bs → length bytes ≤ i
    → i + quoted_len false (drop i bs) ≡ quoted_len false bs
    → (chars bs ≡ take (quoted_len false (chars bs)) (chars bs))
    × (chars [] ≡ drop (suc (quoted_len false (chars bs))) (chars bs))
no_quote {bs} {bytes} {i} u b l h =
    let none : drop i bs ≡ [] = drop_of_length-le bs {i = i} (omega (arith, ap length b)) in
    let at : quoted_len false bs ≡ i = grind arith in
    let cut = cut_quote bs u in
    let n = quoted_len false (chars bs) in
    let after : drop n (chars bs) ≡ [] = cc (cut.after, at, none, chars-nil) in (
      cc (take-append-drop n (chars bs), after, append-nil (take n (chars bs))),
      cc (drop-drop 1 n (chars bs), after, add-one n, chars-nil),
    )

-- the lemmas for `split_quote`
pub ruleset quotes = (cut_quote, quote_at, after_quote, no_quote, IsCharBoundary-after_ascii)

-- a code point other than '"' and '\'
abbrev as_is : ℕ → Bool
as_is c = not (is_escaped c)

-- the bytes that a text begins with, and that are not marked, stand for themselves
pub as_is_front : (text : List ℕ) (n : ℕ) → n ≤ length text → ((i : ℕ) → slice_index text i < 256)
    → AreOf UNESCAPED text n → unescaped false text ≡ take n text ++ unescaped false (drop n text)
as_is_front text zero l f h = refl
as_is_front [] (suc n) l f h = absurd (omega arith)
as_is_front (b ∷ text) (suc n) l f h =
    let passes = unmarked_passes (may_be_outside UNESCAPED) as_is refl b (f 0) (h 0 (omega arith)) in
    grind (arith, as_is_front text n (omega arith) (λ i. f (suc i)) (λ k m. h (suc k) (omega arith)))

-- the first bytes of a text are copied to a place of a value
pub record IsCopied (text before value : List ℕ) (len n : ℕ) : Type 0 where
  pub front : Looked UNESCAPED text n
  pub value_is : take (len + n) value ≡ take len before ++ take n text

-- if a row is put after them, so are the first t bytes of the row
pub copies_on : {text before value row : List ℕ} {len n : ℕ} (after : List ℕ) (t : ℕ) → IsCopied text before value len n
    → len + n ≤ length value → row ≡ take 16 (drop n text) → take (len + n + 16) after ≡ take (len + n) value ++ row
    → t ≤ 16 → take (len + (n + t)) after ≡ take len before ++ take (n + t) text
copies_on {text} {before} {value} {row} {len} {n} after t h l r e m =
    let front = take (len + n) value in
    let long : length front ≡ len + n = length-take-le (len + n) value l in
    let part : take (len + (n + t)) (take (len + n + 16) after) ≡ take (len + (n + t)) after =
    take-take (len + (n + t)) (len + n + 16) after (omega arith) in
    let size : len + (n + t) ≡ length front + t = omega arith in
    let joined : take (len + (n + t)) (front ++ row) ≡ front ++ take t row =
    ap (λ i. take i (front ++ row)) size ∙ take-append-add front row t in
    let some : take t row ≡ take t (drop n text) = ap (take t) r ∙ take-take t 16 (drop n text) m in
    cc (h.value_is, append_assoc (take len before) (take n text) (take t (drop n text)), take-add n t text)

-- the bytes of a value so far, and the value of the bytes from a place on, are the value of the whole text
pub record Unescaping (bytes value : List ℕ) (at len : ℕ) : Type 0 where
  pub within : at ≤ length bytes
  pub few : len ≤ at
  pub size : length value ≡ length bytes
  pub value_is : take len value ++ unescaped false (drop at bytes) ≡ unescaped false bytes

-- a text of at most one byte stands for itself
one_stays : (s : List ℕ) → length s ≤ 1 → unescaped false s ≡ s
one_stays [] l = refl
one_stays (b ∷ []) l = grind arith
one_stays (b ∷ c ∷ s) l = absurd (omega (arith, l))

-- if at most one byte is not read yet, what was written and then that byte are the value of the text
pub unescapes_all : {bytes value bs : List ℕ} {at len : ℕ} (v : List ℕ) → Unescaping bytes value at len
    → length bytes ≤ at + 1 → v ≡ take len value ++ drop at bytes → bytes ≡ bs → v ≡ unescaped false bs
unescapes_all {bytes} {value} {bs} {at} {len} v h l e f =
    let last = one_stays (drop at bytes) (omega (arith, l, length-drop at bytes)) in
    e ∙ ap (λ s. take len value ++ s) (sym last) ∙ h.value_is ∙ ap (unescaped false) f

-- bytes that are not ASCII stand for themselves
others_stay : (bs r : List ℕ) → Every (λ b. nat_le 128 b) bs → unescaped false (bs ++ r) ≡ bs ++ unescaped false r
others_stay [] r h = refl
others_stay (b ∷ bs) r h = grind (arith, others_stay bs r h.1)

-- an encoded code point stands for itself, unless it is a '\' that escapes
unescaped_char : (e : Bool) (c : ℕ) (r : List ℕ) → unescaped e (encode c ++ r)
    ≡ cond ((c == 92) && not e) (unescaped true r) (encode c ++ unescaped false r)
unfolding encode
unescaped_char true c r = grind arith
unescaped_char false c r = grind (arith, cases_lt, encode_ascii, others_stay, encode, encode_others)

-- the value of the bytes of a text is the value of the text, encoded
unescaped_encodes : (e : Bool) (cs : List ℕ) → unescaped e (encode_utf8_all cs) ≡ encode_utf8_all (unescaped e cs)
unfolding encode
unescaped_encodes false [] = refl
unescaped_encodes true [] = refl
unescaped_encodes true (c ∷ cs) = grind (arith, unescaped_char, encode_utf8_all, unescaped_encodes false cs)
unescaped_encodes false (c ∷ cs) = grind (arith, unescaped_char, unescaped_encodes false cs, unescaped_encodes true cs)

-- the code points of a value are scalar values
unescaped_scalars : (e : Bool) (cs : List ℕ) → scalars cs ≡ true → scalars (unescaped e cs) ≡ true
unescaped_scalars false [] h = refl
unescaped_scalars true [] h = refl
unescaped_scalars true (c ∷ cs) h = grind (arith, unescaped_scalars false cs)
unescaped_scalars false (c ∷ cs) h = grind (arith, unescaped_scalars false cs, unescaped_scalars true cs)

module _ {bs v : List ℕ} (u : IsUtf8 bs) (e : v ≡ unescaped false bs) where
  -- so the value of the bytes of a text are the bytes of its value
  pub value_encodes : encode_utf8_all (unescaped false (chars bs)) ≡ v
  value_encodes = sym (e ∙ ap (unescaped false) (sym (encodes-chars bs u)) ∙ unescaped_encodes false (chars bs))

  -- they are UTF-8
  pub value_utf8 : IsUtf8 v
  value_utf8 = grind (arith, unescaped_scalars, scalars-chars, value_encodes)

  -- and spell this value
  pub value_chars : chars v ≡ unescaped false (chars bs)
  value_chars = grind (arith, value_encodes, chars-encodes, unescaped_scalars, scalars-chars)

-- so do those before the first '"' or '\'
as_is_quoted : (s : List ℕ) → prefix_len as_is s + quoted_len false (drop (prefix_len as_is s) s) ≡ quoted_len false s
as_is_quoted [] = refl
as_is_quoted (c ∷ s) = elim (as_is c) as (λ v. as_is c ≡ v → cond v (1 + prefix_len as_is s) 0
    + quoted_len false (drop (cond v (1 + prefix_len as_is s) 0) (c ∷ s)) ≡ quoted_len false (c ∷ s)) [
      | true ↦ λ e. rw one-add (grind (arith, as_is_quoted s))
      | false ↦ λ e. omega arith
    ] refl

-- a code point that a '\' escapes comes before the closing quote, if there is one
pair_quoted : (s : List ℕ) (n : ℕ) → n ≡ min 1 (length s) → quoted_len true s ≡ n + quoted_len false (drop n s)
pair_quoted [] n e = rw e refl
pair_quoted (c ∷ s) n e = let one : n ≡ 1 = omega arith in rw one (omega arith)

-- if the closing quote is not before a place, it is not before the first '"' or '\' from there on
pub quoting_from : (bytes : List ℕ) (from m place : ℕ) → from ≤ length bytes
    → from + quoted_len false (drop from bytes) ≡ quoted_len false bytes → m ≡ prefix_len as_is (drop from bytes)
    → place ≡ from + m → Quoting bytes place
quoting_from bytes from m place l h f e =
    grind (arith, prefix_len-le-length, length-drop, prefix_len_stops, get_or-drop, as_is_quoted, drop-drop, not-false)

-- after a '\' and the byte that follows it
pub quoting_next : (bytes : List ℕ) (place from m : ℕ) → Quoting bytes place → place < length bytes
    → slice_index bytes place ≢ 34 → from ≡ min (length bytes) (place + 2)
    → m ≡ prefix_len as_is (take (length bytes - from) (drop from bytes)) → Quoting bytes (from + m)
quoting_next bytes place from m h l n e f =
    let all : take (length bytes - from) (drop from bytes) ≡ drop from bytes =
    take_all (length bytes - from) (drop from bytes) (omega (arith, length-drop from bytes)) in
    let more = drop (suc place) bytes in
    let k = min 1 (length more) in
    let is : slice_index bytes place ≡ 92 = let mark = h.mark l in grind (arith, eqb-true) in
    let front : drop place bytes ≡ 92 ∷ more = drop-cons bytes place 0 l ∙ ap (λ b. b ∷ more) is in
    let at : from ≡ suc place + k = omega (arith, length-drop (suc place) bytes) in
    let on : drop k more ≡ drop from bytes = drop-drop k (suc place) bytes ∙ ap (λ i. drop i bytes) (omega arith) in
    quoting_from bytes from m (from + m) (omega arith) (omega (
      arith,
      h.joined,
      ap (quoted_len false) front,
      pair_quoted more k refl,
      ap (quoted_len false) on,
    )) (f ∙ ap (prefix_len as_is) all) refl
