-- The stages of the Standard, from the input to its record. For `DataUrl::process`.
use Rattle.std.proofs.Common.{Err, Ok, Result, ◌==◌, true, length-append, length-drop, take-append-drop, length-take}
use Rattle.std.proofs.Common.{append_assoc, Option, unwrap_or, get_or-drop, get_or-take}
use Rattle.std.proofs.Common.{Some, refl, sym, ap, ◌∙◌, inl, inr, eqb-true, subst, arith, map, codes, ◌≢◌, is_some}
use Rattle.std.proofs.Common.{drop_at, take_at, ◌≡◌, ℕ, suc, ◌<◌, ◌≤◌, Bool, false, List, [], ◌∷◌, ◌++◌, length, get_or}
use Rattle.std.proofs.{Common.{take, drop, None}, lemmas.Slice.Eq.{bytes_eq-Decides}, Math.Seq.{drop-append_seam}}
use Rattle.std.proofs.lemmas.{Bool.{cases_Bool}, Str.{chars-IsAscii}, List.Elements.{All-drop, All-from_get_or}}
use Rattle.std.proofs.lemmas.List.{get_or-reverse, Elements.{All-from_recursion, All-take, recursion_from_All}}
use Rattle.std.proofs.lemmas.List.{get_or_past, length-reverse, length-map}
use Rattle.std.specs.{Option.{option_map}, Char.{to_ascii_lowercase}, List.{prefix_len, suffix_len, AllByRecursion}}
use Rattle.std.specs.Str.{chars}
use Rattle.std.{proofs.lemmas.List.Folds.{list_all-append}, specs.List.{list_all}}
use Rattle.data_url.specs.{Parts.{HasEncodedHeader, is_serialised_as_is}, Steps.Split.{is_unencoded_path}}
use Rattle.data_url.specs.{DataUrl.{IsAcceptable, IsUrlOf, IsUrlWithParts, url_tail}}
use Rattle.data_url.specs.declared.DataUrl.{DataUrl}
use Rattle.data_url.specs.Fetch.{NoScheme, outcome, plain_body, staged, before_base64, has_base64_suffix, media_of}
use Rattle.data_url.specs.Fetch.{mime_text, with_plain, Accepted, NoComma, is_space, stripped_header, encoded_body}
use Rattle.data_url.specs.{Fetch.{header_of, staged_front, tail_of}, Mime.{HasNoRecord, Record, default_record}}
use Rattle.data_url.specs.{Mime.{BeginsParameters, IsHead, IsRecordOfParts}}
use Rattle.data_url.specs.{Steps.Split.{HasNoScheme, IsHeaderAndTail, IsSchemeAndRest}, Percent.{percent_decoding}}
use Rattle.data_url.specs.Steps.MimeParts.{WritesParts}
use Rattle.data_url.specs.{Steps.Header.{IsPrintable, header_text, IsHeaderOf, IsRecordFor}, Url.{before, after}}
use Rattle.data_url.specs.Url.{is_c0_control_or_space, percent_encoding, trimmed_text, after_scheme, cleaned_text}
use Rattle.data_url.specs.Url.{without_tabs_and_newlines, fragment, front, serialised, in_fragment_set}
use Rattle.data_url.proofs.{examples.Literals.{on_literals}, runs.Runs.{none_or_some}}
use Rattle.data_url.proofs.{mime.FirstNames.{head_wellformed, parses_parts}, percent.Encoding.{serialised_recoded}}
use Rattle.data_url.proofs.percent.Encoding.{IsBytes, encoded_cons, encoded_nil, header_nil, header_path, header_query}
use Rattle.data_url.proofs.percent.Encoding.{Recoded, before-serialised, recoded-decoded, recoded_tails}
use Rattle.data_url.proofs.texts.Bytes.{after-dropped_none, after_at, after_dropped, after_nil, after_other}
use Rattle.data_url.proofs.texts.Bytes.{before-append, before_nil, before_other, before_same, after-append, before_all}
use Rattle.data_url.proofs.texts.Bytes.{before_at, dropped_passes, is_cut, lacks, without_tabs_and_newlines-append}
use Rattle.data_url.proofs.texts.Bytes.{dropped_around, dropped_keeps, dropped_nil}

-- a text of bytes, encoded with a set that has all bytes that are not printable, is printable
encoded_printable : (p : ℕ → Bool) → ((b : ℕ) → p b ≡ false → (32 ≤ b) × (b < 127)) → (s : List ℕ) → IsBytes s
    → AllByRecursion (λ b. (32 ≤ b) × (b < 127)) (percent_encoding p s)
encoded_printable p outside [] h = rw (encoded_nil p) tt
encoded_printable p outside (b ∷ s) h = grind (arith, encoded_cons, encoded_printable p outside s h.1)

-- each byte of the serialised text of a header is a printable ASCII character
header_all : (s : List ℕ) → IsBytes s → AllByRecursion (λ b. (32 ≤ b) × (b < 127)) (header_text s)
header_all [] h = rw header_nil tt
header_all (b ∷ s) h = grind (arith, header_query, encoded_printable, header_path, header_all s h.1)

-- the serialised text of a header of bytes is printable
pub header_text_printable : (s : List ℕ) → IsBytes s → IsPrintable (header_text s)
header_text_printable s h i l = grind (arith, All-from_recursion, header_all)

-- the first n bytes of a printable text are printable
pub printable_take : (n : ℕ) (s : List ℕ) → IsPrintable s → IsPrintable (take n s)
printable_take n s h i l = grind (arith, length-take, get_or-take)

-- in a printable text, the longest prefix of C0 controls and spaces is as long as that of spaces
low_front : (s : List ℕ) → IsPrintable s → prefix_len is_c0_control_or_space s ≡ prefix_len is_space s
low_front [] h = refl
low_front (b ∷ s) h = let p = h 0 (omega arith) in grind (arith, low_front s (λ i l. h (suc i) (omega arith)))

-- in a printable text, the longest suffix of C0 controls and spaces is as long as that of spaces
pub low_end : (s : List ℕ) → IsPrintable s → suffix_len is_c0_control_or_space s ≡ suffix_len is_space s
low_end s h = grind (arith, low_front, length-reverse, get_or-reverse)

-- a printable text without C0 controls and spaces at both ends is the text without spaces at both ends
pub trimmed_is_stripped : (s : List ℕ) → IsPrintable s → trimmed_text s ≡ stripped_header s
unfolding trimmed_text stripped_header
trimmed_is_stripped s h = grind (arith, low_front, low_end, get_or-drop, length-drop)

-- a printable text without C0 controls and spaces at both ends is printable
pub printable_trimmed : (s : List ℕ) → IsPrintable s → IsPrintable (trimmed_text s)
unfolding trimmed_text
printable_trimmed s h = grind (arith, printable_take, get_or-drop, length-drop)

-- a number below 256
abbrev is_byte : ℕ → Type 0
is_byte b = b < 256

-- a text of bytes without its first n bytes is a text of bytes
bytes_drop : (n : ℕ) (s : List ℕ) → IsBytes s → IsBytes (drop n s)
bytes_drop n s h = recursion_from_All is_byte (drop n s) (All-drop is_byte n s (All-from_recursion is_byte s h))

-- a text of bytes without tabs and newlines is a text of bytes
pub bytes_dropped : (s : List ℕ) → IsBytes s → IsBytes (without_tabs_and_newlines s)
bytes_dropped [] h = subst IsBytes (sym dropped_nil) tt
bytes_dropped (b ∷ s) h = grind (arith, dropped_passes, bytes_dropped s h.1, dropped_keeps)

-- the part of a text of bytes before the first c is a text of bytes
pub bytes_before : (c : ℕ) (s : List ℕ) → IsBytes s → IsBytes (before c s)
unfolding before
bytes_before c [] h = tt
bytes_before c (b ∷ s) h = grind (arith, bytes_before c s h.1)

-- if a text in lower case has no comma, the text has none
pub lacks_comma : (d : List ℕ) → after 44 (map to_ascii_lowercase d) ≡ None → after 44 d ≡ None
lacks_comma [] h = h
lacks_comma (b ∷ d) h =
    let l = lacks 44 (to_ascii_lowercase b) (map to_ascii_lowercase d) h in
    after_other 44 b d (grind arith) ∙ lacks_comma d l.after_it

-- there is no comma in "data:"
abbrev scheme_lacks : after 44 (codes "data:") ≡ None
unfolding after
scheme_lacks = refl

-- a text that without tabs and newlines, in any ASCII case, is "data:" has no comma
pub scheme_has_no_comma : (scheme : List ℕ) → map to_ascii_lowercase (without_tabs_and_newlines scheme) ≡ codes "data:"
    → after 44 scheme ≡ None
scheme_has_no_comma scheme e = elim (none_or_some (after 44 scheme)) [
  | inl n ↦ n
  | inr (rest, s) ↦ absurd (
      let d = after_dropped 44 refl scheme rest s in
      let n = lacks_comma (without_tabs_and_newlines scheme) (ap (after 44) e ∙ scheme_lacks) in
      cc
      )
]

-- if the trimmed text is the scheme and then rest, the text after the scheme is rest without tabs and newlines
after_is : (t rest : List ℕ) (h : IsSchemeAndRest (trimmed_text t) rest)
    → after_scheme t ≡ Some (without_tabs_and_newlines rest)
unfolding after_scheme cleaned_text
after_is t rest h =
    let s = without_tabs_and_newlines h.scheme in
    let five : length s ≡ 5 = sym (length-map s to_ascii_lowercase) ∙ ap length h.spelled in
    let r = without_tabs_and_newlines rest in
    cc (without_tabs_and_newlines-append h.scheme rest, take_at s r 5 five, drop_at s r 5 five)

-- a text that is cut at its first comma is so without tabs and newlines
dropped_parts : {rest header tail : List ℕ} → IsHeaderAndTail rest header tail → IsHeaderAndTail
    (without_tabs_and_newlines rest) (without_tabs_and_newlines header) (without_tabs_and_newlines tail)
dropped_parts {rest} {header} {tail} h = search (arith, dropped_around, after-dropped_none)

-- the fragment of a text that is cut at its first comma is that of its tail
fragment_cut : {a header tail : List ℕ} → IsHeaderAndTail a header tail → fragment a ≡ fragment tail
unfolding fragment
fragment_cut {a} {header} {tail} h = grind (arith, after-append, after_other)

-- the front of a text that is cut at its first comma
front_cut : {a header tail : List ℕ} → IsHeaderAndTail a header tail → front a ≡ header ++ 44 ∷ front tail
unfolding front
front_cut {a} {header} {tail} h = grind (arith, before-append, before_other)

-- if a is the text after the scheme, the staged front is the front of a, serialised
front_of : (t a : List ℕ) → after_scheme t ≡ Some a → staged_front t ≡ Some (serialised (front a))
unfolding staged_front
front_of t a h = grind arith

-- a text of a header, the first comma, and a tail t has, when it is serialised, a tail that is t, recoded
has_tail : (s header t : List ℕ) → IsBytes s → s ≡ header ++ 44 ∷ t → after 44 header ≡ None
    → (rest : List ℕ) × (after 44 (serialised s) ≡ Some rest) × Recoded t rest
has_tail s header t b e h = grind (arith, after_at, recoded_tails, serialised_recoded)

-- the stages of a text, by its header and its tail without tabs and newlines
pub record HasStages (t header tail : List ℕ) : Type 0 where
  pub body : List ℕ
  pub header_is : header_of t ≡ Some (header_text header)
  pub body_is : encoded_body t ≡ Some body
  pub decoded_is : percent_decoding body ≡ percent_decoding (front tail)

-- the stages of a text of which what follows the scheme is cut at its first comma
has_stages : {t a header tail : List ℕ} → after_scheme t ≡ Some a → IsBytes a → IsHeaderAndTail a header tail
    → HasStages t header tail
unfolding header_of encoded_body front
has_stages {t} {a} {header} {tail} e b h =
    let f = front_of t a e in
    let k = has_tail (front a) header (front tail) (bytes_before 35 a b) (front_cut h) h.no_comma in
    let whole = before-serialised header (front tail) h.no_comma in
    record { body = k.0; header_is = cc (front_cut h); body_is = cc; decoded_is = recoded-decoded k.2 }

-- the stages of a text that is accepted, by its raw header and tail
pub record IsAccepted (t header tail : List ℕ) : Type 0 where
  pub stages : HasStages t (without_tabs_and_newlines header) (without_tabs_and_newlines tail)
  pub tail_is : tail_of t ≡ Some tail

-- a text with the scheme, and then a header, the first comma, and a tail has the stages of that header and tail
pub is_accepted : (t rest header tail : List ℕ) → IsBytes rest → IsSchemeAndRest (trimmed_text t) rest
    → IsHeaderAndTail rest header tail → IsAccepted t header tail
unfolding tail_of
is_accepted t rest header tail b s h =
    let k = has_stages (after_is t rest s) (bytes_dropped rest b) (dropped_parts h) in
    record { stages = k; tail_is = grind (arith, after-append, scheme_has_no_comma, after_at) }

-- a text of which what follows the scheme has no comma before its first '#' has no header
no_header : (t a : List ℕ) → after_scheme t ≡ Some a → IsBytes a → after 44 (front a) ≡ None → header_of t ≡ None
unfolding header_of front
no_header t a e b h =
    let r = recoded_tails (serialised_recoded (front a) (bytes_before 35 a b)) in
    let n : after 44 (serialised (front a)) ≡ None = grind arith in
    cc (front_of t a e)

-- if a text has no comma before its first '#', neither has the text without tabs and newlines
front_lacks : (rest : List ℕ) → after 44 (front rest) ≡ None → after 44 (front (without_tabs_and_newlines rest)) ≡ None
unfolding front
front_lacks rest h = elim (none_or_some (after 35 rest)) [
  | inl e ↦ grind (arith, before_all, after-dropped_none)
  | inr (x, e) ↦ grind (arith, is_cut 35 rest x e, dropped_around, before_at, after-dropped_none)
]

-- a list is a text of bytes if the number at each place is below 256
pub bytes_by_place : (s : List ℕ) → ((i : ℕ) → get_or s i 0 < 256) → IsBytes s
bytes_by_place [] h = tt
bytes_by_place (b ∷ s) h = (h 0, bytes_by_place s (λ i. h (suc i)))

-- if a text has no record, the default record is the record for it
pub default_for : (s : List ℕ) (m : Record) → HasNoRecord s → m ≡ default_record → IsRecordFor s m
unfolding on_literals
default_for s m n e = grind arith

-- the record of "text", "plain", and the parameter "charset" with the value "US-ASCII" is the default record
pub default_is : (type_ subtype charset value : List ℕ) → type_ ≡ codes "text" → subtype ≡ codes "plain" → charset
    ≡ codes "charset" → value ≡ codes "US-ASCII" → ◌≡◌ {A = Record} (record
    { type_ = chars type_; subtype = chars subtype; parameters = (chars charset, chars value) ∷ [] }) default_record
unfolding chars
default_is type_ subtype charset value a b c d = grind arith

-- the code points of printable bytes are the bytes
pub chars_printable : (s : List ℕ) → IsPrintable s → chars s ≡ s
chars_printable s h = grind (arith, chars-IsAscii, get_or_past)

-- a printable text that does not begin with ';' stays as it is
pub plain_stays : (media : List ℕ) → IsPrintable media → get_or media 0 0 ≢ 59 → chars media ≡ with_plain media
plain_stays [] p n = chars_printable [] p
plain_stays (c ∷ s) p n = grind (arith, chars_printable (c ∷ s) p)

-- a printable text that begins with ';' has "text/plain" put before it
pub plain_added : (media : List ℕ) → IsPrintable media → get_or media 0 0 ≡ 59
    → codes "text/plain" ++ chars media ≡ with_plain media
plain_added [] p h = absurd (omega (arith, h))
plain_added (c ∷ s) p h = grind (arith, chars_printable (c ∷ s) p)

-- if s is a printable header, trimmed, and o is the text before its suffix, the record of o, or of s, is the header's
pub suffix_is : (header s : List ℕ) (o : Option (List ℕ)) (m : Record) → IsPrintable header → s ≡ trimmed_text header
    → o ≡ before_base64 s → IsRecordFor (with_plain (unwrap_or o s)) m → IsHeaderOf header m (is_some o)
unfolding mime_text media_of has_base64_suffix
suffix_is header s o m p e f h = grind (arith, trimmed_is_stripped header p)

-- the record of the parts of a text is the record for it
pub parts_for : {s x a b c : List ℕ} (m : Record) → s ≡ x → IsHead s a b c → IsRecordOfParts a b c m → IsRecordFor x m
parts_for {s} {x} {a} {b} {c} m e h p = grind (arith, parses_parts s a b c m h p, head_wellformed h p)

-- a text of no bytes
pub no_bytes : (s : List ℕ) → (length s == 0) ≡ true → s ≡ []
no_bytes [] h = refl
no_bytes (c ∷ s) h = absurd (grind arith)

-- an empty text has no '/'
no_record_of_none : HasNoRecord []
no_record_of_none m h =
    let after = 47 ∷ (h.subtype ++ (h.head.gap ++ h.parameters)) in
    omega (arith, ap length h.head.joined, length-append h.type_ after)

-- an empty header is that of the default record, and of a body that is not base64
pub empty_header : IsHeaderOf (header_text (without_tabs_and_newlines [])) default_record false
unfolding on_literals
empty_header = rw (dropped_nil, header_nil)
    (record { record_is = default_for [] default_record no_record_of_none refl; base64_is = refl })

-- what is written of a record is so of any record of which something weaker is true
pub parts_written : {E : Type 0} {P Q : Record → Type 0} (before after : List ℕ) (r : Result ℕ E)
    → ((m : Record) → P m → Q m) → WritesParts P before after r → WritesParts Q before after r
parts_written before after (Ok len) f h = (h.0, f h.0 h.1, h.2)
parts_written before after (Err e) f h = (h.0, f h.0 h.1, h.2, h.3)

-- a text with ';' at index 0 begins with ';'
pub begins_at : (s : List ℕ) → get_or s 0 0 ≡ 59 → BeginsParameters s
begins_at [] h = tt
begins_at (c ∷ s) h = h

-- if the trimmed text does not begin with the scheme, the Standard finds no scheme
pub stages_no_scheme : (t : List ℕ) → HasNoScheme (trimmed_text t) → staged t ≡ NoScheme
unfolding staged after_scheme cleaned_text
stages_no_scheme t h = rw h refl

-- if the trimmed text is a text of bytes, so is the rest after its scheme
pub rest_bytes : (t rest : List ℕ) → IsBytes (trimmed_text t) → IsSchemeAndRest (trimmed_text t) rest → IsBytes rest
rest_bytes t rest b s = subst IsBytes (drop-append_seam s.scheme rest) (bytes_drop _ _ (subst IsBytes s.joined b))

-- if the trimmed text has the scheme, and its rest no comma before its first '#', the Standard finds no comma
pub stages_no_comma : (t rest : List ℕ) → IsBytes (trimmed_text t) → IsSchemeAndRest (trimmed_text t) rest
    → after 44 (front rest) ≡ None → staged t ≡ NoComma
unfolding staged
stages_no_comma t rest b s h =
    let a = after_is t rest s in
    cc (a, no_header t _ a (bytes_dropped rest (rest_bytes t rest b s)) (front_lacks rest h))

-- the Standard accepts the scheme, a header, the first comma, and a tail, with their MIME type, body and fragment
pub stages_accepted : (t rest header tail : List ℕ) → IsBytes (trimmed_text t) → IsSchemeAndRest (trimmed_text t) rest
    → IsHeaderAndTail rest header tail → (flag : Bool)
    → flag ≡ has_base64_suffix (header_text (without_tabs_and_newlines header))
    → staged t ≡ Accepted (mime_text (header_text (without_tabs_and_newlines header))) (outcome flag (plain_body tail))
    (option_map (percent_encoding in_fragment_set) (fragment (without_tabs_and_newlines tail)))
unfolding staged plain_body
stages_accepted t rest header tail b s h flag f =
    let a = is_accepted t rest header tail (rest_bytes t rest b s) s h in
    cc (after_is t rest s, fragment_cut (dropped_parts h))

-- if the trimmed text is the scheme, a header, the first comma, and a tail, the Standard accepts it
pub is_acceptable : (t rest header tail : List ℕ) → IsBytes (trimmed_text t) → IsSchemeAndRest (trimmed_text t) rest
    → IsHeaderAndTail rest header tail → IsAcceptable (staged t)
is_acceptable t rest header tail b s h = subst IsAcceptable (sym (stages_accepted t rest header tail b s h
    (has_base64_suffix (header_text (without_tabs_and_newlines header))) refl)) tt

-- in a header, which has neither ',' nor '#', the bytes that are serialised as they are pass either test
same_tests : (s : List ℕ) → after 44 s ≡ None → after 35 s ≡ None
    → list_all is_serialised_as_is s ≡ list_all is_unencoded_path s
same_tests [] c h = refl
same_tests (b ∷ s) c h =
    let no_comma = lacks 44 b s c in
    let no_hash = lacks 35 b s h in
    grind (arith, same_tests s)

-- if the header has a byte that is not serialised as it is, so has the text before the first comma
pub header_encoded : (t rest header tail : List ℕ) → IsSchemeAndRest (trimmed_text t) rest
    → IsHeaderAndTail rest header tail → list_all is_unencoded_path header ≡ false → HasEncodedHeader t
header_encoded t rest header tail s h e =
    let front = s.scheme ++ header in
    let none : after 44 front ≡ None =
    grind (arith, after-append, scheme_has_no_comma s.scheme s.spelled, h.no_comma) in
    let cut : trimmed_text t ≡ front ++ 44 ∷ tail = cc (s.joined, h.joined, append_assoc s.scheme header (44 ∷ tail)) in
    let first : before 44 (trimmed_text t) ≡ front = ap (before 44) cut ∙ before_at 44 front tail none in
    let test : list_all is_serialised_as_is header ≡ false = same_tests header h.no_comma h.no_fragment ∙ e in
    ap (list_all is_serialised_as_is) first ∙ list_all-append is_serialised_as_is s.scheme header ∙ grind (arith, test)

-- a text of the scheme, a header, the first comma, and a tail is a URL with the record and the flag of the header
pub is_url_with : (t rest header : List ℕ) {tail : List ℕ} {m : Record} {base64 : Bool} → IsBytes (trimmed_text t)
    → IsSchemeAndRest (trimmed_text t) rest → IsHeaderAndTail rest header tail
    → IsHeaderOf (header_text (without_tabs_and_newlines header)) m base64 → IsUrlWithParts t m base64 tail
is_url_with t rest header {tail} {base64 = base64} b s h k =
    let a = is_accepted t rest header tail (rest_bytes t rest b s) s h in
    grind (arith, stages_accepted t rest header tail b s h base64 k.base64_is)

-- if each number of a text is below 256, the trimmed text is a text of bytes
pub bytes_trimmed : (t : List ℕ) → ((i : ℕ) → get_or t i 0 < 256) → IsBytes (trimmed_text t)
unfolding trimmed_text
bytes_trimmed t h = recursion_from_All is_byte (trimmed_text t)
    (All-take is_byte _ _ (All-drop is_byte _ t (All-from_get_or is_byte t 0 (λ i l. h i))))

-- if there is a comma before the first '#', there is no '#' before the first comma
comma_first : (s x : List ℕ) → after 44 (before 35 s) ≡ Some x → after 35 (before 44 s) ≡ None
comma_first [] x h = grind (arith, before_nil, after_nil)
comma_first (b ∷ s) x h =
    grind (arith, cases_Bool, eqb-true, before_same, after_nil, before_other, after_other, comma_first s x)

-- what follows the scheme is cut at its first comma, before the tail without tabs and newlines
record HasParts (t tail : List ℕ) : Type 0 where
  pub rest : List ℕ
  pub header : List ℕ
  pub rest_is : after_scheme t ≡ Some rest
  pub bytes : IsBytes rest
  pub parts : IsHeaderAndTail rest header (without_tabs_and_newlines tail)

-- if there is text after the scheme and a tail, the tail without tabs and newlines follows the first comma of the text
tail_after : (t a tail : List ℕ) → after_scheme t ≡ Some a → tail_of t ≡ Some tail
    → (a ≡ drop 5 (cleaned_text t)) × (after 44 a ≡ Some (without_tabs_and_newlines tail))
unfolding after_scheme cleaned_text tail_of
tail_after t a tail h e =
    let x = without_tabs_and_newlines (trimmed_text t) in
    let spelled : map to_ascii_lowercase (take 5 x) ≡ codes "data:" = grind (arith, bytes_eq-Decides) in
    let rest : a ≡ drop 5 x = grind arith in
    let no = lacks_comma (take 5 x) (ap (after 44) spelled ∙ scheme_lacks) in (
      rest,
      cc (after-append 44 (take 5 x) (drop 5 x) no, take-append-drop 5 x, after_dropped 44 refl _ tail e),
    )

-- the text of a URL has the tail of the URL
url_parts : (t : List ℕ) (u : DataUrl) → ((i : ℕ) → get_or t i 0 < 256) → IsUrlOf t u → HasParts t (url_tail u)
unfolding header_of staged_front front cleaned_text
url_parts t u b h = elim (none_or_some (after_scheme t)) [
  | inl e ↦ absurd (cc (h.header_is))
  | inr (a, e) ↦
      let k = tail_after t a (url_tail u) e h.tail_is in
      let bytes = subst IsBytes (sym k.0) (bytes_drop 5 _ (bytes_dropped (trimmed_text t) (bytes_trimmed t b))) in
      let cut = is_cut 44 a (without_tabs_and_newlines (url_tail u)) k.1 in
      elim (none_or_some (after 44 (front a))) [
        | inl n ↦ absurd (cc (no_header t a e bytes n, h.header_is))
        | inr (x, y) ↦ grind (arith, comma_first)
      ]
]

-- the percent-decoded body of the Standard is the body of the tail of the URL
pub body_of_url : (t : List ℕ) (u : DataUrl) → ((i : ℕ) → get_or t i 0 < 256) → IsUrlOf t u
    → option_map percent_decoding (encoded_body t) ≡ Some (plain_body (url_tail u))
unfolding plain_body
body_of_url t u b h = let k = url_parts t u b h in let s = has_stages k.rest_is k.bytes k.parts in cc

-- the fragment of the Standard is the fragment of the tail of the URL; if one is missing, so is the other
pub fragment_of_url : (t : List ℕ) (u : DataUrl) → ((i : ℕ) → get_or t i 0 < 256) → IsUrlOf t u
    → option_map fragment (after_scheme t) ≡ Some (fragment (without_tabs_and_newlines (url_tail u)))
fragment_of_url t u b h = let k = url_parts t u b h in cc (k.rest_is, fragment_cut k.parts)

-- the lemmas for `serialised_text` and `process`
pub ruleset stages = (
  header_text_printable,
  bytes_dropped,
  bytes_by_place,
  bytes_trimmed,
  stages_no_comma,
  is_acceptable,
)
