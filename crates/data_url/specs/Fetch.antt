-- The data: URL processor (Fetch Standard, section 6), stage by stage, over whole byte sequences.
use Rattle.std.specs.Char.{to_ascii_lowercase}
use Rattle.std.specs.Option.{option_map, option_map_or}
use Rattle.std.specs.Prelude.{[], if◌then◌else◌, ◌++◌, ◌-◌, ◌==◌, ◌∷◌, Bool, List, None, Option, Some, codes, drop}
use Rattle.std.specs.Prelude.{is_some, length, map, option_and_then, take, unwrap_or, ℕ}
use Rattle.std.specs.Str.{bytes_eq}
use Rattle.data_url.specs.Base64.{Kind, decoded, complete_bytes, is_valid, kind_of}
use Rattle.data_url.specs.Percent.{percent_decoding}
use Rattle.data_url.specs.Url.{after, after_scheme, before, comma, fragment, front, in_fragment_set, percent_encoding}
use Rattle.data_url.specs.Url.{serialised, trimmed_text, without_end, without_start, without_tabs_and_newlines}

-- Header and body

-- the serialised path and query of a text that has the scheme (steps 1 to 4)
unfoldable pub staged_front : List ℕ → Option (List ℕ)
staged_front t = option_map (λ a. serialised (front a)) (after_scheme t)

-- the bytes before the first comma, if there is one
abbrev pub before_comma : List ℕ → Option (List ℕ)
before_comma s = option_map (λ rest. before comma s) (after comma s)

-- the header: the bytes of the serialised front before its first comma (steps 5 to 7)
unfoldable pub header_of : List ℕ → Option (List ℕ)
header_of t = option_and_then before_comma (staged_front t)

-- the encoded body: the bytes after that comma (steps 8 and 9)
unfoldable pub encoded_body : List ℕ → Option (List ℕ)
encoded_body t = option_and_then (after comma) (staged_front t)

-- the bytes after the first comma of the input, whose C0 controls and spaces at both ends are removed
unfoldable pub tail_of : List ℕ → Option (List ℕ)
tail_of t = after comma (trimmed_text t)

-- the body of a tail: the bytes before the first '#', without tabs and newlines, percent-decoded
unfoldable pub plain_body : List ℕ → List ℕ
plain_body tail = percent_decoding (front (without_tabs_and_newlines tail))

-- The base64 suffix

abbrev pub is_space : ℕ → Bool
is_space b = b == 32

-- the header without spaces at both ends (step 6)
unfoldable pub stripped_header : List ℕ → List ℕ
stripped_header h = without_end is_space (without_start is_space h)

-- the text without its last n bytes, if these pass the test
abbrev pub without_last : ℕ → (List ℕ → Bool) → List ℕ → Option (List ℕ)
without_last n p s = if p (drop (length s - n) s) then Some (take (length s - n) s) else None

-- the bytes before a final "base64", in any ASCII case
abbrev pub before_word : List ℕ → Option (List ℕ)
before_word s = without_last 6 (λ w. bytes_eq (map to_ascii_lowercase w) (codes "base64")) s

-- the bytes before a final ';'
abbrev pub before_semicolon : List ℕ → Option (List ℕ)
before_semicolon s = without_last 1 (λ w. bytes_eq w (codes ";")) s

-- if the text ends with ';', any number of spaces, and "base64": the bytes before that ';' (step 11)
unfoldable pub before_base64 : List ℕ → Option (List ℕ)
before_base64 s = option_and_then (λ m. before_semicolon (without_end is_space m)) (before_word s)

-- the body is base64
unfoldable pub has_base64_suffix : List ℕ → Bool
has_base64_suffix h = is_some (before_base64 (stripped_header h))

-- the header without the suffix
unfoldable pub media_of : List ℕ → List ℕ
media_of h = unwrap_or (before_base64 (stripped_header h)) (stripped_header h)

-- the text, with "text/plain" put before it if it begins with ';' (step 12)
abbrev pub with_plain : List ℕ → List ℕ
with_plain [] = []
with_plain (c ∷ s) = if c == 59 then codes "text/plain" ++ c ∷ s else c ∷ s

-- the text that is parsed as the MIME type of the URL (steps 12 to 14); each byte is one code point,
-- since all bytes are below 127
unfoldable pub mime_text : List ℕ → List ℕ
mime_text h = with_plain (media_of h)

-- The body

-- the body; or, if its base64 is not valid, the bytes before the fault and the kind of the fault
pub data Outcome : Type 0 where
  Good : List ℕ → Outcome
  Bad : List ℕ → Kind → Outcome

-- the body as it is or, if the flag is true, forgiving-base64 decoded (steps 10 and 11)
unfoldable pub outcome : Bool → List ℕ → Outcome
outcome flag x =
    if flag then (if is_valid x then Good (decoded x) else Bad (complete_bytes x) (kind_of x))
    else Good x

abbrev pub outcome_bytes : Outcome → List ℕ
outcome_bytes (Good x) = x
outcome_bytes (Bad x kind) = x

-- The whole

-- no scheme; a scheme but no comma; or the text of the MIME type, the body, and the encoded
-- fragment if there is one
pub data Staged : Type 0 where
  NoScheme : Staged
  NoComma : Staged
  Accepted : List ℕ → Outcome → Option (List ℕ) → Staged

-- the result, from the fragment, the header and the encoded body
abbrev pub staged_parts : Option (List ℕ) → Option (List ℕ) → Option (List ℕ) → Staged
staged_parts fragment (Some header) (Some body) =
    Accepted (mime_text header) (outcome (has_base64_suffix header) (percent_decoding body))
    (option_map (percent_encoding in_fragment_set) fragment)
staged_parts fragment header body = NoComma

-- the result of the data: URL processor for a text
unfoldable pub staged : List ℕ → Staged
staged t = option_map_or (λ a. staged_parts (fragment a) (header_of t) (encoded_body t))
    (after_scheme t) NoScheme

abbrev pub staged_fragment : Staged → Option (List ℕ)
staged_fragment (Accepted text body fragment) = fragment
staged_fragment s = None
