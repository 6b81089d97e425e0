-- The parts of a data: URL, as the URL Standard parses and serialises them. Texts are lists of
-- bytes.
use Rattle.std.specs.Char.{to_ascii_lowercase}
use Rattle.std.specs.List.{flat_map, prefix_len, suffix_len}
use Rattle.std.specs.Prelude.{[], if◌then◌else◌, ◌%◌, ◌++◌, ◌+◌, ◌-◌, ◌/◌, ◌==◌, ◌||◌, ◌∷◌, Bool, List, None, Option}
use Rattle.std.specs.Prelude.{Some, codes, drop, filter, length, map, nat_le, nat_lt, not, take, ℕ}
use Rattle.std.specs.Str.{bytes_eq}

-- '#' begins the fragment, '%' begins an escape, and ',' begins the body

abbrev pub number_sign : ℕ
number_sign = 35

abbrev pub percent_sign : ℕ
percent_sign = 37

abbrev pub comma : ℕ
comma = 44

-- the text without the longest prefix of bytes that pass the test
abbrev pub without_start : (ℕ → Bool) → List ℕ → List ℕ
without_start p s = drop (prefix_len p s) s

-- the text without the longest suffix of bytes that pass the test
abbrev pub without_end : (ℕ → Bool) → List ℕ → List ℕ
without_end p s = take (length s - suffix_len p s) s

-- a C0 control or a space (Infra, section 4.6)
abbrev pub is_c0_control_or_space : ℕ → Bool
is_c0_control_or_space b = nat_le b 32

-- the text without C0 controls and spaces at both ends (URL, section 4.4, step 1)
unfoldable pub trimmed_text : List ℕ → List ℕ
trimmed_text t = without_end is_c0_control_or_space (without_start is_c0_control_or_space t)

-- an ASCII tab or newline (Infra, section 4.6)
abbrev pub is_tab_or_newline : ℕ → Bool
is_tab_or_newline b = (b == 9) || ((b == 10) || (b == 13))

-- the text without ASCII tabs and newlines (URL, section 4.4, step 3)
unfoldable pub without_tabs_and_newlines : List ℕ → List ℕ
without_tabs_and_newlines s = filter (λ b. not (is_tab_or_newline b)) s

-- the input after both steps, as the state machine of the URL parser reads it
unfoldable pub cleaned_text : List ℕ → List ℕ
cleaned_text t = without_tabs_and_newlines (trimmed_text t)

-- the bytes before the first c; the whole text if there is no c
unfoldable pub before : ℕ → List ℕ → List ℕ
before c [] = []
before c (b ∷ bs) = if b == c then [] else b ∷ before c bs

-- the bytes after the first c, if there is one
unfoldable pub after : ℕ → List ℕ → Option (List ℕ)
after c [] = None
after c (b ∷ bs) = if b == c then Some bs else after c bs

-- the bytes after "data:", in any ASCII case; none if the text does not begin with it (URL, section
-- 4.4, scheme state)
unfoldable pub after_scheme : List ℕ → Option (List ℕ)
after_scheme t =
    if bytes_eq (map to_ascii_lowercase (take 5 (cleaned_text t))) (codes "data:")
    then Some (drop 5 (cleaned_text t))
    else None

-- the opaque path with its query: the bytes before the first '#' (URL, section 4.4, opaque path
-- state and query state)
unfoldable pub front : List ℕ → List ℕ
front s = before number_sign s

-- the fragment: the bytes after the first '#', if there is one (URL, section 4.4, fragment state)
unfoldable pub fragment : List ℕ → Option (List ℕ)
fragment s = after number_sign s

-- Percent-encoding (URL, section 1.3)

-- the C0 control percent-encode set, which an opaque path uses: C0 controls and bytes above '~'
abbrev pub in_path_set : ℕ → Bool
in_path_set b = nat_lt b 32 || nat_lt 126 b

-- the query percent-encode set: the set above, and space, '"', '#', '<' and '>'
abbrev pub in_query_set : ℕ → Bool
in_query_set b = in_path_set b
    || ((b == 32) || ((b == 34) || ((b == number_sign) || ((b == 60) || (b == 62)))))

-- the fragment percent-encode set: the set of a path, and space, '"', '<', '>' and '`'
abbrev pub in_fragment_set : ℕ → Bool
in_fragment_set b = in_path_set b
    || ((b == 32) || ((b == 34) || ((b == 60) || ((b == 62) || (b == 96)))))

-- the upper-case hexadecimal digit of a number below 16
abbrev pub hex_digit : ℕ → ℕ
hex_digit d = if nat_lt d 10 then 48 + d else 55 + d

-- a byte of the set as '%' and two hexadecimal digits; any other byte as it is
abbrev pub encoded_byte : (ℕ → Bool) → ℕ → List ℕ
encoded_byte in_set b = if in_set b then percent_sign ∷ hex_digit (b / 16) ∷ hex_digit (b % 16) ∷ []
    else b ∷ []

-- the text with each byte of the set percent-encoded
unfoldable pub percent_encoding : (ℕ → Bool) → List ℕ → List ℕ
percent_encoding in_set s = flat_map (encoded_byte in_set) s

-- the fragment that the URL parser produces: without tabs and newlines, and percent-encoded with the
-- fragment percent-encode set
abbrev pub encoded_fragment : List ℕ → List ℕ
encoded_fragment s = percent_encoding in_fragment_set (without_tabs_and_newlines s)

-- the set for the last byte of an opaque path: the set of a path, and space
abbrev pub in_path_end_set : ℕ → Bool
in_path_end_set b = in_path_set b || (b == 32)

-- an opaque path, percent-encoded. A space at its end is encoded too: '?' or '#' follows it, since
-- the input of the URL parser does not end with a space. Of several spaces at the end, only the last
-- is encoded.
unfoldable pub encoded_path : List ℕ → List ℕ
encoded_path [] = []
encoded_path (b ∷ []) = encoded_byte in_path_end_set b
encoded_path (b ∷ c ∷ s) = encoded_byte in_path_set b ++ encoded_path (c ∷ s)

-- the encoded path and, if there is a query, '?' and the query, percent-encoded
abbrev pub with_query : List ℕ → Option (List ℕ) → List ℕ
with_query path None = path
with_query path (Some query) = path ++ 63 ∷ percent_encoding in_query_set query

-- an opaque path with its query, serialised: the first '?' ends the path (URL, section 4.5)
unfoldable pub serialised : List ℕ → List ℕ
serialised s = with_query (encoded_path (before 63 s)) (after 63 s)
