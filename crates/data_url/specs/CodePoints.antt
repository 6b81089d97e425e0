-- The classes of code points of MIME types (MIME Sniffing Standard, section 3; Fetch Standard,
-- section 2.2).
use Rattle.std.specs.Int.{is_in_range}
use Rattle.std.specs.List.{list_any}
use Rattle.std.specs.Prelude.{◌==◌, ◌||◌, Bool, codes, ℕ}

-- HTTP whitespace: tab, line feed, carriage return and space
abbrev pub is_http_whitespace : ℕ → Bool
is_http_whitespace c = (c == 9) || ((c == 10) || ((c == 13) || (c == 32)))

-- an HTTP token code point: an ASCII letter, a digit or one of fifteen marks
unfoldable pub is_token : ℕ → Bool
is_token c = is_in_range 65 90 c || is_in_range 97 122 c || is_in_range 48 57 c
    || list_any (λ m. m == c) (codes "!#$%&'*+-.^_`|~")

-- an HTTP quoted-string token code point: tab, U+0020 to U+007E and U+0080 to U+00FF
unfoldable pub is_quotable : ℕ → Bool
is_quotable c = (c == 9) || is_in_range 32 126 c || is_in_range 128 255 c

-- ';', which begins a parameter
abbrev pub is_semicolon : ℕ → Bool
is_semicolon c = c == 59

-- ';' or '=', which end a parameter's name
abbrev pub ends_name : ℕ → Bool
ends_name c = (c == 59) || (c == 61)
