-- The parts of the front of the input, before tabs and newlines are removed.
use Rattle.std.specs.Char.{to_ascii_lowercase}
use Rattle.std.specs.Int.{is_in_range}
use Rattle.std.specs.Prelude.{◌&&◌, ◌++◌, ◌==◌, ◌||◌, ◌∷◌, ◌≡◌, Bool, List, None, codes, false, map, take, not, ℕ}
use Rattle.std.specs.Str.{bytes_eq}
use Rattle.data_url.specs.Url.{after, comma, number_sign, without_tabs_and_newlines}

-- the text is the scheme "data:", in any ASCII case and with tabs and newlines anywhere, and then rest
pub record IsSchemeAndRest (text rest : List ℕ) : Type 0 where
  pub scheme : List ℕ
  pub joined : text ≡ scheme ++ rest
  pub spelled : map to_ascii_lowercase (without_tabs_and_newlines scheme) ≡ codes "data:"

-- the text does not begin with this scheme
abbrev pub HasNoScheme : List ℕ → Type 0
HasNoScheme text =
    bytes_eq (map to_ascii_lowercase (take 5 (without_tabs_and_newlines text)))
    (codes "data:")
    ≡ false

-- neither ',' nor '#'
abbrev pub in_header : ℕ → Bool
in_header b = not ((b == comma) || (b == number_sign))

-- a byte of a path that is serialised as it is, and is none of '#', ',' and '?'
abbrev pub is_unencoded_path : ℕ → Bool
is_unencoded_path b = is_in_range 32 126 b && not ((b == number_sign) || ((b == comma) || (b == 63)))

-- the text is the header, the first comma, and the tail; the header has no '#'
pub record IsHeaderAndTail (text header tail : List ℕ) : Type 0 where
  pub joined : text ≡ header ++ comma ∷ tail
  pub no_comma : after comma header ≡ None
  pub no_fragment : after number_sign header ≡ None
