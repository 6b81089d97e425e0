-- Forgiving base64 (Infra Standard, forgiving-base64 decode), with the alphabet of RFC 4648,
-- section 4.
use Rattle.std.specs.Char.{is_ascii_whitespace}
use Rattle.std.specs.Int.{is_in_range}
use Rattle.std.specs.List.{find, list_all, list_any, range_with_len}
use Rattle.data_url.specs.declared.forgiving_base64.InvalidBase64Details.TheVariants.{AlphabetSymbolAfterPadding}
use Rattle.data_url.specs.declared.forgiving_base64.InvalidBase64Details.TheVariants.{LoneAlphabetSymbol, Padding}
use Rattle.data_url.specs.declared.forgiving_base64.InvalidBase64Details.TheVariants.{UnexpectedSymbol}
use Rattle.data_url.specs.declared.forgiving_base64.InvalidBase64Details.{InvalidBase64Details}
use Rattle.std.specs.Prelude.{[], if◌then◌else◌, ◌%◌, ◌&&◌, ◌*◌, ◌++◌, ◌+◌, ◌-◌, ◌/◌, ◌==◌, ◌||◌, ◌∷◌, Bool, List, None}
use Rattle.std.specs.Prelude.{Option, Some, filter, length, map, min, not, replicate, slice_index, take, ℕ}

-- a symbol of the alphabet: 'A' to 'Z', 'a' to 'z', '0' to '9', '+' and '/'
abbrev pub is_symbol : ℕ → Bool
is_symbol b = is_in_range 65 90 b
    || (is_in_range 97 122 b || (is_in_range 48 57 b || ((b == 43) || (b == 47))))

-- the value of a symbol: its index in the alphabet
abbrev pub symbol_value : ℕ → ℕ
symbol_value b = if is_in_range 65 90 b then b - 65
    else if is_in_range 97 122 b then b - 71
    else if is_in_range 48 57 b then b + 4
    else if b == 43 then 62
    else 63

-- Which texts are valid

-- the text without ASCII whitespace: tab, line feed, form feed, carriage return and space (step 1;
-- Infra, section 4.6)
unfoldable pub without_whitespace : List ℕ → List ℕ
without_whitespace b = filter (λ c. not (is_ascii_whitespace c)) b

-- the text without one '=' at its end, if there is one
unfoldable pub without_last_padding : List ℕ → List ℕ
without_last_padding [] = []
without_last_padding (a ∷ []) = if a == 61 then [] else a ∷ []
without_last_padding (a ∷ b ∷ rest) = a ∷ without_last_padding (b ∷ rest)

-- if the length is a multiple of four, the text without up to two '=' at its end (step 2)
unfoldable pub without_padding : List ℕ → List ℕ
without_padding s = if length s % 4 == 0 then without_last_padding (without_last_padding s) else s

-- the text is valid: without whitespace and padding, its length modulo four is not one, and all its
-- bytes are symbols of the alphabet (steps 3 and 4)
unfoldable pub is_valid : List ℕ → Bool
is_valid b = not (length (without_padding (without_whitespace b)) % 4 == 1)
    && list_all is_symbol (without_padding (without_whitespace b))

-- The bytes of a valid text

-- the 24-bit number of four 6-bit values
abbrev pub group_number : ℕ → ℕ → ℕ → ℕ → ℕ
group_number p q r s = ((p * 64 + q) * 64 + r) * 64 + s

-- its three bytes, the most significant one first
abbrev pub group_bytes : ℕ → List ℕ
group_bytes n = n / 65536 ∷ n / 256 % 256 ∷ n % 256 ∷ []

-- the bytes of the complete groups of four values
unfoldable pub groups : List ℕ → List ℕ
groups (p ∷ q ∷ r ∷ s ∷ rest) = group_bytes (group_number p q r s) ++ groups rest
groups vs = []

-- the one, two or three values after the complete groups of four, or none
unfoldable pub after_groups : List ℕ → List ℕ
after_groups (p ∷ q ∷ r ∷ s ∷ rest) = after_groups rest
after_groups vs = vs

-- the bytes of the values left over: three values are 18 bits, of which the last two are discarded;
-- two values are 12 bits, of which the last four are discarded
abbrev pub rest_bytes : List ℕ → List ℕ
rest_bytes (p ∷ q ∷ r ∷ rest) =
    ((p * 64 + q) * 64 + r) / 4 / 256 ∷ ((p * 64 + q) * 64 + r) / 4 % 256 ∷ []
rest_bytes (p ∷ q ∷ []) = (p * 64 + q) / 16 ∷ []
rest_bytes vs = []

-- the values of the symbols of a text
unfoldable pub values : List ℕ → List ℕ
values b = map symbol_value (filter is_symbol b)

-- the bytes that a valid text decodes to (steps 5 to 10)
unfoldable pub decoded : List ℕ → List ℕ
decoded b = groups (values b) ++ rest_bytes (after_groups (values b))

-- Faults of a text that is not valid

-- neither whitespace nor '=' nor a symbol
abbrev pub is_unexpected : ℕ → Bool
is_unexpected c = not (is_ascii_whitespace c || ((c == 61) || is_symbol c))

-- the byte at the index is unexpected, or is a symbol with an '=' somewhere before it
abbrev pub is_fault : List ℕ → ℕ → Bool
is_fault b i = is_unexpected (slice_index b i)
    || (is_symbol (slice_index b i) && list_any (λ c. c == 61) (take i b))

-- the index of the first fault, if there is one
unfoldable pub first_fault : List ℕ → Option ℕ
first_fault b = find (is_fault b) (range_with_len 0 (length b))

-- the bytes before an index, or the whole text if there is no index
abbrev pub before_place : List ℕ → Option ℕ → List ℕ
before_place b None = b
before_place b (Some i) = take i b

-- the decoded bytes of the groups of four symbols that are complete before the first fault
unfoldable pub complete_bytes : List ℕ → List ℕ
complete_bytes b = groups (values (before_place b (first_fault b)))

-- why a text is not valid: a byte that is not allowed, a symbol after padding, a symbol that is
-- alone in its group, or padding that does not fit the number of symbols
abbrev pub Kind : Type 0
Kind = InvalidBase64Details

-- the kind of the byte at the first fault; if there is no fault, the number of symbols decides
abbrev pub kind_at : List ℕ → Option ℕ → Kind
kind_at b None = if length (values b) % 4 == 1 then LoneAlphabetSymbol else Padding
kind_at b (Some i) = if is_symbol (slice_index b i) then AlphabetSymbolAfterPadding
    else UnexpectedSymbol (slice_index b i)

-- why a text is not valid
unfoldable pub kind_of : List ℕ → Kind
kind_of b = kind_at b (first_fault b)

-- What is left over of a text without a fault, from which decoding continues

-- the symbols that are left over after the complete groups
unfoldable pub left_symbols : List ℕ → List ℕ
left_symbols b = after_groups (filter is_symbol b)

-- the number of '=', but at most 3
unfoldable pub left_padding : List ℕ → ℕ
left_padding b = min (length (filter (λ c. c == 61) b)) 3

-- what is left over, as a text: the symbols, then that many '='
abbrev pub left_text : List ℕ → ℕ → List ℕ
left_text symbols padding = symbols ++ replicate padding 61
