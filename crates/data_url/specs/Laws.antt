-- Laws about the definitions, which the contracts of `laws` state.
use Rattle.std.specs.Int.{is_in_range}
use Rattle.std.specs.Prelude.{◌&&◌, ◌++◌, ◌==◌, ◌||◌, ◌≡◌, Bool, List, Some, codes, is_some, not, ℕ}
use Rattle.data_url.specs.Base64.{decoded, complete_bytes, first_fault, is_valid, kind_of, left_padding, left_symbols}
use Rattle.data_url.specs.Base64.{left_text}
use Rattle.data_url.specs.Fetch.{staged, staged_fragment}

-- what is true of a followed by b, from v, the text of what a left over followed by b: the complete
-- bytes, the fault and its kind, what is left over, validity, and the decoded bytes
pub record GoesOn (a b v : List ℕ) : Type 0 where
  pub done_is : complete_bytes (a ++ b) ≡ complete_bytes a ++ complete_bytes v
  pub fault_is : is_some (first_fault (a ++ b)) ≡ is_some (first_fault v)
  pub kind_is : kind_of (a ++ b) ≡ kind_of v
  pub symbols_left : left_symbols (a ++ b) ≡ left_symbols v
  pub padding_left : left_padding (a ++ b) ≡ left_padding v
  pub valid_is : is_valid (a ++ b) ≡ is_valid v
  pub decoded_is : decoded (a ++ b) ≡ complete_bytes a ++ decoded v

-- decoding a and b together is the same as decoding a, and then what is left over of a with b
abbrev pub TwoFeeds : List ℕ → List ℕ → Type 0
TwoFeeds a b = GoesOn a b (left_text (left_symbols a) (left_padding a) ++ b)

-- a byte that an encoded fragment can have: U+0021 to U+007E without '"', '<', '>' and '`'
abbrev pub is_fragment_byte : ℕ → Bool
is_fragment_byte b = is_in_range 33 126 b
    && not ((b == 34) || ((b == 60) || ((b == 62) || (b == 96))))

-- after "data:,#" the text is a fragment whose percent-encoding is the text itself
abbrev pub IsReadAgain : List ℕ → Type 0
IsReadAgain x = staged_fragment (staged (codes "data:,#" ++ x)) ≡ Some x
