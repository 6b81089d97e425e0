-- Classes of bytes: some are looked up in tables, the others are compared.
use Rattle.std.specs.Prelude.{◌/◌, ◌<◌, ◌==◌, ◌≡◌, Bool, List, bit_and, false, not, slice_index, ℕ}
use Rattle.data_url.specs.CodePoints.{is_http_whitespace, is_token}
use Rattle.data_url.specs.Url.{is_c0_control_or_space, is_tab_or_newline}
use Rattle.data_url.specs.Steps.Header.{is_no_question_mark}
use Rattle.data_url.specs.Steps.Split.{in_header, is_unencoded_path}
use Rattle.data_url.specs.Steps.Parsing.{in_name, in_value, is_escaped, is_quotable_byte, is_unquoted_byte}
use Rattle.data_url.specs.declared.classes.Class.TheVariants.{Control, Header, Name, Path, UnencodedPath, Quotable}
use Rattle.data_url.specs.declared.classes.Class.TheVariants.{TabOrNewline, Token, Unescaped, Unquoted, Value}
use Rattle.data_url.specs.declared.classes.Class.TheVariants.{Whitespace}
use Rattle.data_url.specs.declared.classes.Class.{Class}
use Rattle.data_url.specs.declared.classes.lanes.TheConstants.{COLUMNS}

-- the class that a name in the code means
abbrev pub in_class : Class → ℕ → Bool
in_class Token = is_token
in_class Quotable = is_quotable_byte
in_class Unquoted = is_unquoted_byte
in_class UnencodedPath = is_unencoded_path
in_class Whitespace = is_http_whitespace
in_class Unescaped = λ b. not (is_escaped b)
in_class Control = is_c0_control_or_space
in_class TabOrNewline = is_tab_or_newline
in_class Path = is_no_question_mark
in_class Header = in_header
in_class Name = in_name
in_class Value = in_value

-- what a byte's entries in the two tables have in common, one for each half of the byte; 0 only for a byte of the class
abbrev pub classified : List ℕ → ℕ → ℕ
classified class_table b = bit_and (slice_index class_table (bit_and b 15)) (slice_index COLUMNS (b / 16))

-- false only for a byte of the class
abbrev pub may_be_outside : List ℕ → ℕ → Bool
may_be_outside class_table b = not (classified class_table b == 0)

-- none of the first n bytes may be outside the class, so they are of it
abbrev pub AreOf : List ℕ → List ℕ → ℕ → Type 0
AreOf class_table bytes n = (k : ℕ) → k < n → may_be_outside class_table (slice_index bytes k) ≡ false
