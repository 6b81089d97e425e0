-- When each error is returned, and its message.
use Rattle.std.specs.Fmt.{decimal}
use Rattle.std.specs.Option.{option_map}
use Rattle.std.specs.Prelude.{◌++◌, ◌≡◌, Err, List, Option, Result, Some, codes, false, ℕ, ⊤}
use Rattle.data_url.specs.Base64.{Kind, is_valid, kind_of}
use Rattle.data_url.specs.Fetch.{Bad, Outcome}
use Rattle.data_url.specs.Run.{IsPrefix}
use Rattle.data_url.specs.declared.DataUrlError.TheVariants as url
use Rattle.data_url.specs.declared.DataUrlError.{DataUrlError}
use Rattle.data_url.specs.declared.forgiving_base64.DecodeError.TheVariants as decode
use Rattle.data_url.specs.declared.forgiving_base64.DecodeError.{DecodeError}
use Rattle.data_url.specs.declared.forgiving_base64.DecodeToVecError.TheVariants as to_vec
use Rattle.data_url.specs.declared.forgiving_base64.DecodeToVecError.{DecodeToVecError}
use Rattle.data_url.specs.declared.forgiving_base64.InvalidBase64Details.TheVariants as kind
use Rattle.data_url.specs.declared.mime.Mime.{Mime}
use Rattle.data_url.specs.declared.mime.MimeFromStrError.TheVariants as from_str
use Rattle.data_url.specs.declared.mime.MimeFromStrError.{MimeFromStrError}

-- Errors of decoding

-- the message of a kind of fault
abbrev pub kind_text : Kind → List ℕ
kind_text (kind.UnexpectedSymbol b) =
    codes "symbol with codepoint " ++ (decimal b ++ codes " not expected")
kind_text kind.AlphabetSymbolAfterPadding = codes "alphabet symbol present after padding"
kind_text kind.LoneAlphabetSymbol = codes "lone alphabet symbol present"
kind_text kind.Padding = codes "incorrect padding"

-- the closure returned the error e; the bytes that it was called with are a prefix of `all`
pub record IsRefused {E A : Type 0} (all bytes : List ℕ) (e : E) (r : Result A (DecodeError E))
    : Type 0 where
  pub bytes_begin : IsPrefix bytes all
  pub answer : r ≡ Err (decode.WriteError e)

-- the message of an error of `decode` or of a decoder; output is the message of an error of the
-- closure, if it has one
abbrev pub decode_error_text : {E : Type 0} → (E → Option (List ℕ)) → DecodeError E
    → Option (List ℕ)
decode_error_text output (decode.InvalidBase64 kind) =
    Some (codes "base64 not valid: " ++ kind_text kind)
decode_error_text output (decode.WriteError e) =
    option_map (λ text. codes "write error: " ++ text) (output e)

-- Errors of decoding into a vector

-- the text is not valid, and this is the kind of its fault; or allocation failed
abbrev pub IsErrorOf : List ℕ → DecodeToVecError → Type 0
IsErrorOf u (to_vec.InvalidBase64 kind) = (is_valid u ≡ false) × (kind ≡ kind_of u)
IsErrorOf u to_vec.OutOfMemory = ⊤

-- the body is base64 that is not valid, and this is the kind of its fault; or allocation failed
abbrev pub IsBodyErrorOf : Outcome → DecodeToVecError → Type 0
IsBodyErrorOf body (to_vec.InvalidBase64 kind) = (bytes : List ℕ) × (body ≡ Bad bytes kind)
IsBodyErrorOf body to_vec.OutOfMemory = ⊤

abbrev pub vec_error_text : DecodeToVecError → List ℕ
vec_error_text (to_vec.InvalidBase64 kind) = kind_text kind
vec_error_text to_vec.OutOfMemory = codes "out of memory"

-- Errors of `Mime::from_str`

-- the result says that the text is not a MIME type
abbrev pub IsParsingError : Result Mime MimeFromStrError → Type 0
IsParsingError (Err (from_str.Parsing e)) = Unit {0}
IsParsingError r = ⊥

abbrev pub mime_error_text : MimeFromStrError → List ℕ
mime_error_text (from_str.Parsing inner) = codes "invalid mime type"
mime_error_text from_str.OutOfMemory = codes "out of memory"

-- Errors of `DataUrl::process`

abbrev pub url_error_text : DataUrlError → List ℕ
url_error_text url.NotADataUrl = codes "not a valid data url"
url_error_text url.NoComma = codes "data url is missing comma delimiting attributes and body"
url_error_text url.OutOfMemory = codes "out of memory"
