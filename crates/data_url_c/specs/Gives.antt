-- What each function returns for its input.
use Rattle.std.specs.Prelude.{[], ◌≡◌, Err, IsUtf8, List, None, Ok, Option, Some, chars, encode_utf8_all, false, true}
use Rattle.std.specs.Prelude.{ℕ}
use Rattle.data_url.specs.Base64.{decoded, complete_bytes, is_valid, kind_of}
use Rattle.data_url.specs.DataUrl.{IsAcceptable}
use Rattle.data_url.specs.Fetch.{Accepted, Bad, Good, NoComma as no_comma, NoScheme, Outcome, staged}
use Rattle.data_url.specs.Mime.{HasNoRecord, IsRecordOf, Parses, Record, printed}
use Rattle.data_url_c.specs.Answers.{Given}
use Rattle.data_url.specs.Parts.{parts_of}
use Rattle.data_url_c.specs.Forms.{serialised}
use Rattle.data_url_c.specs.declared.answer.Refusal.TheVariants.{InvalidBase64, NoComma, NoFragment, NotADataUrl}
use Rattle.data_url_c.specs.declared.answer.Refusal.TheVariants.{NotAMimeType, NotUtf8, OutOfMemory}
use Rattle.data_url_c.specs.declared.answer.Refusal.{Refusal}

-- why bytes are not a data: URL: they are not UTF-8, or the Standard finds no scheme or no comma; or
-- allocation failed for a text that has both
abbrev pub RefusesUrl : List ℕ → Refusal → Type 0
RefusesUrl x NotUtf8 = IsUtf8 x → ⊥
RefusesUrl x NotADataUrl = IsUtf8 x × (staged x ≡ NoScheme)
RefusesUrl x NoComma = IsUtf8 x × (staged x ≡ no_comma)
RefusesUrl x OutOfMemory = IsUtf8 x × IsAcceptable (staged x)
RefusesUrl x NotAMimeType = ⊥
RefusesUrl x NoFragment = ⊥
RefusesUrl x (InvalidBase64 kind before) = ⊥

-- the bytes are the text of a data: URL, with this body and this fragment
pub record IsUrlWith (x : List ℕ) (body : Outcome) (fragment : Option (List ℕ)) : Type 0 where
  pub type_text : List ℕ
  pub is_text : IsUtf8 x
  pub staged_is : staged x ≡ Accepted type_text body fragment

-- the body; or, if its base64 is not valid, the bytes before the fault and the kind of the fault
abbrev pub GivesBody : List ℕ → Given → Type 0
GivesBody x (Ok bytes) = (fragment : Option (List ℕ)) × IsUrlWith x (Good bytes.items) fragment
GivesBody x (Err (InvalidBase64 kind before)) =
    (fragment : Option (List ℕ)) × IsUrlWith x (Bad before.items kind) fragment
GivesBody x (Err refusal) = RefusesUrl x refusal

-- the text is the MIME type of the URL, serialised as UTF-8
pub record IsTypeOfUrl (x text : List ℕ) : Type 0 where
  pub type_text : List ℕ
  pub body : Outcome
  pub fragment : Option (List ℕ)
  pub mime : Record
  pub is_text : IsUtf8 x
  pub staged_is : staged x ≡ Accepted type_text body fragment
  pub record_is : IsRecordOf type_text mime
  pub text_is : text ≡ encode_utf8_all (printed mime)

abbrev pub GivesMime : List ℕ → Given → Type 0
GivesMime x (Ok text) = IsTypeOfUrl x text.items
GivesMime x (Err refusal) = RefusesUrl x refusal

-- the encoded fragment of a URL with a good body, if it has a fragment; for a bad body, the kind of
-- its fault, and no bytes
abbrev pub GivesFragment : List ℕ → Given → Type 0
GivesFragment x (Ok text) = (bytes : List ℕ) × IsUrlWith x (Good bytes) (Some text.items)
GivesFragment x (Err NoFragment) = (bytes : List ℕ) × IsUrlWith x (Good bytes) None
GivesFragment x (Err (InvalidBase64 kind none)) =
    (bytes : List ℕ) × (fragment : Option (List ℕ)) × IsUrlWith x (Bad bytes kind) fragment
    × (none.items ≡ [])
GivesFragment x (Err refusal) = RefusesUrl x refusal

-- a MIME type, in a form
abbrev pub GivesTypeAs : (Record → List ℕ) → List ℕ → Given → Type 0
GivesTypeAs form x (Ok text) =
    (mime : Record) × IsUtf8 x × Parses (chars x) mime × (text.items ≡ form mime)
GivesTypeAs form x (Err NotUtf8) = IsUtf8 x → ⊥
GivesTypeAs form x (Err NotAMimeType) = IsUtf8 x × HasNoRecord (chars x)
GivesTypeAs form x (Err OutOfMemory) = IsUtf8 x × (HasNoRecord (chars x) → ⊥)
GivesTypeAs form x (Err NotADataUrl) = ⊥
GivesTypeAs form x (Err NoComma) = ⊥
GivesTypeAs form x (Err NoFragment) = ⊥
GivesTypeAs form x (Err (InvalidBase64 kind before)) = ⊥

-- a MIME type, serialised
abbrev pub GivesType : List ℕ → Given → Type 0
GivesType x given = GivesTypeAs serialised x given

-- a MIME type, in parts
abbrev pub GivesTypeInParts : List ℕ → Given → Type 0
GivesTypeInParts x given = GivesTypeAs parts_of x given

-- the decoded bytes; or, if the base64 is not valid, the bytes of the groups before the fault and the
-- kind of the fault; or allocation failed
abbrev pub GivesBase64 : List ℕ → Given → Type 0
GivesBase64 x (Ok bytes) = (is_valid x ≡ true) × (bytes.items ≡ decoded x)
GivesBase64 x (Err (InvalidBase64 kind before)) =
    (is_valid x ≡ false) × (kind ≡ kind_of x) × (before.items ≡ complete_bytes x)
GivesBase64 x (Err OutOfMemory) = Unit {0}
GivesBase64 x (Err NotUtf8) = ⊥
GivesBase64 x (Err NotADataUrl) = ⊥
GivesBase64 x (Err NoComma) = ⊥
GivesBase64 x (Err NotAMimeType) = ⊥
GivesBase64 x (Err NoFragment) = ⊥
