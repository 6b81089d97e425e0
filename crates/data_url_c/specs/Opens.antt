-- What opening a URL returns: its MIME type, its tail, and whether its body is base64.
use Rattle.std.specs.Prelude.{◌+◌, ◌≡◌, ◌≤◌, Err, IsUtf8, List, Ok, Option, Some, drop, false, length, take, ℕ}
use Rattle.data_url.specs.Fetch.{Accepted, has_base64_suffix, header_of, mime_text, outcome, plain_body, staged}
use Rattle.data_url.specs.Fetch.{tail_of}
use Rattle.data_url.specs.Mime.{IsRecordOf, Record}
use Rattle.data_url_c.specs.Answers.{Crosses, Given}
use Rattle.data_url.specs.Parts.{parts_of}
use Rattle.data_url_c.specs.Forms.{serialised}
use Rattle.data_url_c.specs.Gives.{RefusesUrl}
use Rattle.data_url_c.specs.declared.answer.DataUrlAnswer.{DataUrlAnswer}
use Rattle.data_url_c.specs.declared.open.DataUrlOpened.{DataUrlOpened}

-- the result without the tail: the status and the length of the MIME type
abbrev pub answer_of : DataUrlOpened → DataUrlAnswer
answer_of r = record { status = r.status; len = r.len }

-- r holds the start of the tail in the bytes x, its length, and whether the body is base64. The body
-- is that of the tail, and the text is the MIME type of the header, in its form.
pub record IsOpened (form : Record → List ℕ) (x text : List ℕ) (r : DataUrlOpened) : Type 0 where
  pub header : List ℕ
  pub mime : Record
  pub fragment : Option (List ℕ)
  pub is_text : IsUtf8 x
  pub header_is : header_of x ≡ Some header
  pub record_is : IsRecordOf (mime_text header) mime
  pub text_is : text ≡ form mime
  pub base64_is : r.is_base64 ≡ has_base64_suffix header
  pub within : r.tail + r.tail_len ≤ length x
  pub tail_is : tail_of x ≡ Some (take r.tail_len (drop r.tail x))
  pub staged_is : staged x ≡ Accepted (mime_text header)
      (outcome r.is_base64 (plain_body (take r.tail_len (drop r.tail x)))) fragment

-- the result has no tail
pub record HasNoTail (r : DataUrlOpened) : Type 0 where
  pub tail_is : r.tail ≡ 0
  pub len_is : r.tail_len ≡ 0
  pub base64_is : r.is_base64 ≡ false

-- what opening returns: the MIME type and the tail, or why there is no URL
abbrev pub GivesUrl : (Record → List ℕ) → List ℕ → Given → DataUrlOpened → Type 0
GivesUrl form x (Ok text) r = IsOpened form x text.items r
GivesUrl form x (Err refusal) r = RefusesUrl x refusal × HasNoTail r

-- the result of opening the bytes x, with the output before the call (old) and after it (new), and the
-- form in which the MIME type is written
pub record OpensAs (form : Record → List ℕ) (x old new : List ℕ) (r : DataUrlOpened) : Type 0 where
  pub given : Given
  pub is_given : GivesUrl form x given r
  pub crosses : Crosses given old new (answer_of r)

-- opening the bytes x, with the MIME type serialised
abbrev pub Opens : List ℕ → List ℕ → List ℕ → DataUrlOpened → Type 0
Opens x old new r = OpensAs serialised x old new r

-- opening the bytes x, with the MIME type in parts
abbrev pub OpensInParts : List ℕ → List ℕ → List ℕ → DataUrlOpened → Type 0
OpensInParts x old new r = OpensAs parts_of x old new r
