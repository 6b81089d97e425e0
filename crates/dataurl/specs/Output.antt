-- What each command writes for an input, and how it ends.
use Rattle.std.specs.Prelude.{[], ◌++◌, ◌∷◌, ◌≡◌, Err, IsUtf8, List, None, Ok, Option, Result, Some, chars}
use Rattle.std.specs.Prelude.{encode_utf8_all, false, true, ℕ}
use Rattle.data_url.specs.Base64.{decoded, complete_bytes, first_fault, is_valid, kind_of}
use Rattle.data_url.specs.Fetch.{Accepted, Bad, Good, NoComma as no_comma, NoScheme, Outcome, staged}
use Rattle.data_url.specs.Mime.{HasNoRecord, IsRecordOf, Parses, Record, printed}
use Rattle.dataurl.specs.Command.{TakesText, TakesUrl}
use Rattle.dataurl.specs.declared.command.Command.TheVariants.{Base64 as base64, Body, Canonical, Fragment, MimeType}
use Rattle.dataurl.specs.declared.command.Command.{Command}
use Rattle.dataurl.specs.declared.fault.Fault.TheVariants.{Base64, Mime, NoComma, NotADataUrl, NotUtf8}
use Rattle.dataurl.specs.declared.fault.Fault.{Fault}

-- how a command ends
abbrev pub End : Type 0
End = Result (Unit {0}) Fault

-- the bytes of a body; or, if its base64 is not valid, the bytes before the fault, and that fault
pub data IsBodyOutput : Outcome → List ℕ → End → Type 0 where
  good_body : {bytes : List ℕ} → IsBodyOutput (Good bytes) bytes (Ok tt)
  bad_body : {bytes : List ℕ} {kind : _} → IsBodyOutput (Bad bytes kind) bytes (Err (Base64 kind))

-- a serialised record, as UTF-8, and a line feed
abbrev pub record_line : Record → List ℕ
record_line m = encode_utf8_all (printed m) ++ 10 ∷ []

-- the line of the MIME type of a URL
pub data IsRecordOutput (text : List ℕ) : List ℕ → End → Type 0 where
  record_of_url : {m : Record} → IsRecordOf text m → IsRecordOutput text (record_line m) (Ok tt)

-- the encoded fragment and a line feed, or nothing if there is no fragment; if the base64 of the body
-- is not valid, nothing, and its fault
pub data IsFragmentOutput : Outcome → Option (List ℕ) → List ℕ → End → Type 0 where
  some_fragment : {bytes fragment : List ℕ}
      → IsFragmentOutput (Good bytes) (Some fragment) (fragment ++ 10 ∷ []) (Ok tt)
  without_fragment : {bytes : List ℕ} → IsFragmentOutput (Good bytes) None [] (Ok tt)
  fragment_of_bad : {bytes : List ℕ} {kind : _} {fragment : Option (List ℕ)}
      → IsFragmentOutput (Bad bytes kind) fragment [] (Err (Base64 kind))

-- the line of the MIME type that a text is, or nothing if it is not a MIME type
pub data IsTypeOutput (text : List ℕ) : List ℕ → End → Type 0 where
  record_of_text : {m : Record} → Parses text m → IsTypeOutput text (record_line m) (Ok tt)
  without_record : HasNoRecord text → IsTypeOutput text [] (Err Mime)

-- the output for a text, from the result of the data: URL processor or from its MIME type
pub data IsTextOutput (x : List ℕ) : Command → List ℕ → End → Type 0 where
  without_scheme : {c : Command} → TakesUrl c → staged x ≡ NoScheme
      → IsTextOutput x c [] (Err NotADataUrl)
  without_comma : {c : Command} → TakesUrl c → staged x ≡ no_comma
      → IsTextOutput x c [] (Err NoComma)
  body_of : {text written : List ℕ} {body : Outcome} {fragment : Option (List ℕ)} {end : End}
      → staged x ≡ Accepted text body fragment → IsBodyOutput body written end
      → IsTextOutput x Body written end
  mime_of : {text written : List ℕ} {body : Outcome} {fragment : Option (List ℕ)} {end : End}
      → staged x ≡ Accepted text body fragment → IsRecordOutput text written end
      → IsTextOutput x MimeType written end
  fragment_of : {text written : List ℕ} {body : Outcome} {fragment : Option (List ℕ)} {end : End}
      → staged x ≡ Accepted text body fragment → IsFragmentOutput body fragment written end
      → IsTextOutput x Fragment written end
  type_of : {written : List ℕ} {end : End} → IsTypeOutput (chars x) written end
      → IsTextOutput x Canonical written end

-- the output for a whole input. Base64 with a fault is not read to its end, so there is no case for it.
pub data IsOutput (x : List ℕ) : Command → List ℕ → End → Type 0 where
  of_text : {c : Command} {written : List ℕ} {end : End} → IsUtf8 x → IsTextOutput x c written end
      → IsOutput x c written end
  of_no_text : {c : Command} → TakesText c → (IsUtf8 x → ⊥) → IsOutput x c [] (Err NotUtf8)
  of_base64 : is_valid x ≡ true → IsOutput x base64 (decoded x) (Ok tt)
  of_no_base64 : first_fault x ≡ None → is_valid x ≡ false
      → IsOutput x base64 (complete_bytes x) (Err (Base64 (kind_of x)))
