-- What the parts of a run write.
use Rattle.std.proofs.Common.{◌≡◌, ℕ, List, [], ◌∷◌, ◌++◌, Option, None, Some, option_map, Result, Ok, Err, refl, sym}
use Rattle.std.proofs.Common.{ap, ◌∙◌, subst, chars}
use Rattle.data_url.specs.Base64.{Kind}
use Rattle.data_url.specs.DataUrl.{Decodes, IsFragmentOf, fragment_text, url_body, url_tail}
use Rattle.data_url.specs.Fetch.{Bad, Good, Outcome}
use Rattle.data_url.specs.Mime.{HasNoRecord}
use Rattle.data_url.specs.Errors.{IsParsingError}
use Rattle.data_url.specs.Url.{without_tabs_and_newlines, fragment, in_fragment_set, percent_encoding}
use Rattle.data_url.specs.declared.DataUrl.{DataUrl}
use Rattle.data_url.specs.declared.fragment.FragmentIdentifier.{FragmentIdentifier}
use Rattle.data_url.specs.declared.forgiving_base64.DecodeError.{DecodeError}
use Rattle.data_url.specs.declared.forgiving_base64.DecodeError.TheVariants.{InvalidBase64}
use Rattle.data_url.specs.declared.mime.Mime.{Mime}
use Rattle.data_url.specs.declared.mime.MimeFromStrError.{MimeFromStrError}
use Rattle.data_url.specs.declared.mime.MimeFromStrError.TheVariants.{Parsing}
use Rattle.data_url.specs.declared.mime.MimeParsingError.{MimeParsingError}
use Rattle.data_url.proofs.api.{body_answer, body_fault, body_good, fragment_dropped}
use Rattle.dataurl.specs.Output.{End, IsFragmentOutput, IsTextOutput, fragment_of_bad, some_fragment, type_of}
use Rattle.dataurl.specs.Output.{without_fragment, without_record}
use Rattle.dataurl.specs.Steps.Parts.{IsExactly, IsWrittenOf, WritesOf, cut_output, exactly, fragment_line, no_output}
use Rattle.dataurl.specs.Steps.Parts.{url_fragment, whole_output}
use Rattle.dataurl.specs.Steps.Gathering.{IsStreamed, Streams, all_streamed, cut_short}
use Rattle.dataurl.specs.Steps.Writing.{IsWritten, Writes, all, beginning}
use Rattle.dataurl.specs.declared.fault.Fault.TheVariants.{Base64, Memory, Mime as no_mime, Write}
use Rattle.dataurl.specs.declared.fault.WriteFailed.{WriteFailed}
use Rattle.dataurl.specs.declared.command.Command.TheVariants.{Canonical}
use Rattle.dataurl.proofs.OutputLemmas.{appends_none}

-- if each output of one kind is one of another kind, what was written of the first was written of the second
written_map : {P Q : List ℕ → End → Type 0} → ((w : List ℕ) (e : End) → P w e → Q w e) → (w : List ℕ) (e : End)
    → IsWrittenOf P w e → IsWrittenOf Q w e
written_map f w e (whole_output h) = whole_output (f w e h)
written_map f w e (cut_output {whole = whole} {end = end} h p) = cut_output (f whole end h) p
written_map f w e no_output = no_output

-- if one description of an output implies another, what was written of it is the same by both
pub writes_map : {P Q : List ℕ → End → Type 0} {held now : Option (List ℕ)} {r : End}
    → ((w : List ℕ) (e : End) → P w e → Q w e) → WritesOf P held now r → WritesOf Q held now r
writes_map {r = r} f h = record {
  written = h.written;
  appended = h.appended;
  is_written = written_map f h.written r h.is_written;
}

-- what was streamed of an output was written of it
streamed_written : {P : List ℕ → End → Type 0} (w : List ℕ) (e : End) → IsStreamed P w e → IsWrittenOf P w e
streamed_written w e (all_streamed h) = whole_output h
streamed_written w e (cut_short h b) = cut_output h b

-- an output that was streamed was written
pub writes_streamed : {P : List ℕ → End → Type 0} {held now : Option (List ℕ)} {r : End} → Streams P held now r
    → WritesOf P held now r
writes_streamed {r = r} h = record {
  written = h.written;
  appended = h.appended;
  is_written = streamed_written h.written r h.is_streamed;
}

-- if P is true of some bytes and an end without an error, it is true of an output of exactly these bytes
exactly_is : (P : List ℕ → End → Type 0) (bytes w : List ℕ) (e : End) → P bytes (Ok tt) → IsExactly bytes w e → P w e
exactly_is P bytes w e p exactly = p

-- an output whose bytes are known
pub writes_as : {P : List ℕ → End → Type 0} {bytes : List ℕ} {held now : Option (List ℕ)} {r : End} → P bytes (Ok tt)
    → WritesOf (IsExactly bytes) held now r → WritesOf P held now r
writes_as {P} {bytes} p h = writes_map (λ w e x. exactly_is P bytes w e p x) h

-- an output of no bytes is written by writing nothing
pub writes_nothing : {P : List ℕ → End → Type 0} {r : End} (held : Option (List ℕ)) → P [] r → WritesOf P held held r
writes_nothing held p = record { written = []; appended = appends_none held; is_written = whole_output p }

-- a failed allocation may be returned for any output if nothing is written
pub writes_no_memory : {P : List ℕ → End → Type 0} (held : Option (List ℕ)) → WritesOf P held held (Err Memory)
writes_no_memory held = record { written = []; appended = appends_none held; is_written = no_output }

-- if writing some bytes returned `Ok`, an output of exactly these bytes was written as a whole
exact_whole : (bytes w : List ℕ) (r : Result (Unit {0}) WriteFailed) → r ≡ Ok tt → IsWritten bytes w r
    → IsWrittenOf (IsExactly bytes) w (Ok tt)
exact_whole bytes w r e all = whole_output exactly
exact_whole bytes w r e (beginning p) = absurd (let k = e in cc)

-- if writing some bytes returned an error, an output of exactly these bytes was cut short by a failed write
exact_cut : (bytes w : List ℕ) (r : Result (Unit {0}) WriteFailed) (failed : WriteFailed) → r ≡ Err failed
    → IsWritten bytes w r → IsWrittenOf (IsExactly bytes) w (Err Write)
exact_cut bytes w r failed e all = absurd (let k = e in cc)
exact_cut bytes w r failed e (beginning p) = cut_output exactly p

-- if these bytes are written, the output that is exactly these bytes is written
pub writes_exactly : {bytes : List ℕ} {held now : Option (List ℕ)} → Writes bytes held now (Ok tt)
    → WritesOf (IsExactly bytes) held now (Ok tt)
writes_exactly {bytes} h = record {
  written = h.written;
  appended = h.appended;
  is_written = exact_whole bytes h.written (Ok tt) refl h.is_written;
}

-- if a write of these bytes fails, a part of the output that is exactly these bytes is written
pub writes_beginning : {bytes : List ℕ} {held now : Option (List ℕ)} {failed : WriteFailed}
    → Writes bytes held now (Err failed) → WritesOf (IsExactly bytes) held now (Err Write)
writes_beginning {bytes} {failed = failed} h = record {
  written = h.written;
  appended = h.appended;
  is_written = exact_cut bytes h.written (Err failed) failed refl h.is_written;
}

-- MIME types

-- if a text does not parse as a MIME type, the command `type` writes nothing and ends with that fault
pub type_refused : (x : List ℕ) (r : Result Mime MimeFromStrError) (e : MimeFromStrError) (p : MimeParsingError)
    → r ≡ Err e → e ≡ Parsing p → (IsParsingError r → HasNoRecord (chars x)) → IsTextOutput x Canonical [] (Err no_mime)
type_refused x r e p h k refused =
    let P : MimeFromStrError → Type 0 = λ f. IsParsingError (Err f) in
    type_of (without_record (refused (subst IsParsingError (sym h) (subst P (sym k) tt))))

-- Fragments

-- the encoded fragment and a line feed, or nothing if there is no fragment
abbrev encoded_line : Option (List ℕ) → List ℕ
encoded_line None = []
encoded_line (Some f) = percent_encoding in_fragment_set f ++ 10 ∷ []

-- the output for a fragment after a good body is the line of the encoded fragment
line_is : (bytes : List ℕ) (f : Option (List ℕ))
    → IsFragmentOutput (Good bytes) (option_map (percent_encoding in_fragment_set) f) (encoded_line f) (Ok tt)
line_is bytes None = without_fragment
line_is bytes (Some f) = some_fragment

-- the output for the fragment of a tail is the line of the fragment that was found
found_line : (tail bytes : List ℕ) (found : Option FragmentIdentifier) → IsFragmentOf tail found
    → IsFragmentOutput (Good bytes) (option_map (percent_encoding in_fragment_set)
    (fragment (without_tabs_and_newlines tail)))
    (encoded_line (option_map without_tabs_and_newlines (option_map fragment_text found))) (Ok tt)
found_line tail bytes found h =
    let same : option_map without_tabs_and_newlines (option_map fragment_text found) ≡ fragment
    (without_tabs_and_newlines tail) = ap (option_map without_tabs_and_newlines) h ∙ sym (fragment_dropped tail) in
    let P : Option (List ℕ) → Type 0 =
    λ f. IsFragmentOutput (Good bytes) (option_map (percent_encoding in_fragment_set) f)
    (encoded_line (option_map without_tabs_and_newlines (option_map fragment_text found))) (Ok tt) in
    subst P same (line_is bytes (option_map without_tabs_and_newlines (option_map fragment_text found)))

module _ {F E : Type 0} {step : F → List ℕ → Result (Unit {0}) E → F → Type 0} {f g : F} {most : ℕ}
    {r : Result (Option FragmentIdentifier) (DecodeError E)} where
  -- if decoding a body returned `Ok`, the output for the URL's fragment is the line of the fragment that was found
  of_found : (url : DataUrl) {x : Option FragmentIdentifier}
      → Decodes step f most (url_body url) (IsFragmentOf (url_tail url)) r g → r ≡ Ok x
      → IsFragmentOutput (url_body url) (url_fragment url)
      (encoded_line (option_map without_tabs_and_newlines (option_map fragment_text x))) (Ok tt)
  of_found url {x} h e =
      let good = body_good h e in
      let P : Outcome → Type 0 =
      λ o. IsFragmentOutput o (url_fragment url)
      (encoded_line (option_map without_tabs_and_newlines (option_map fragment_text x))) (Ok tt) in
      subst P (sym good.1) (found_line (url_tail url) good.0 x (body_answer h e))

  -- if decoding a body returns a fragment, its line is the output
  pub fragment_there : (url : DataUrl) {found : FragmentIdentifier}
      → Decodes step f most (url_body url) (IsFragmentOf (url_tail url)) r g → r ≡ Ok (Some found)
      → IsFragmentOutput (url_body url) (url_fragment url) (fragment_line found) (Ok tt)
  fragment_there url h e = of_found url h e

  -- if decoding a body returns no fragment, the output is empty
  pub fragment_missing : (url : DataUrl) → Decodes step f most (url_body url) (IsFragmentOf (url_tail url)) r g
      → r ≡ Ok None → IsFragmentOutput (url_body url) (url_fragment url) [] (Ok tt)
  fragment_missing url h e = of_found url h e

  -- if the base64 of a body has a fault, the output is empty, and the end is that fault
  pub fragment_refused : (url : DataUrl) {kind kind' : _}
      → Decodes step f most (url_body url) (IsFragmentOf (url_tail url)) r g → r ≡ Err (InvalidBase64 kind)
      → kind' ≡ kind → IsFragmentOutput (url_body url) (url_fragment url) [] (Err (Base64 kind'))
  fragment_refused url {kind} {kind'} h e k =
      let bad = body_fault h e in
      let P : Outcome → Type 0 = λ o. IsFragmentOutput o (url_fragment url) [] (Err (Base64 kind')) in
      let Q : Kind → Type 0 = λ j. IsFragmentOutput (Bad bad.0 j) (url_fragment url) [] (Err (Base64 kind')) in
      subst P (sym bad.1) (subst Q k fragment_of_bad)
