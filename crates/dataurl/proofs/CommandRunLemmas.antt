-- A command whose input was read whole.
use Rattle.std.proofs.Common.{◌≡◌, ℕ, List, [], Option, Result, Ok, Err, String, string_bytes, IsUtf8, refl, ◌∙◌, subst}
use Rattle.std.specs.Global.{Global}
use Rattle.std.specs.Io.KnownBytes.{IsAtEnd}
use Rattle.data_url.specs.MimeType.{record_of}
use Rattle.data_url.specs.DataUrl.{IsUrlOf, mime_of as mime_type_of, url_body}
use Rattle.data_url.specs.declared.DataUrl.{DataUrl}
use Rattle.data_url.specs.declared.mime.Mime.{Mime}
use Rattle.dataurl.specs.Command.{TakesText, TakesUrl}
use Rattle.dataurl.specs.Steps.Input.{IsReadText, ReadsText, no_text_memory, not_utf8, text_read_failed, whole_text}
use Rattle.dataurl.specs.Output.{End, IsBodyOutput, IsFragmentOutput, IsTextOutput, body_of, fragment_of, mime_of}
use Rattle.dataurl.specs.Output.{of_no_text, of_text, record_line, record_of_url, without_comma, without_scheme}
use Rattle.dataurl.specs.Runs.{IsResult, Runs, complete, no_memory, not_read, not_written}
use Rattle.dataurl.specs.Steps.Parts.{IsExactly, IsUrlFor, IsWrittenOf, WritesOf, cut_output, no_comma_is, no_output}
use Rattle.dataurl.specs.Steps.Parts.{no_scheme_is, no_url_memory, url_fragment, url_is, whole_output}
use Rattle.dataurl.specs.declared.fault.Fault.{Fault}
use Rattle.dataurl.specs.declared.command.Command.{Command}
use Rattle.dataurl.specs.declared.command.Command.TheVariants.{Body, Fragment, MimeType}
use Rattle.dataurl.proofs.OutputLemmas.{appends_none}
use Rattle.dataurl.proofs.StepLemmas.{writes_as, writes_map, writes_no_memory, writes_nothing}

-- URLs

-- if the result for a text is `Ok` of a URL, it is the URL of the text
url_for : (x : List ℕ) (r : Result DataUrl Fault) (url : DataUrl) → r ≡ Ok url → IsUrlFor x r → IsUrlOf x url
url_for x r url e (url_is u h) = let same : u ≡ url = cc in subst (IsUrlOf x) same h
url_for x r url e (no_scheme_is h) = absurd (let k = e in cc)
url_for x r url e (no_comma_is h) = absurd (let k = e in cc)
url_for x r url e (no_url_memory h) = absurd (let k = e in cc)

-- writing the body of a URL is what the command `body` writes for its text
pub body_writes_of : {x : List ℕ} {url : DataUrl} {held now : Option (List ℕ)} {r : End} → IsUrlFor x (Ok url)
    → WritesOf (IsBodyOutput (url_body url)) held now r → WritesOf (IsTextOutput x Body) held now r
body_writes_of {x} {url} h w = let u = url_for x (Ok url) url refl h in writes_map (λ s e k. body_of u.staged_is k) w

-- writing the fragment of a URL is what the command `fragment` writes for its text
pub fragment_writes_of : {x : List ℕ} {url : DataUrl} {held now : Option (List ℕ)} {r : End} → IsUrlFor x (Ok url)
    → WritesOf (IsFragmentOutput (url_body url) (url_fragment url)) held now r
    → WritesOf (IsTextOutput x Fragment) held now r
fragment_writes_of {x} {url} h w =
    let u = url_for x (Ok url) url refl h in
    writes_map (λ s e k. fragment_of u.staged_is k) w

-- writing the line of the MIME type of a URL is what the command `mime` writes for its text
pub mime_writes_of : {x : List ℕ} {url : DataUrl} {held now : Option (List ℕ)} {r : End} (mime : Mime)
    → IsUrlFor x (Ok url) → mime ≡ mime_type_of url → WritesOf (IsExactly (record_line (record_of mime))) held now r
    → WritesOf (IsTextOutput x MimeType) held now r
mime_writes_of {x} {url} {held} {now} {r} mime h e w =
    let u = url_for x (Ok url) url refl h in
    let P : Mime → Type 0 = λ m. WritesOf (IsExactly (record_line (record_of m))) held now r in
    writes_as (mime_of u.staged_is (record_of_url {m = record_of (mime_type_of url)} u.record_is)) (subst P e w)

-- if a text is refused as a URL, a command that takes a URL writes nothing, and ends with that fault
refused_as : (x : List ℕ) (c : Command) (held : Option (List ℕ)) (r : Result DataUrl Fault) (fault : Fault) → TakesUrl c
    → r ≡ Err fault → IsUrlFor x r → WritesOf (IsTextOutput x c) held held (Err fault)
refused_as x c held r fault t e (url_is u h) = absurd (let k = e in cc)
refused_as x c held r fault t e (no_scheme_is h) = let P : Fault → Type 0 =
    λ f. WritesOf (IsTextOutput x c) held held (Err f) in subst P (cc) (writes_nothing held (without_scheme t h))
refused_as x c held r fault t e (no_comma_is h) = let P : Fault → Type 0 =
    λ f. WritesOf (IsTextOutput x c) held held (Err f) in subst P (cc) (writes_nothing held (without_comma t h))
refused_as x c held r fault t e (no_url_memory h) = let P : Fault → Type 0 =
    λ f. WritesOf (IsTextOutput x c) held held (Err f) in subst P (cc) (writes_no_memory held)

-- if there is no URL for a text, a command that takes one writes nothing and ends with that fault
pub refused_url : {x : List ℕ} {fault : Fault} (c : Command) (held : Option (List ℕ)) → TakesUrl c
    → IsUrlFor x (Err fault) → WritesOf (IsTextOutput x c) held held (Err fault)
refused_url {x} {fault} c held t h = refused_as x c held (Err fault) fault t refl h

-- Texts

record WasRead (left : Option (List ℕ)) (input : List ℕ) (text : String Global) : Type 0 where
  pub bytes_are : string_bytes text ≡ input
  pub utf8 : IsUtf8 input
  pub end : IsAtEnd left

-- if reading a text returned `Ok`, it returned the whole input
was_read : (left : Option (List ℕ)) (input : List ℕ) (r : Result (String Global) Fault) (text : String Global)
    → r ≡ Ok text → IsReadText left input r → WasRead left input text
was_read left input r text e (whole_text {text = t} b u end) = let same : t ≡ text = cc in let P : String Global
    → Type 0 = λ s. string_bytes s ≡ input in record { bytes_are = subst P same b; utf8 = u; end = end }
was_read left input r text e (not_utf8 u end) = absurd (let k = e in cc)
was_read left input r text e no_text_memory = absurd (let k = e in cc)
was_read left input r text e text_read_failed = absurd (let k = e in cc)

-- if the whole input is a text, what a command writes for that text is its result for the input
text_run : {c : Command} {left : Option (List ℕ)} {input : List ℕ} → TakesText c → IsUtf8 input → IsAtEnd left
    → (written : List ℕ) (r : End) → IsWrittenOf (IsTextOutput input c) written r → IsResult input left c written r
text_run t u end written r (whole_output h) = complete end (of_text u h)
text_run t u end written r (cut_output h p) = not_written end (of_text u h) p
text_run t u end written r no_output = no_memory t

-- reading a text and then writing the output for it is a run of a command that takes a text
pub text_runs : {c : Command} {unread left held now : Option (List ℕ)} {text : String Global} {r : End} (x : List ℕ)
    → TakesText c → ReadsText unread left (Ok text) → x ≡ string_bytes text → WritesOf (IsTextOutput x c) held now r
    → Runs c unread left held now r
text_runs {c} {unread} {left} {held} {now} {text} {r} x t h e w =
    let k = was_read left h.input (Ok text) text refl h.is_read in
    let P : List ℕ → Type 0 = λ s. IsWrittenOf (IsTextOutput s c) w.written r in
    record {
      input = h.input;
      written = w.written;
      consumed = h.consumed;
      appended = w.appended;
      is_run = text_run t k.utf8 k.end w.written r (subst P (e ∙ k.bytes_are) w.is_written);
    }

-- if reading a text returned a fault, a command that takes a text writes nothing, and ends with that fault
unread_run : (c : Command) (left : Option (List ℕ)) (input : List ℕ) (r : Result (String Global) Fault) (fault : Fault)
    → TakesText c → r ≡ Err fault → IsReadText left input r → IsResult input left c [] (Err fault)
unread_run c left input r fault t e (whole_text b u end) = absurd (let k = e in cc)
unread_run c left input r fault t e (not_utf8 u end) =
    let P : Fault → Type 0 = λ f. IsResult input left c [] (Err f) in
    subst P (cc) (complete end (of_no_text t u))
unread_run c left input r fault t e no_text_memory =
    let P : Fault → Type 0 = λ f. IsResult input left c [] (Err f) in
    subst P (cc) (no_memory t)
unread_run c left input r fault t e text_read_failed =
    let P : Fault → Type 0 = λ f. IsResult input left c [] (Err f) in
    subst P (cc) (not_read t)

-- if the text is not read, a command that takes a text ends with that fault and writes nothing
pub text_not_read : {c : Command} {unread left : Option (List ℕ)} {fault : Fault} (held : Option (List ℕ)) → TakesText c
    → ReadsText unread left (Err fault) → Runs c unread left held held (Err fault)
text_not_read {c} {unread} {left} {fault} held t h =
    record {
      input = h.input;
      written = [];
      consumed = h.consumed;
      appended = appends_none held;
      is_run = unread_run c left h.input (Err fault) fault t refl h.is_read;
    }
