-- What a function returns for its input, from what the private functions return.
use Rattle.std.proofs.Common.{◌≡◌, ℕ, Bool, true, false, List, ◌++◌, Option, None, Some, Result, Ok, Err, refl, sym, ap}
use Rattle.std.proofs.Common.{◌∙◌, ◌<◌, ◌^◌, arith, length, subst}
use Rattle.std.specs.Global.{Global}
use Rattle.std.specs.Prelude.{IsUtf8, MatchBool, MatchOption, Vec, chars, option_map}
use denote.RawPtr.{null_ptr}
use Rattle.data_url.specs.Base64.{Kind, complete_bytes, decoded, is_valid, kind_of}
use Rattle.data_url.specs.DataUrl.{IsAcceptable, IsUrlOf, mime_of, url_body, url_tail}
use Rattle.data_url.specs.Errors.{IsParsingError, IsRefused}
use Rattle.data_url.specs.Fetch.{Accepted, Outcome, mime_text, staged}
use Rattle.data_url.specs.Mime.{HasNoRecord, Parses, Record}
use Rattle.data_url.specs.MimeType.{record_of}
use Rattle.data_url.specs.Run.{joined_pieces, refusal}
use Rattle.data_url.proofs.api.{DecodesText, fragment_dropped, run_reads}
use Rattle.data_url.specs.Url.{after, without_tabs_and_newlines, encoded_fragment, fragment as fragment_in}
use Rattle.data_url.specs.Url.{in_fragment_set, percent_encoding}
use Rattle.data_url.specs.declared.DataUrl.{DataUrl}
use Rattle.data_url.specs.declared.forgiving_base64.DecodeError.{DecodeError}
use Rattle.data_url.specs.declared.forgiving_base64.DecodeError.TheVariants as decode
use Rattle.data_url.specs.declared.mime.Mime.{Mime}
use Rattle.data_url.specs.declared.mime.MimeFromStrError.{MimeFromStrError}
use Rattle.data_url.specs.declared.mime.MimeFromStrError.TheVariants.{OutOfMemory as NoMemory, Parsing}
use Rattle.data_url.specs.declared.mime.MimeParsingError.{MimeParsingError}
use Rattle.data_url_c.specs.Answers.{Crosses, Answers, Given}
use Rattle.data_url_c.specs.Gives.{GivesBody, GivesFragment, GivesMime, GivesType, IsUrlWith, RefusesUrl}
use Rattle.data_url_c.specs.Steps.{HasFragment, HasText}
use Rattle.data_url_c.specs.declared.answer.DataUrlAnswer.{DataUrlAnswer}
use Rattle.data_url_c.specs.declared.answer.Refusal.{Refusal}
use Rattle.data_url_c.specs.declared.answer.Refusal.TheVariants.{InvalidBase64, NoComma, NoFragment, NotADataUrl}
use Rattle.data_url_c.specs.declared.answer.Refusal.TheVariants.{NotAMimeType, NotUtf8, OutOfMemory}

-- URLs

-- a text with accepted stages is acceptable
pub accepted : (x : List ℕ) {type_text : List ℕ} {body : Outcome} {fragment : Option (List ℕ)}
    → staged x ≡ Accepted type_text body fragment → IsAcceptable (staged x)
accepted x e = subst IsAcceptable (sym e) tt

-- a fragment without tabs and newlines, percent-encoded, is the encoded fragment, if there is one
encoded_is : (found : Option (List ℕ)) → option_map (percent_encoding in_fragment_set)
    (option_map without_tabs_and_newlines found) ≡ option_map encoded_fragment found
encoded_is None = refl
encoded_is (Some f) = refl

-- the encoded fragment of a URL
abbrev staged_part : DataUrl → Option (List ℕ)
staged_part url = option_map (percent_encoding in_fragment_set) (fragment_in (without_tabs_and_newlines (url_tail url)))

-- a text of a URL has the body and the fragment of that URL
pub url_with : {x : List ℕ} (url : DataUrl) {body : Outcome} {fragment : Option (List ℕ)} → IsUtf8 x → IsUrlOf x url
    → url_body url ≡ body → option_map encoded_fragment (after 35 (url_tail url)) ≡ fragment
    → IsUrlWith x body fragment
url_with url {body} t u b f =
    let e = ap (option_map (percent_encoding in_fragment_set)) (fragment_dropped (url_tail url))
    ∙ encoded_is (after 35 (url_tail url)) ∙ f in
    record {
      type_text = mime_text u.header;
      is_text = t;
      staged_is = u.staged_is ∙ ap (λ o. Accepted (mime_text u.header) o (staged_part url)) b
          ∙ ap (λ o. Accepted (mime_text u.header) body o) e;
    }

-- the body of a text that is not a data: URL
pub body_refused : (x : List ℕ) (refusal : Refusal) → RefusesUrl x refusal → GivesBody x (Err refusal)
body_refused x NotADataUrl h = h
body_refused x NoComma h = h
body_refused x OutOfMemory h = h
body_refused x NotUtf8 h = h
body_refused x NotAMimeType h = h
body_refused x NoFragment h = h
body_refused x (InvalidBase64 kind before) h = absurd h

-- a result that has the fragment of a URL is a result for the text of that URL
pub gives_fragment : {x : List ℕ} (url : DataUrl) → IsUtf8 x → IsUrlOf x url → (given : Given) → HasFragment url given
    → GivesFragment x given
gives_fragment url t u (Ok text) h = (h.0, url_with url t u h.1 h.2)
gives_fragment url t u (Err NoFragment) h = (h.0, url_with url t u h.1 (ap (option_map encoded_fragment) h.2))
gives_fragment url t u (Err (InvalidBase64 kind none)) h = (h.0, _, url_with url t u h.1 refl, h.2)
gives_fragment {x} url t u (Err OutOfMemory) h = (t, accepted x u.staged_is)
gives_fragment url t u (Err NotADataUrl) h = absurd h
gives_fragment url t u (Err NoComma) h = absurd h
gives_fragment url t u (Err NotUtf8) h = absurd h
gives_fragment url t u (Err NotAMimeType) h = absurd h

-- a result that has the serialised MIME type of a URL is a result for the text of that URL
pub gives_mime : {x : List ℕ} (url : DataUrl) {mime : Mime} → IsUtf8 x → IsUrlOf x url → mime ≡ mime_of url
    → (given : Given) → HasText (record_of mime) given → GivesMime x given
gives_mime url t u e (Ok text) h =
    let P : Mime → Type 0 = λ m. HasText (record_of m) (Ok text) in
    record {
      type_text = _;
      body = _;
      fragment = _;
      mime = record_of (mime_of url);
      is_text = t;
      staged_is = u.staged_is;
      record_is = u.record_is;
      text_is = subst P e h;
    }
gives_mime {x} url t u e (Err OutOfMemory) h = (t, accepted x u.staged_is)
gives_mime url t u e (Err NoFragment) h = absurd h
gives_mime url t u e (Err (InvalidBase64 kind none)) h = absurd h
gives_mime url t u e (Err NotADataUrl) h = absurd h
gives_mime url t u e (Err NoComma) h = absurd h
gives_mime url t u e (Err NotUtf8) h = absurd h
gives_mime url t u e (Err NotAMimeType) h = absurd h

-- MIME types

-- a result that has the serialisation of a record is a result for a text that parses to that record
pub gives_type : {x s : List ℕ} {mime : Record} → IsUtf8 x → s ≡ x → Parses (chars s) mime → (given : Given)
    → HasText mime given → GivesType x given
gives_type {mime = mime} t e p (Ok text) h = let P : List ℕ → Type 0 = λ y. Parses (chars y) mime in
    (mime, t, subst P e p, h)
gives_type {mime = mime} t e p (Err OutOfMemory) h = let P : List ℕ → Type 0 = λ y. Parses (chars y) mime in
    (t, λ none. none mime (subst P e p))
gives_type t e p (Err NoFragment) h = absurd h
gives_type t e p (Err (InvalidBase64 kind none)) h = absurd h
gives_type t e p (Err NotADataUrl) h = absurd h
gives_type t e p (Err NoComma) h = absurd h
gives_type t e p (Err NotUtf8) h = absurd h
gives_type t e p (Err NotAMimeType) h = absurd h

-- if parsing a text as a MIME type returns a parsing error, the text has no record
pub no_record : {x s : List ℕ} {r : Result Mime MimeFromStrError} {e : MimeFromStrError} {p : MimeParsingError} → s ≡ x
    → r ≡ Err e → e ≡ Parsing p → (IsParsingError r → HasNoRecord (chars s)) → HasNoRecord (chars x)
no_record same h k refused =
    let P : MimeFromStrError → Type 0 = λ f. IsParsingError (Err f) in
    let Q : List ℕ → Type 0 = λ y. HasNoRecord (chars y) in
    subst Q same (refused (subst IsParsingError (sym h) (subst P (sym k) tt)))

-- if parsing a text as a MIME type fails because of memory, it is false that the text has no record
pub some_record : {x s : List ℕ} {r : Result Mime MimeFromStrError} {e : MimeFromStrError} → s ≡ x → r ≡ Err e
    → e ≡ NoMemory → (HasNoRecord (chars s) → IsParsingError r) → HasNoRecord (chars x) → ⊥
some_record same h k refused none =
    let Q : List ℕ → Type 0 = λ y. HasNoRecord (chars y) in
    let P : MimeFromStrError → Type 0 = λ f. IsParsingError (Err f) in
    subst P k (subst IsParsingError h (refused (subst Q (sym same) none)))

-- Base64

-- if the result is that base64 is not valid, the closure returned no error, and the match implies P
given_by : {E : Type 0} (o : Option E) (P : Type 0) (all bytes : List ℕ) (r : Result (Unit {0}) (DecodeError E))
    (kind : Kind) → r ≡ Err (decode.InvalidBase64 kind) → MatchOption o P (λ e. IsRefused all bytes e r)
    → (o ≡ None) × P
given_by None P all bytes r kind q h = (refl, h)
given_by (Some e) P all bytes r kind q h = absurd (let k = h.answer in cc)

-- if the result is that base64 is not valid, the text is not valid, and the kind and the bytes are those of its fault
not_valid : {E : Type 0} (v : Bool) (x bytes : List ℕ) (r : Result (Unit {0}) (DecodeError E)) (kind : Kind)
    → r ≡ Err (decode.InvalidBase64 kind)
    → MatchBool v ((bytes ≡ decoded x) × (r ≡ Ok tt)) ((bytes ≡ complete_bytes x)
    × (r ≡ Err (decode.InvalidBase64 (kind_of x))))
    → (v ≡ false) × (kind ≡ kind_of x) × (bytes ≡ complete_bytes x)
not_valid true x bytes r kind q h = absurd (let k = h.1 in cc)
not_valid false x bytes r kind q h = (refl, let k = h.1 in cc, h.0)

-- what a closure that appends its bytes holds for a text that is not valid
pub decodes_before : {F E : Type 0} {step : F → List ℕ → Result (Unit {0}) E → F → Type 0} {f f' : F} {x : List ℕ}
    {r : Result (Unit {0}) (DecodeError E)} {kind : Kind} → DecodesText step f x r f'
    → r ≡ Err (decode.InvalidBase64 kind) → (J : F → List ℕ)
    → ((g : F) (piece : List ℕ) (g' : F) → step g piece (Ok tt) g' → J g' ≡ J g ++ piece)
    → (is_valid x ≡ false) × (kind ≡ kind_of x) × (J f' ≡ J f ++ complete_bytes x)
decodes_before {step = step} {f = f} {f' = f'} {x = x} {r = r} {kind = kind} h q J keeps =
    let k = given_by (refusal h.run) _ _ (joined_pieces h.run) r kind q h.gave in
    let n = not_valid (is_valid x) x (joined_pieces h.run) r kind q k.1 in
    (n.0, n.1, run_reads step J keeps h.run f f' h.ran k.0 ∙ ap (λ b. J f ++ b) n.2)

-- what it holds for a valid text
valid_all : {E : Type 0} (o : Option E) (v : Bool) (x all bytes : List ℕ) (r : Result (Unit {0}) (DecodeError E))
    → r ≡ Ok tt → MatchOption o
    (MatchBool v ((bytes ≡ decoded x) × (r ≡ Ok tt)) ((bytes ≡ complete_bytes x)
    × (r ≡ Err (decode.InvalidBase64 (kind_of x)))))
    (λ e. IsRefused all bytes e r) → v ≡ true
valid_all None true x all bytes r q h = refl
valid_all None false x all bytes r q h = absurd (let k = h.1 in cc)
valid_all (Some e) v x all bytes r q h = absurd (let k = h.answer in cc)

-- if decoding a text returns `Ok`, the text is valid
pub decodes_valid : {F E : Type 0} {step : F → List ℕ → Result (Unit {0}) E → F → Type 0} {f f' : F} {x : List ℕ}
    {r : Result (Unit {0}) (DecodeError E)} → DecodesText step f x r f' → r ≡ Ok tt → is_valid x ≡ true
decodes_valid {x = x} {r = r} h q = valid_all (refusal h.run) (is_valid x) x _ (joined_pieces h.run) r q h.gave

-- Results

-- a vector with these bytes
abbrev pub vec_of : Global → (bytes : List ℕ) → length bytes < 2 ^ 63 → Vec ℕ Global
vec_of memory bytes small = record {
  ptr = null_ptr;
  len = length bytes;
  cap = length bytes;
  alloc = memory;
  items = bytes;
  ok = (refl, omega arith);
  small = small;
}

-- what a call gives, as a result in C
pub answers : (Gives : Given → Type 0) (given : Given) {old new : List ℕ} {r : DataUrlAnswer} → Gives given
    → Crosses given old new r → Answers Gives old new r
answers Gives given g c = record { given = given; is_given = g; crosses = c }
