-- Opening a URL: the place of its tail, and the result.
use Rattle.std.proofs.Common.{◌≡◌, ℕ, ◌+◌, ◌-◌, ◌<◌, ◌≤◌, Bool, List, ◌∷◌, ◌++◌, length, length-append}
use Rattle.std.proofs.Common.{take, drop, Option, Some, Ok, Err, sym, ap, ◌∙◌, subst, arith}
use Rattle.std.specs.Global.{Global}
use Rattle.std.specs.Prelude.{IsUtf8, Vec}
use Rattle.std.specs.List.{prefix_len, suffix_len}
use Rattle.std.proofs.lemmas.List.{drop-drop, drop-take, length-drop, length-take, length-reverse, reverse-append}
use Rattle.std.proofs.lemmas.List.{take-append-drop}
use Rattle.std.proofs.lemmas.List.Folds.{prefix_len-append}
use Rattle.std.proofs.lemmas.List.Sums.{prefix_len-le-length}
use Rattle.std.proofs.Math.Seq.{drop-append_seam}
use Rattle.data_url.specs.DataUrl.{IsUrlWithParts}
use Rattle.data_url.specs.Fetch.{Accepted, Outcome, Staged, tail_of}
use Rattle.data_url.specs.Mime.{Record}
use Rattle.data_url.specs.Parts.{ReadsHeader}
use Rattle.data_url.specs.Url.{before, is_c0_control_or_space, trimmed_text}
use Rattle.data_url.specs.declared.DataUrlError.{DataUrlError}
use Rattle.data_url.specs.declared.DataUrlError.TheVariants as url
use Rattle.data_url.proofs.api.{is_cut}
use Rattle.data_url_c.specs.Answers.{Crosses, Shows}
use Rattle.data_url_c.specs.Gives.{RefusesUrl}
use Rattle.data_url_c.specs.Opens.{OpensAs, answer_of}
use Rattle.data_url_c.specs.Steps.{IsRefusalOf}
use Rattle.data_url_c.specs.Steps.Opening.{IsOpenedAt, IsRefused}
use Rattle.data_url_c.specs.declared.answer.DataUrlAnswer.{DataUrlAnswer}
use Rattle.data_url_c.specs.declared.open.DataUrlOpened.{DataUrlOpened}
use Rattle.data_url_c.specs.declared.answer.Refusal.{Refusal}

-- The place of the tail

-- how many bytes at the end of a text are C0 controls or spaces
abbrev pub low_end : List ℕ → ℕ
low_end x = suffix_len is_c0_control_or_space x

-- if not all of the rest of a text are C0 controls or spaces, as many are at the end of the text as of the rest
low_rest : (k : ℕ) (x : List ℕ) → low_end (drop k x) < length (drop k x) → low_end x ≡ low_end (drop k x)
low_rest k x h =
    grind (
      arith,
      ap low_end (take-append-drop k x),
      reverse-append (take k x) (drop k x),
      length-reverse,
      prefix_len-append,
    )

-- if the first m bytes of a text end with a tail, the tail is that part of the text
tail_cut : (m c : ℕ) (s front tail : List ℕ) → m ≤ length s → take m s ≡ front ++ c ∷ tail
    → (m ≡ length front + 1 + length tail) × (tail ≡ take (length tail) (drop (length front + 1) s))
tail_cut m c s front tail fits e =
    let n = length front + 1 in
    let size : m ≡ n + length tail = omega (arith, ap length e, length-append front (c ∷ tail), length-take m s) in
    let rest = ap (drop (length front)) e ∙ drop-append_seam front (c ∷ tail) in
    let dropped = drop-drop 1 (length front) (take m s) in
    (size, sym (ap (drop 1) rest) ∙ dropped ∙ ap (λ k. drop n (take k s)) size ∙ drop-take n (length tail) s)

-- the tail is the part of the text that ends where the C0 controls and spaces at the end of the text begin
pub record IsTailAt (x tail : List ℕ) : Type 0 where
  pub within : length tail + low_end x ≤ length x
  pub tail_is : tail ≡ take (length tail) (drop (length x - low_end x - length tail) x)

-- the tail of a text ends where the C0 controls and spaces at the end of the text begin
pub tail_at : (x tail : List ℕ) → tail_of x ≡ Some tail → IsTailAt x tail
unfolding tail_of trimmed_text
tail_at x tail e =
    let k = prefix_len is_c0_control_or_space x in
    let s = drop k x in
    let front = before 44 (trimmed_text x) in
    let cut = (is_cut 44 (trimmed_text x) tail e).joined in
    let at = tail_cut (length s - low_end s) 44 s front tail (omega arith) cut in
    let size = at.0 in
    let low = low_rest k x (omega (arith, size)) in
    let whole = length-drop k x in
    let fits = prefix_len-le-length is_c0_control_or_space x in
    let place : k + (length front + 1) ≡ length x - low_end x - length tail = omega (arith, size, low, whole, fits) in
    let moved = drop-drop (length front + 1) k x ∙ ap (λ n. drop n x) place in
    record { within = omega (arith, size, low, whole, fits); tail_is = at.1 ∙ ap (take (length tail)) moved }

-- The result

-- if the bytes are refused as a URL, opening them returns that refusal and no tail
pub opens_refused : (form : Record → List ℕ) (x : List ℕ) (refusal : Refusal) {old mid new : List ℕ} {r : DataUrlOpened}
    → RefusesUrl x refusal → mid ≡ old → IsRefused refusal mid new r → OpensAs form x old new r
opens_refused form x refusal {old} {mid} {new} {r} h e k =
    let P : List ℕ → Type 0 = λ o. Crosses (Err refusal) o new (answer_of r) in
    record {
      given = Err refusal;
      is_given = (h, k.no_tail);
      crosses = subst P e k.crosses;
    }

-- why the header of a text is not read is why its bytes are refused as a URL, and the output is as it was
pub header_refused : {x before after : List ℕ} (refusal : Refusal) → IsUtf8 x → (error : DataUrlError)
    → ReadsHeader x before after (Err error) → IsRefusalOf error refusal → RefusesUrl x refusal × (after ≡ before)
header_refused refusal u url.NotADataUrl h e = rw e ((u, h.0), h.1)
header_refused refusal u url.NoComma h e = rw e ((u, h.0), h.1)
header_refused refusal u url.OutOfMemory h e = rw e ((u, h.0), h.1)

-- accepted stages, with a body that is the same
accepted_with : {s : Staged} {text : List ℕ} {body body' : Outcome} {fragment : Option (List ℕ)}
    → s ≡ Accepted text body fragment → body' ≡ body → s ≡ Accepted text body' fragment
accepted_with e same = cc (e, same)

-- if the MIME type of a URL was written, opening the URL returns that, its tail, and whether it is base64
pub opens : (form : Record → List ℕ) {x tail old new : List ℕ} {mime : Record} {base64 : Bool} {a : DataUrlAnswer}
    {r : DataUrlOpened} (text : Vec ℕ Global) → IsUtf8 x → IsUrlWithParts x mime base64 tail → text.items ≡ form mime
    → Shows 0 text.items old new a → IsOpenedAt x tail a base64 r → OpensAs form x old new r
opens form {x} {tail} {old} {new} {mime} {r = r} text u is e shown at =
    let place = tail_at x tail is.tail_is in
    let within = place.within in
    let same : tail ≡ take r.tail_len (drop r.tail x) = cc (place.tail_is, at.tail_is, at.len_is) in
    record {
      given = Ok text;
      is_given = record {
        header = is.header;
        mime = mime;
        fragment = _;
        is_text = u;
        header_is = is.header_is;
        record_is = is.record_is;
        text_is = e;
        base64_is = at.base64_is ∙ is.base64_is;
        within = omega (arith, at.tail_is, at.len_is, within);
        tail_is = is.tail_is ∙ ap Some same;
        staged_is = accepted_with is.staged_is (cc (same, at.base64_is));
      };
      crosses = rw at.answer_is shown;
    }
