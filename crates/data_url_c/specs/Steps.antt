-- What private functions return: definitions that no contract of an exported function uses.
pub mod Opening
use Rattle.std.specs.Prelude.{◌≡◌, [], Err, IsUtf8, List, MatchOption, None, Ok, Result, Some, encode_utf8_all, false}
use Rattle.std.specs.Prelude.{option_map, take, true, ℕ}
use Rattle.data_url.specs.Base64.{first_fault, kind_of}
use Rattle.data_url.specs.DataUrl.{IsUrlOf, url_body, url_tail}
use Rattle.data_url.specs.Fetch.{Bad, Good}
use Rattle.data_url.specs.Mime.{Record, printed}
use Rattle.data_url.specs.Url.{after, encoded_fragment, number_sign}
use Rattle.data_url.specs.declared.DataUrl.{DataUrl}
use Rattle.data_url.specs.declared.DataUrlError.TheVariants as url
use Rattle.data_url.specs.declared.DataUrlError.{DataUrlError}
use Rattle.data_url.specs.declared.forgiving_base64.left_over.LeftOver.{LeftOver}
use Rattle.data_url.specs.declared.parts.body.Body.{Body}
use Rattle.data_url_c.specs.Answers.{Given, status_of_kind}
use Rattle.data_url_c.specs.Bodies.{IsGoodBody, flag_of}
use Rattle.data_url_c.specs.Gives.{RefusesUrl}
use Rattle.data_url_c.specs.Parts.{IsLeftOf, is_good_state}
use Rattle.data_url_c.specs.declared.body.DataUrlBody.{DataUrlBody}
use Rattle.data_url_c.specs.declared.base64.DataUrlBase64.{DataUrlBase64}
use Rattle.data_url_c.specs.declared.answer.Refusal.TheVariants.{InvalidBase64, NoComma, NoFragment, NotADataUrl}
use Rattle.data_url_c.specs.declared.answer.Refusal.TheVariants.{OutOfMemory}
use Rattle.data_url_c.specs.declared.answer.Refusal.{Refusal}

-- the URL of the bytes, or why they are not a data: URL
abbrev pub IsUrlFor : List ℕ → Result DataUrl Refusal → Type 0
IsUrlFor x (Ok url) = IsUtf8 x × IsUrlOf x url
IsUrlFor x (Err refusal) = RefusesUrl x refusal

-- the refusal for an error of reading a URL
abbrev pub IsRefusalOf : DataUrlError → Refusal → Type 0
IsRefusalOf url.NotADataUrl refusal = refusal ≡ NotADataUrl
IsRefusalOf url.NoComma refusal = refusal ≡ NoComma
IsRefusalOf url.OutOfMemory refusal = refusal ≡ OutOfMemory

-- the serialisation of a record
abbrev pub HasText : Record → Given → Type 0
HasText mime (Ok text) = text.items ≡ encode_utf8_all (printed mime)
HasText mime (Err OutOfMemory) = Unit {0}
HasText mime (Err refusal) = ⊥

-- the encoded fragment of a URL
abbrev pub HasFragment : DataUrl → Given → Type 0
HasFragment url (Ok text) =
    (bytes : List ℕ) × (url_body url ≡ Good bytes)
    × (option_map encoded_fragment (after number_sign (url_tail url)) ≡ Some text.items)
HasFragment url (Err NoFragment) =
    (bytes : List ℕ) × (url_body url ≡ Good bytes) × (after number_sign (url_tail url) ≡ None)
HasFragment url (Err (InvalidBase64 kind none)) =
    (bytes : List ℕ) × (url_body url ≡ Bad bytes kind) × (none.items ≡ [])
HasFragment url (Err OutOfMemory) = Unit {0}
HasFragment url (Err refusal) = ⊥

-- if u has no fault, the state holds what is left over of u; otherwise later calls reject it
abbrev pub IsKept : List ℕ → DataUrlBase64 → ℕ → Type 0
IsKept u new status =
    MatchOption (first_fault u) ((status ≡ 0) × IsLeftOf u new)
    (λ place. (status ≡ status_of_kind (kind_of u)) × (is_good_state new ≡ false))

-- the state holds what is left over
pub record HoldsLeft (s : DataUrlBase64) (left : LeftOver) : Type 0 where
  pub good : is_good_state s ≡ true
  pub symbols_are : take s.pending s.symbols ≡ take left.pending left.symbols
  pub pending_is : s.pending ≡ left.pending
  pub padding_is : s.padding ≡ left.padding

-- the body goes on in the tail where the state says
pub record IsBodyOf (tail : List ℕ) (s : DataUrlBody) (b : Body) : Type 0 where
  pub good : IsGoodBody tail s
  pub tail_is : b.tail.now ≡ tail
  pub base64_is : b.base64 ≡ flag_of s
  pub place_is : b.place ≡ s.from
  pub left : HoldsLeft s.left b.left_over
