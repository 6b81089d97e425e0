-- The length of a body, as a `usize`.
use Rattle.std.proofs.Common.{◌≡◌, ℕ, ◌<◌, ◌^◌, List, length, Option, Ok, ap, ◌∙◌, arith}
use Rattle.data_url.specs.Fetch.{Accepted, Bad, Good, Outcome, outcome_bytes, staged}
use Rattle.data_url.specs.DataUrl.{IsUrlOf, url_body}
use Rattle.data_url.specs.declared.DataUrl.{DataUrl}
use Rattle.data_url.proofs.api.{body_within_text}
use Rattle.uses.specs.Bodies.{IsLengthOf}
use Rattle.uses.specs.Fetches.{HasLength}

-- a good body of that length
good_len : (o : Outcome) (len : ℕ) → IsLengthOf o (Ok len) → length (outcome_bytes o) < 2 ^ 64
    → (bytes : List ℕ) × (o ≡ Good bytes) × (len ≡ length bytes)
good_len (Good bytes) len h few = grind arith
good_len (Bad bytes kind) len h few = absurd (let k = h in cc)

-- if a text is accepted with an outcome that is good, it is accepted with a good body
accepted_good : (t : List ℕ) {type_text bytes : List ℕ} {o : Outcome} {fragment : Option (List ℕ)}
    → staged t ≡ Accepted type_text o fragment → o ≡ Good bytes → staged t ≡ Accepted type_text (Good bytes) fragment
accepted_good t {type_text = type_text} {fragment = fragment} e g = e ∙ ap (λ x. Accepted type_text x fragment) g

-- a length that was counted, at most up to the greatest number, is that of the body
pub exact_len : {t : List ℕ} (url : DataUrl) (len : ℕ) → IsUrlOf t url → length t < 2 ^ 64
    → IsLengthOf (url_body url) (Ok len) → HasLength t (Ok len)
exact_len {t} url len u few h = grind (arith, good_len, body_within_text, accepted_good)
