-- What the private functions that open a URL return.
use Rattle.std.specs.List.{suffix_len}
use Rattle.std.specs.Prelude.{Bool, Err, List, length, ◌-◌, ◌≡◌, ℕ}
use Rattle.data_url.specs.Url.{is_c0_control_or_space}
use Rattle.data_url_c.specs.Answers.{Crosses}
use Rattle.data_url_c.specs.Opens.{HasNoTail, answer_of}
use Rattle.data_url_c.specs.declared.answer.DataUrlAnswer.{DataUrlAnswer}
use Rattle.data_url_c.specs.declared.open.DataUrlOpened.{DataUrlOpened}
use Rattle.data_url_c.specs.declared.answer.Refusal.{Refusal}

-- the result for a text that is not a data: URL
pub record IsRefused (refusal : Refusal) (old new : List ℕ) (r : DataUrlOpened) : Type 0 where
  pub crosses : Crosses (Err refusal) old new (answer_of r)
  pub no_tail : HasNoTail r

-- the result for a URL: that of its MIME type, and a tail that ends where the C0 controls and spaces at the end begin
pub record IsOpenedAt (x tail : List ℕ) (mime : DataUrlAnswer) (base64 : Bool)
    (r : DataUrlOpened) : Type 0 where
  pub answer_is : answer_of r ≡ mime
  pub tail_is : r.tail ≡ length x - suffix_len is_c0_control_or_space x - length tail
  pub len_is : r.tail_len ≡ length tail
  pub base64_is : r.is_base64 ≡ base64
