-- Base64 in parts: what feeding a part does, and what finishing does.
use Rattle.std.specs.List.{list_all}
use Rattle.std.specs.Prelude.{◌&&◌, ◌+◌, ◌++◌, ◌<◌, ◌≡◌, ◌≤◌, Bool, List, MatchBool, MatchOption, false, length}
use Rattle.std.specs.Prelude.{nat_le, nat_lt, take, true, ℕ}
use Rattle.data_url.specs.Base64.{complete_bytes, decoded, first_fault, is_symbol, is_valid, kind_of, left_padding}
use Rattle.data_url.specs.Base64.{left_symbols, left_text}
use Rattle.data_url.specs.Parts.{EncodesPart, WritesFront}
use Rattle.data_url_c.specs.Answers.{status_of_kind}
use Rattle.data_url_c.specs.declared.base64.DataUrlBase64.{DataUrlBase64}
use Rattle.data_url_c.specs.declared.answer.DataUrlFed.{DataUrlFed}
use Rattle.data_url_c.specs.declared.answer.DataUrlStep.{DataUrlStep}

-- what is left over in a state, as a text: the symbols, then the padding
abbrev pub waiting_text : DataUrlBase64 → List ℕ
waiting_text s = left_text (take s.pending s.symbols) s.padding

-- a state that a call can return: at most three symbols are left over, and the padding is counted up
-- to three
abbrev pub is_good_state : DataUrlBase64 → Bool
is_good_state s = nat_le s.pending 3
    && (nat_le s.padding 3 && list_all is_symbol (take s.pending s.symbols))

-- what is left over in the state is what is left over of the text u
pub record IsLeftOf (u : List ℕ) (s : DataUrlBase64) : Type 0 where
  pub good : is_good_state s ≡ true
  pub pending_is : s.pending ≡ length (left_symbols u)
  pub symbols_are : take s.pending s.symbols ≡ left_symbols u
  pub padding_is : s.padding ≡ left_padding u

-- the bytes of the groups of u that are complete before its first fault were written. If u has no
-- fault, the state holds what is left over of u; otherwise later calls reject the state.
pub record TakesText (u : List ℕ) (new : DataUrlBase64) (before after : List ℕ) (status len : ℕ)
    : Type 0 where
  pub wrote : WritesFront (complete_bytes u) before after len
  pub ended : MatchOption (first_fault u) ((status ≡ 0) × IsLeftOf u new)
      (λ place. (status ≡ status_of_kind (kind_of u)) × (is_good_state new ≡ false))

-- how much of an input is read: all of it if the output has room, and at least one byte
pub record ReadsWhatFits (input room read : ℕ) : Type 0 where
  pub within : read ≤ input
  pub all : input + 3 ≤ room → read ≡ input
  pub some : 0 < input → 0 < read

-- the state and the output do not change
pub record DoesNothing {S : Type 0} (old new : S) (before after : List ℕ) : Type 0 where
  pub state_stays : new ≡ old
  pub output_stays : after ≡ before

-- feeding a part of a text: what is read of it follows what is left over in the state. A state that
-- no call returned gives status 12, and an output of less than four bytes status 5.
abbrev pub FeedsPart : DataUrlBase64 → DataUrlBase64 → List ℕ → List ℕ → List ℕ → DataUrlFed → Type 0
FeedsPart old new input before after r =
    MatchBool (is_good_state old)
    (MatchBool (nat_lt (length before) 4)
    (DoesNothing old new before after × (r.status ≡ 5) × (r.len ≡ 0) × (r.read ≡ 0))
    (ReadsWhatFits (length input) (length before) r.read
    × TakesText (waiting_text old ++ take r.read input) new before after r.status r.len))
    (DoesNothing old new before after × (r.status ≡ 12) × (r.len ≡ 0) × (r.read ≡ 0))

-- the end of a valid text: the last bytes are written, if the output has room for them
pub record EndsText (u : List ℕ) (old new : DataUrlBase64) (before after : List ℕ)
    (r : DataUrlStep) : Type 0 where
  pub fits : length (decoded u) ≤ length before
      → WritesFront (decoded u) before after r.len × (r.status ≡ 0) × (is_good_state new ≡ false)
  pub is_too_small : length before < length (decoded u)
      → DoesNothing old new before after × (r.status ≡ 5) × (r.len ≡ length (decoded u))

-- the end of a text that is not valid: the status is that of its fault
pub record EndsFaulty (u : List ℕ) (new : DataUrlBase64) (before after : List ℕ) (r : DataUrlStep)
    : Type 0 where
  pub output_stays : after ≡ before
  pub status_is : r.status ≡ status_of_kind (kind_of u)
  pub len_is : r.len ≡ 0
  pub spent : is_good_state new ≡ false

-- the end of a text, from what is left over in the state; a state that no call returned gives
-- status 12
abbrev pub FinishesPart : DataUrlBase64 → DataUrlBase64 → List ℕ → List ℕ → DataUrlStep → Type 0
FinishesPart old new before after r =
    MatchBool (is_good_state old)
    (MatchBool (is_valid (waiting_text old)) (EndsText (waiting_text old) old new before after r)
    (EndsFaulty (waiting_text old) new before after r))
    (DoesNothing old new before after × (r.status ≡ 12) × (r.len ≡ 0))

-- the start of a fragment is encoded: status 0 if that is all of it, and otherwise 11. An output of
-- less than three bytes gives status 5.
pub record EncodesFragment (text before after : List ℕ) (r : DataUrlFed) : Type 0 where
  pub small : length before < 3
      → DoesNothing text text before after × (r.status ≡ 5) × (r.len ≡ 0) × (r.read ≡ 0)
  pub encodes : 3 ≤ length before → EncodesPart text before after (record { read = r.read; len = r.len })
  pub all : 3 ≤ length before → r.read ≡ length text → r.status ≡ 0
  pub more : 3 ≤ length before → r.read < length text → r.status ≡ 11
