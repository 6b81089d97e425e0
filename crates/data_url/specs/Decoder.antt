-- What contracts see of a `Decoder`, and what feeding and finishing one does (Infra Standard,
-- forgiving-base64 decode), in terms of the input so far.
use Rattle.std.specs.Prelude.{[], ◌++◌, ◌≡◌, ◌≤◌, Bool, Err, List, MatchBool, MatchOption, Ok, Result, false, is_err}
use Rattle.std.specs.Prelude.{length, take, ℕ}
use Rattle.data_url.specs.Base64.{decoded, complete_bytes, first_fault, is_valid, kind_of, left_padding, left_symbols}
use Rattle.data_url.specs.Base64.{left_text}
use Rattle.data_url.specs.Errors.{IsRefused}
use Rattle.data_url.specs.Run.{Call, IsRun, joined_pieces, refusal}
use Rattle.data_url.specs.declared.forgiving_base64.DecodeError.TheVariants.{InvalidBase64}
use Rattle.data_url.specs.declared.forgiving_base64.DecodeError.{DecodeError}
use Rattle.data_url.specs.declared.forgiving_base64.decode.Decoder.{Decoder}

-- a decoder, as contracts see it: its closure, the symbols that are left over, the number of '=' (3
-- means three or more), and whether it has failed
pub record State (F : Type 0) : Type 0 where
  pub closure : F
  pub symbols : List ℕ
  pub padding : ℕ
  pub failed : Bool

-- the state of a decoder, from its fields
abbrev pub state_of : {F E : Type 0} → Decoder F E → State F
state_of d = record {
  closure = d.write_bytes;
  symbols = take d.state.pending d.state.symbols;
  padding = d.state.padding;
  failed = d.failed;
}

-- a new decoder, with a closure
abbrev pub start : {F : Type 0} → F → State F
start f = record { closure = f; symbols = []; padding = 0; failed = false }

-- what is left over in a decoder, as a text
abbrev pub left_over : {F : Type 0} → State F → List ℕ
left_over d = left_text d.symbols d.padding

-- what is left over in the decoder is what is left over of the text
pub record IsLeft {F : Type 0} (u : List ℕ) (d : State F) : Type 0 where
  pub symbols_are : d.symbols ≡ left_symbols u
  pub padding_is : d.padding ≡ left_padding u

-- the bytes are those of all groups of u that are complete before its first fault. If u has a fault,
-- r is its error. Otherwise r is `Ok`, and d holds what is left over of u.
pub record IsTaken {F E : Type 0} (u bytes : List ℕ) (r : Result (Unit {0}) (DecodeError E))
    (d : State F) : Type 0 where
  pub bytes_are : bytes ≡ complete_bytes u
  pub answer : MatchOption (first_fault u) ((r ≡ Ok tt) × IsLeft u d)
      (λ place. r ≡ Err (InvalidBase64 (kind_of u)))

-- feeding d the input b returns r, and d is d' after it. The closure is called at most as often as b
-- has bytes.
pub record Feeds {F E : Type 0} (step : F → List ℕ → Result (Unit {0}) E → F → Type 0) (d : State F)
    (b : List ℕ) (r : Result (Unit {0}) (DecodeError E)) (d' : State F) : Type 0 where
  pub run : List (Call F E)
  pub ran : IsRun step d.closure run d'.closure
  pub calls : length run ≤ length b
  pub failed : d'.failed ≡ is_err r
  pub gave : MatchOption (refusal run)
      (IsTaken (left_over d ++ b) (joined_pieces run) r d')
      (λ e. IsRefused (complete_bytes (left_over d ++ b)) (joined_pieces run) e r)

-- finishing d returns r, and its closure is f after it. The closure is called at most once, and not
-- at all if what is left over in d is not valid.
pub record Finishes {F E : Type 0} (step : F → List ℕ → Result (Unit {0}) E → F → Type 0)
    (d : State F) (r : Result (Unit {0}) (DecodeError E)) (f : F) : Type 0 where
  pub run : List (Call F E)
  pub ran : IsRun step d.closure run f
  pub calls : length run ≤ 1
  pub gave : MatchBool (is_valid (left_over d))
      (MatchOption (refusal run) ((joined_pieces run ≡ decoded (left_over d)) × (r ≡ Ok tt))
      (λ e. IsRefused (decoded (left_over d)) (joined_pieces run) e r))
      ((run ≡ []) × (r ≡ Err (InvalidBase64 (kind_of (left_over d)))))
