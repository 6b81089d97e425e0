-- A decoder that goes on after what a text has left over, and closures that write to an output.
use Rattle.std.specs.Prelude.{◌*◌, ◌+◌, ◌++◌, ◌<◌, ◌≡◌, ◌≤◌, Bool, Err, List, MatchOption, Ok, Result, drop, false}
use Rattle.std.specs.Prelude.{length, min, take, true, ℕ}
use Rattle.data_url.specs.Base64.{Kind, complete_bytes, first_fault, kind_of}
use Rattle.data_url.specs.Decoder.{Finishes, State, left_over}
use Rattle.data_url.specs.Errors.{IsRefused}
use Rattle.data_url.specs.Fetch.{Bad, Good, outcome, outcome_bytes, plain_body}
use Rattle.data_url.specs.Parts.{HasNoRoom, IsLeftOver, WritesFront, body_after, prepend}
use Rattle.data_url.specs.Run.{Call, IsRun, joined_pieces, refusal}
use Rattle.data_url.specs.Steps.Tail.{IsBodyEnd}
use Rattle.data_url.specs.Url.{after, number_sign}
use Rattle.data_url.specs.declared.body.Stop.TheVariants.{Ended, Paused}
use Rattle.data_url.specs.declared.body.Stop.{Stop}
use Rattle.data_url.specs.declared.forgiving_base64.DecodeError.TheVariants.{InvalidBase64, WriteError}
use Rattle.data_url.specs.declared.forgiving_base64.DecodeError.{DecodeError}
use Rattle.data_url.specs.declared.forgiving_base64.left_over.LeftOver.{LeftOver}

-- what is left over is what the decoder holds
pub record HoldsLeft {F : Type 0} (s : LeftOver) (d : State F) : Type 0 where
  pub symbols_are : d.symbols ≡ take s.pending s.symbols
  pub padding_is : d.padding ≡ s.padding

-- a decoder that was fed nothing after what is left over, with a closure
pub record IsResumed {F : Type 0} (s : LeftOver) (f : F) (d : State F) : Type 0 where
  pub closure_is : d.closure ≡ f
  pub holds : HoldsLeft s d
  pub going : d.failed ≡ false

-- a piece was written after the first len bytes of an output, if it fits
pub record Writes (piece before : List ℕ) (len : ℕ) (after : List ℕ) (len' : ℕ) : Type 0 where
  pub fits : len + length piece ≤ length before
      → (len' ≡ len + length piece) × (after ≡ take len before ++ (piece ++ drop len' before))

-- the closure f is called with the bytes of the groups that the text u completes, and is g after that. If no call
-- fails, s is what u leaves over, or the result is the error of its first fault.
pub record DecodesPart {F E : Type 0} (step : F → List ℕ → Result (Unit {0}) E → F → Type 0)
    (f : F) (u : List ℕ) (s : LeftOver) (r : Result (Unit {0}) (DecodeError E)) (g : F) : Type 0 where
  pub run : List (Call F E)
  pub ran : IsRun step f run g
  pub gave : MatchOption (refusal run)
      ((joined_pieces run ≡ complete_bytes u) × MatchOption (first_fault u) ((r ≡ Ok tt) × IsLeftOver u s)
      (λ place. r ≡ Err (InvalidBase64 (kind_of u))))
      (λ e. r ≡ Err (WriteError e))

-- a decoder that holds what is left over, with the closure f, is finished: it returns r, and the closure is g after
-- that
abbrev pub FinishesPart : {F E : Type 0} → (F → List ℕ → Result (Unit {0}) E → F → Type 0) → F → LeftOver
    → Result (Unit {0}) (DecodeError E) → F → Type 0
FinishesPart step f s r g = (d : State _) × IsResumed s f d × Finishes step d r g

-- Bodies

-- d decoded the body of the tail up to the place, after these bytes; d' goes on from there
pub record Pauses {F : Type 0} (d : State F) (tail : List ℕ) (most : ℕ) (bytes : List ℕ) (place : ℕ)
    (d' : State F) : Type 0 where
  pub within : place ≤ length tail
  pub goes : 1 ≤ most → 0 < place
  pub some_left : most < length tail
  pub after_is : after number_sign tail ≡ after number_sign (drop place tail)
  pub rest_is : outcome true (left_over d ++ plain_body tail)
      ≡ prepend bytes (outcome true (left_over d' ++ plain_body (drop place tail)))

-- where d stopped decoding the body of the tail, after these bytes, or the error of its fault
abbrev pub StopsAt : {F E : Type 0} → State F → List ℕ → ℕ → List ℕ → Result Stop (DecodeError E) → State F
    → Type 0
StopsAt d tail most bytes (Ok (Paused place)) d' = Pauses d tail most bytes place d'
StopsAt d tail most bytes (Ok (Ended place)) d' =
    (outcome true (left_over d ++ plain_body tail) ≡ Good bytes) × IsBodyEnd tail place
StopsAt d tail most bytes (Err (InvalidBase64 kind)) d' =
    outcome true (left_over d ++ plain_body tail) ≡ Bad bytes kind
StopsAt d tail most bytes (Err (WriteError e)) d' = ⊥

-- d decodes the body of the tail, at most `most` bytes of it, and is d' after that
pub record DecodesWithin {F E : Type 0} (step : F → List ℕ → Result (Unit {0}) E → F → Type 0) (d : State F)
    (tail : List ℕ) (most : ℕ) (r : Result Stop (DecodeError E)) (d' : State F) : Type 0 where
  pub run : List (Call F E)
  pub ran : IsRun step d.closure run d'.closure
  pub calls : length run ≤ length (left_over d) + length tail + 1
  pub gave : MatchOption (refusal run)
      ((4 * length (joined_pieces run) ≤ 3 * (length d.symbols + most))
      × StopsAt d tail most (joined_pieces run) r d')
      (λ e. IsRefused (outcome_bytes (outcome true (left_over d ++ plain_body tail))) (joined_pieces run) e r)

-- decoding the body of a tail after what is left over paused at the place in the tail, after these
-- bytes; it goes on, if it could, and `Left` says why it paused
pub record Rests (flag : Bool) (s : LeftOver) (tail : List ℕ) (Could Left : Type 0) (bytes : List ℕ)
    (place : ℕ) (s' : LeftOver) : Type 0 where
  pub within : place ≤ length tail
  pub goes : Could → 0 < place
  pub some_left : Left
  pub after_is : after number_sign tail ≡ after number_sign (drop place tail)
  pub rest_is : body_after flag s tail ≡ prepend bytes (body_after flag s' (drop place tail))
  pub none_left_over : flag ≡ false → (s'.pending ≡ 0) × (s'.padding ≡ 0)

-- where decoding stopped after these bytes, or the kind of the fault
abbrev pub LeavesAt : Bool → LeftOver → List ℕ → Type 0 → Type 0 → List ℕ → LeftOver
    → Result Stop Kind → Type 0
LeavesAt flag s tail Could Left bytes s' (Ok (Paused place)) = Rests flag s tail Could Left bytes place s'
LeavesAt flag s tail Could Left bytes s' (Ok (Ended place)) =
    (body_after flag s tail ≡ Good bytes) × IsBodyEnd tail place
LeavesAt flag s tail Could Left bytes s' (Err kind) = body_after flag s tail ≡ Bad bytes kind

-- the same, for a decoder that calls a closure which returns no error
abbrev pub LeavesPart : {E : Type 0} → LeftOver → List ℕ → ℕ → List ℕ → LeftOver → Result Stop (DecodeError E)
    → Type 0
LeavesPart s tail most bytes s' (Ok stop) =
    LeavesAt true s tail (min 1 (length tail) ≤ most) (most < length tail) bytes s' (Ok stop)
LeavesPart s tail most bytes s' (Err (InvalidBase64 kind)) =
    LeavesAt true s tail (min 1 (length tail) ≤ most) (most < length tail) bytes s' (Err kind)
LeavesPart s tail most bytes s' (Err (WriteError e)) = ⊥

-- the closure f is called with the bytes that at most `most` bytes of the body of the tail complete
-- after what is left over, and is g after that
pub record DecodesPartOf {F E : Type 0} (step : F → List ℕ → Result (Unit {0}) E → F → Type 0)
    (f : F) (s : LeftOver) (tail : List ℕ) (most : ℕ)
    (s' : LeftOver) (r : Result Stop (DecodeError E)) (g : F) : Type 0 where
  pub run : List (Call F E)
  pub ran : IsRun step f run g
  pub gave : MatchOption (refusal run)
      ((4 * length (joined_pieces run) ≤ 3 * (s.pending + most))
      × LeavesPart s tail most (joined_pieces run) s' r)
      (λ e. r ≡ Err (WriteError e))

-- the next bytes of the body of a tail after what is left over were written to an output
pub record WritesWithin (flag : Bool) (s : LeftOver) (tail before after : List ℕ) (len : ℕ) (s' : LeftOver)
    (r : Result Stop Kind) : Type 0 where
  pub bytes : List ℕ
  pub wrote : WritesFront bytes before after len
  pub stops : LeavesAt flag s tail (4 ≤ length before)
      (HasNoRoom flag s.pending (length tail) (length before)) bytes s' r
