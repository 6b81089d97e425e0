-- What a decoder does with input while decoded bytes are held, to be passed to the closure together.
use Rattle.std.specs.Prelude.{[], ◌*◌, ◌++◌, ◌+◌, ◌/◌, ◌∷◌, ◌<◌, ◌≡◌, ◌≤◌, Err, List, MatchOption, MatchResult, None}
use Rattle.std.specs.Prelude.{Ok, Option, Result, false, is_err, is_some, length, slice_index, take, true, ℕ}
use Rattle.std.specs.List.{list_all}
use Rattle.data_url.specs.Base64.{Kind, complete_bytes, first_fault, kind_of}
use Rattle.data_url.specs.Decoder.{Feeds, IsLeft, State, left_over}
use Rattle.data_url.specs.Run.{Call, IsRun, joined_pieces, refusal}
use Rattle.data_url.specs.declared.forgiving_base64.DecodeError.TheVariants.{WriteError}
use Rattle.data_url.specs.declared.forgiving_base64.DecodeError.{DecodeError}
use Rattle.data_url.specs.declared.forgiving_base64.left_over.LeftOver as left
use Rattle.data_url.specs.Steps.Window.{is_no_hash_or_percent}

-- what a text leaves over, as the state of a decoder that has no closure and has not failed
abbrev pub left_state : left.LeftOver → State (Unit {0})
left_state s =
    record { closure = tt; symbols = take s.pending s.symbols; padding = s.padding; failed = false }

-- d reads the text without a call of the closure; the bytes are those of the groups that are then
-- complete, and d' holds what is left over
pub record Completes {F : Type 0} (d : State F) (text bytes : List ℕ) (d' : State F) : Type 0 where
  pub no_fault : first_fault (left_over d ++ text) ≡ None
  pub bytes_are : bytes ≡ complete_bytes (left_over d ++ text)
  pub left : IsLeft (left_over d ++ text) d'
  pub few : length bytes ≤ 3 * length text
  pub closure_stays : d'.closure ≡ d.closure
  pub going : d'.failed ≡ false

-- after what is left over in d the byte is a fault of this kind; no group is complete, and d does not
-- change
pub record Refuses {F : Type 0} (d : State F) (byte : ℕ) (kind : Kind) (d' : State F) : Type 0 where
  pub fault : is_some (first_fault (left_over d ++ byte ∷ [])) ≡ true
  pub kind_is : kind_of (left_over d ++ byte ∷ []) ≡ kind
  pub none_done : complete_bytes (left_over d ++ byte ∷ []) ≡ []
  pub stays : d' ≡ d

-- d reads the first `taken` bytes of the text, at least one; held' is held followed by the bytes of
-- their groups
pub record Gains {F : Type 0} (d : State F) (held text : List ℕ) (taken : ℕ) (d' : State F)
    (held' : List ℕ) : Type 0 where
  pub some : 1 ≤ taken
  pub within : taken ≤ length text
  pub more : List ℕ
  pub completes : Completes d (take taken text) more d'
  pub held_are : held' ≡ held ++ more

-- d calls its closure once, with the piece. If the closure returns an error, d has failed. Nothing
-- else in d changes.
pub record CallsOnce {F E : Type 0} (step : F → List ℕ → Result (Unit {0}) E → F → Type 0)
    (d : State F) (piece : List ℕ) (r : Result (Unit {0}) (DecodeError E)) (d' : State F)
    : Type 0 where
  pub told : Result (Unit {0}) E
  pub called : step d.closure piece told d'.closure
  pub answer : MatchResult told (λ u. r ≡ Ok tt) (λ e. r ≡ Err (WriteError e))
  pub failed : d'.failed ≡ is_err r
  pub symbols_stay : d'.symbols ≡ d.symbols
  pub padding_stays : d'.padding ≡ d.padding

-- d reads the text. Its closure is called with some of the bytes of the groups that are then complete,
-- and returns no error; the others are held. d' holds what is left over.
pub record ReadsHolding {F E : Type 0} (step : F → List ℕ → Result (Unit {0}) E → F → Type 0)
    (d : State F) (text held : List ℕ) (d' : State F) : Type 0 where
  pub run : List (Call F E)
  pub ran : IsRun step d.closure run d'.closure
  pub accepted : refusal run ≡ None
  pub calls : length run + (length held + 2) / 3 ≤ length text
  pub no_fault : first_fault (left_over d ++ text) ≡ None
  pub bytes_are : joined_pieces run ++ held ≡ complete_bytes (left_over d ++ text)
  pub left : IsLeft (left_over d ++ text) d'
  pub going : d'.failed ≡ false

-- d reads the text up to an index, and holds no bytes. The text ends there, or the byte there is a fault of this kind.
pub record ReadsTo {F E : Type 0} (step : F → List ℕ → Result (Unit {0}) E → F → Type 0) (d : State F)
    (text : List ℕ) (at : ℕ) (fault : Option Kind) (d' : State F) : Type 0 where
  pub within : at ≤ length text
  pub reads : ReadsHolding step d (take at text) [] d'
  pub ends : MatchOption fault (at ≡ length text)
      (λ kind. (at < length text) × Refuses d' (slice_index text at) kind d')

-- the closure returns an error while d reads the text up to an index before which there is no fault
pub record EndsWithin {F E : Type 0} (step : F → List ℕ → Result (Unit {0}) E → F → Type 0) (d : State F)
    (text : List ℕ) (x : DecodeError E) (d' : State F) : Type 0 where
  pub at : ℕ
  pub within : at ≤ length text
  pub no_fault : first_fault (left_over d ++ take at text) ≡ None
  pub feeds : Feeds step d (take at text) (Err x) d'

-- d reads some bytes that the text begins with, and holds no bytes, or the closure returns an error
abbrev pub ReadsStart : {F E : Type 0} → (F → List ℕ → Result (Unit {0}) E → F → Type 0) → State F → List ℕ
    → Result ℕ (DecodeError E) → State F → Type 0
ReadsStart step d text r d' =
    MatchResult r (λ taken. (taken ≤ length text) × ReadsHolding step d (take taken text) [] d')
    (λ x. EndsWithin step d text x d')

-- d reads on in a text that was read up to a place, whichever decoder read it
abbrev pub ReadsOn : {F E : Type 0} → (F → List ℕ → Result (Unit {0}) E → F → Type 0) → State F → List ℕ
    → ℕ → Result ℕ (DecodeError E) → State F → Type 0
ReadsOn step d text place r d' =
    (d0 : _) → ReadsHolding step d0 (take place text) [] d → ReadsStart step d0 text r d'

-- d reads the text up to its first fault, or the closure returns an error before that
abbrev pub ReadsUntilFault : {F E : Type 0} → (F → List ℕ → Result (Unit {0}) E → F → Type 0)
    → State F → List ℕ → Result (ℕ × Option Kind) (DecodeError E) → State F → Type 0
ReadsUntilFault step d text r d' =
    MatchResult r (λ read. ReadsTo step d text read.0 read.1 d') (λ x. EndsWithin step d text x d')

-- feeding d the bytes of a tail before a place, none of which is '#' or '%', returns r
pub record FeedsFront {F E : Type 0} (step : F → List ℕ → Result (Unit {0}) E → F → Type 0) (d : State F)
    (tail : List ℕ) (place : ℕ) (r : Result (Unit {0}) (DecodeError E)) (d' : State F) : Type 0 where
  pub within : place ≤ length tail
  pub no_hash_or_percent : list_all is_no_hash_or_percent (take place tail) ≡ true
  pub feeds : Feeds step d (take place tail) r d'

-- feeding d a tail up to its first '#' or '%' returns the place of that byte, or the length of the tail, or an error
abbrev pub FeedsToEscapeOrEnd : {F E : Type 0} → (F → List ℕ → Result (Unit {0}) E → F → Type 0)
    → State F → List ℕ → Result ℕ (DecodeError E) → State F → Type 0
FeedsToEscapeOrEnd step d tail r d' = MatchResult r
    (λ place. FeedsFront step d tail place (Ok tt) d'
    × (place < length tail → is_no_hash_or_percent (slice_index tail place) ≡ false))
    (λ x. (place : ℕ) × FeedsFront step d tail place (Err x) d')

-- d passes these bytes, which are held, to its closure, whatever text was read before. After `Ok` the
-- bytes that are held after them, b, are still held; an error ends the feeding.
abbrev pub Flushes : {F E : Type 0} → (F → List ℕ → Result (Unit {0}) E → F → Type 0) → State F
    → List ℕ → Result (Unit {0}) (DecodeError E) → State F → Type 0
Flushes step d bytes r d' = (d0 : _) (text b : List ℕ) → ReadsHolding step d0 text (bytes ++ b) d
    → MatchResult r (λ u. ReadsHolding step d0 text b d') (λ e. Feeds step d0 text (Err e) d')

-- the next symbol begins a group
abbrev pub IsBetweenGroups : {F : Type 0} → State F → Type 0
IsBetweenGroups d = (d.symbols ≡ []) × (d.padding ≡ 0)
