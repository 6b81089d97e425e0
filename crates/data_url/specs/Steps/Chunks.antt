-- The bytes that a walk returns while a body is decoded, and what a closure does with them.
use Rattle.std.specs.Borrow.{Bor}
use Rattle.std.specs.Fn.{CalledAt, Mut}
use Rattle.std.specs.Prelude.{[], ◌++◌, ◌+◌, ◌<◌, ◌≡◌, ◌≤◌, List, MatchOption, MatchResult, None, Option, Result, Some}
use Rattle.std.specs.Prelude.{drop, false, length, true, ℕ}
use Rattle.data_url.specs.Fetch.{plain_body}
use Rattle.data_url.specs.Pieces.{Walk}
use Rattle.data_url.specs.Run.{Call, IsPrefix, IsRun, joined_pieces, refusal}

-- the walk w returns these bytes of its body, at least one, and is w' after that
pub record Takes (w : Walk) (bytes : List ℕ) (w' : Walk) : Type 0 where
  pub text_stays : w'.text ≡ w.text
  pub rest_is : w.rest ≡ bytes ++ w'.rest
  pub place : w.place + length bytes ≤ w'.place
  pub within : w'.place ≤ length w'.text
  pub some : 0 < length bytes
  pub short : w'.place + length w'.rest ≤ length w'.text

-- the walk w is at its end, and is w' after that
pub record IsOver (w w' : Walk) : Type 0 where
  pub text_stays : w'.text ≡ w.text
  pub rest_is : w.rest ≡ []
  pub over : w'.rest ≡ []
  pub place : w.place ≤ w'.place
  pub within : w'.place ≤ length w'.text
  pub ended : w'.ended ≡ true

-- the walk w returns the next bytes of its body, or none at the end, and is w' after that
abbrev pub GivesBytes : Walk → Option (Bor (List ℕ)) → Walk → Type 0
GivesBytes w given w' = MatchOption given (IsOver w w') (λ bytes. Takes w bytes.now w')

-- the body of the text begins with these bytes, and goes on with the walk
pub record IsBodyPrefix (text bytes : List ℕ) (w : Walk) : Type 0 where
  pub text_is : w.text ≡ text
  pub body_is : plain_body text ≡ bytes ++ w.rest
  pub place_is : w.place ≡ length bytes
  pub within : w.place ≤ length text
  pub short : w.place + length w.rest ≤ length w.text

-- the walk goes on at the index of the text
pub record IsBodyFrom (text : List ℕ) (place : ℕ) (w : Walk) : Type 0 where
  pub text_is : w.text ≡ text
  pub place_is : w.place ≡ place
  pub rest_is : w.rest ≡ plain_body (drop place text)
  pub short : w.place + length w.rest ≤ length w.text

-- after calls that return no error, the closure f may be called with any bytes
abbrev pub IsCallableUntilError : {F E : Type 0} → Mut F (Bor (List ℕ) × Unit {0}) (Result (Unit {0}) E)
    → F → Type 0
IsCallableUntilError {F} {E} closure f = (run : List (Call F E)) (g : F) → IsRun (CalledAt closure) f run g
    → refusal run ≡ None → (bytes : Bor (List ℕ)) → closure.pre g (bytes, tt)

-- the closure f was called with the body of the walk w up to where it is w', at most once for each byte of the text
-- between them, and is g after that; no call returned an error
pub record TakesOn {F E : Type 0} (step : F → List ℕ → Result (Unit {0}) E → F → Type 0) (f : F) (w : Walk)
    (g : F) (w' : Walk) : Type 0 where
  pub run : List (Call F E)
  pub ran : IsRun step f run g
  pub accepted : refusal run ≡ None
  pub text_stays : w'.text ≡ w.text
  pub calls : w.place + length run ≤ w'.place
  pub within : w'.place ≤ length w'.text
  pub short : w'.place + length w'.rest ≤ length w'.text
  pub body : w.rest ≡ joined_pieces run ++ w'.rest

-- the closure f was called with at most `most` bytes of the body of the walk w up to where it is
-- w', and is g after that; no
-- call returned an error. The walk goes on if it may; if the rest of the text has no more bytes
-- than that, the body ended.
pub record TakesPart {F E : Type 0} (step : F → List ℕ → Result (Unit {0}) E → F → Type 0)
    (f : F) (w : Walk) (most : ℕ) (g : F) (w' : Walk) : Type 0 where
  pub takes : TakesOn step f w g w'
  pub few : length (joined_pieces takes.run) ≤ most
  pub goes : 1 ≤ most → w'.ended ≡ false → w.place < w'.place
  pub all : length w.text ≤ w.place + most → w'.ended ≡ true

-- the closure returned an error for the next bytes of the walk w, or for some after those; these
-- are at most `most` bytes
pub record TakesUntil {F E : Type 0} (step : F → List ℕ → Result (Unit {0}) E → F
    → Type 0) (f : F) (w : Walk) (most : ℕ)
    (e : E) (g : F) : Type 0 where
  pub run : List (Call F E)
  pub ran : IsRun step f run g
  pub calls : w.place + length run ≤ length w.text
  pub few : length (joined_pieces run) ≤ most
  pub refused : refusal run ≡ Some e
  pub begins : IsPrefix (joined_pieces run) w.rest

-- the closure was called with the next bytes of a walk, or returned an error
abbrev pub TakesWithin : {F E : Type 0} → (F → List ℕ → Result (Unit {0}) E → F → Type 0) → F → Walk → ℕ
    → Result (Unit {0}) E → F → Walk → Type 0
TakesWithin step f w most r g w' = MatchResult r
    (λ u. TakesPart step f w most g w')
    (λ e. TakesUntil step f w most e g)
