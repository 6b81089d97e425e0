-- What reading a body into outputs does, one output after another.
use Rattle.std.specs.Prelude.{[], ◌+◌, ◌<◌, ◌≡◌, List, length, ℕ}
use Rattle.data_url.specs.Fetch.{Bad, Good, Outcome}
use Rattle.data_url.specs.Parts.{WritesFront, prepend, rest_of}
use Rattle.uses.specs.declared.reader.Rest.TheVariants.{Ended, Faulty, More}
use Rattle.uses.specs.declared.reader.Rest.{Rest}

-- the body of what is left: after its end and after a fault, no bytes
abbrev pub rest_body : Rest → Outcome
rest_body (More body) = rest_of body
rest_body Ended = Good []
rest_body (Faulty kind) = Bad [] kind

-- some bytes were written to the start of an output, and the rest of it does not change: these, and then what is left
-- of the body, are what was left of it before
pub record WritesNext (rest : Rest) (before : List ℕ) (rest' : Rest) (after : List ℕ) (len : ℕ) : Type 0 where
  pub bytes : List ℕ
  pub wrote : WritesFront bytes before after len
  pub body_is : rest_body rest ≡ prepend bytes (rest_body rest')

-- if there may be more of the body, fewer than four bytes of the output are left
abbrev pub IsFull : Rest → ℕ → ℕ → Type 0
IsFull (More body) room len = room < len + 4
IsFull Ended room len = Unit {0}
IsFull (Faulty kind) room len = Unit {0}

-- the next bytes of a body were written to an output, and fewer than four bytes of it are left if the body goes on
pub record Fills (rest : Rest) (before : List ℕ) (rest' : Rest) (after : List ℕ) (len : ℕ) : Type 0 where
  pub reads : WritesNext rest before rest' after len
  pub full : IsFull rest' (length before) len
