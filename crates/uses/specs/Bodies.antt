-- What decoding a body does to the state of a closure.
use Rattle.std.specs.Prelude.{◌++◌, ◌-◌, ◌^◌, ◌≡◌, Err, List, Ok, Result, length, min, ℕ}
use Rattle.data_url.specs.Base64.{Kind}
use Rattle.data_url.specs.Fetch.{Bad, Good, Outcome, outcome_bytes}
use Rattle.data_url.specs.Run.{IsPrefix}
use Rattle.data_url.specs.declared.forgiving_base64.DecodeToVecError.TheVariants.{InvalidBase64, OutOfMemory}
use Rattle.data_url.specs.declared.forgiving_base64.DecodeToVecError.{DecodeToVecError}

-- true of every result
abbrev pub AnyAnswer : {A : Type 0} → A → Type 0
AnyAnswer x = Unit {0}

-- the length of a good body, but at most 2 ^ 64 - 1; or the kind of the fault of a bad body
abbrev pub IsLengthOf : Outcome → Result ℕ Kind → Type 0
IsLengthOf (Good bytes) r = r ≡ Ok (min (length bytes) (2 ^ 64 - 1))
IsLengthOf (Bad bytes kind) r = r ≡ Err kind

-- the old bytes, and then: the body; or the bytes before its fault; or, if allocation fails, a prefix
-- of these
abbrev pub Appends : Outcome → List ℕ → List ℕ → Result (Unit {0}) DecodeToVecError → Type 0
Appends body old new (Ok x) = (bytes : List ℕ) × (body ≡ Good bytes) × (new ≡ old ++ bytes)
Appends body old new (Err (InvalidBase64 kind)) =
    (bytes : List ℕ) × (body ≡ Bad bytes kind) × (new ≡ old ++ bytes)
Appends body old new (Err OutOfMemory) =
    (bytes : List ℕ) × IsPrefix bytes (outcome_bytes body) × (new ≡ old ++ bytes)
