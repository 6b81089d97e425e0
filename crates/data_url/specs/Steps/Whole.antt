-- What decoding a whole text of base64 does, and a whole body.
use Rattle.std.specs.Global.{Global}
use Rattle.std.specs.Prelude.{if◌then◌else◌, ◌+◌, ◌≡◌, ◌≤◌, Bool, Err, List, MatchBool, MatchOption, Ok, Result, Vec}
use Rattle.std.specs.Prelude.{length, ℕ}
use Rattle.data_url.specs.Base64.{decoded, complete_bytes, is_valid, kind_of}
use Rattle.data_url.specs.Errors.{IsBodyErrorOf, IsRefused}
use Rattle.data_url.specs.Fetch.{Good, outcome, plain_body}
use Rattle.data_url.specs.Run.{Call, IsRun, joined_pieces, refusal}
use Rattle.data_url.specs.Steps.Tail.{IsBodyEnd}
use Rattle.data_url.specs.declared.forgiving_base64.DecodeError.TheVariants.{InvalidBase64, WriteError}
use Rattle.data_url.specs.declared.forgiving_base64.DecodeError.{DecodeError}
use Rattle.data_url.specs.declared.forgiving_base64.DecodeToVecError.TheVariants as to_vec
use Rattle.data_url.specs.declared.forgiving_base64.DecodeToVecError.{DecodeToVecError}

-- the whole text u is decoded. If it is valid, the closure is called with all its bytes; otherwise,
-- with the bytes of the groups that are complete before the first fault. If the closure returns an
-- error, it was called with a prefix of these bytes.
pub record DecodesText {F E : Type 0} (step : F → List ℕ → Result (Unit {0}) E → F → Type 0) (f : F)
    (u : List ℕ) (r : Result (Unit {0}) (DecodeError E)) (f' : F) : Type 0 where
  pub run : List (Call F E)
  pub ran : IsRun step f run f'
  pub calls : length run ≤ length u + 1
  pub gave : MatchOption (refusal run)
      (MatchBool (is_valid u) ((joined_pieces run ≡ decoded u) × (r ≡ Ok tt))
      ((joined_pieces run ≡ complete_bytes u) × (r ≡ Err (InvalidBase64 (kind_of u)))))
      (λ e. IsRefused (if is_valid u then decoded u else complete_bytes u) (joined_pieces run) e r)

-- the error of decoding into a vector: its closure fails only if allocation fails
abbrev pub vec_error : {E : Type 0} → DecodeError E → DecodeToVecError
vec_error (InvalidBase64 kind) = to_vec.InvalidBase64 kind
vec_error (WriteError e) = to_vec.OutOfMemory

-- a body in a vector, and the place in its tail where it ends; or the error, as `decode_to_vec` of a URL returns it
abbrev pub IsBodyInVec : Bool → List ℕ → Result (Vec ℕ Global × ℕ) DecodeToVecError → Type 0
IsBodyInVec flag tail (Ok found) =
    (outcome flag (plain_body tail) ≡ Good found.0.items) × IsBodyEnd tail found.1
IsBodyInVec flag tail (Err e) = IsBodyErrorOf (outcome flag (plain_body tail)) e
