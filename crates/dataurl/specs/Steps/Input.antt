-- What reading a whole input does.
use Rattle.std.specs.Global.{Global}
use Rattle.std.specs.Io.KnownBytes.{Consumes, IsAtEnd}
use Rattle.std.specs.Prelude.{◌≡◌, Err, IsUtf8, List, Ok, Option, Result, String, Vec, string_bytes, ℕ}
use Rattle.dataurl.specs.declared.fault.Fault.TheVariants.{Memory, NotUtf8, Read}
use Rattle.dataurl.specs.declared.fault.Fault.{Fault}

-- the result of reading a whole input, from the bytes read (input) and those not yet read (left)
pub data IsRead (left : Option (List ℕ)) (input : List ℕ) : Result (Vec ℕ Global) Fault
    → Type 0 where
  whole : {bytes : Vec ℕ Global} → bytes.items ≡ input → IsAtEnd left → IsRead left input (Ok bytes)
  no_memory : IsRead left input (Err Memory)
  read_failed : IsRead left input (Err Read)

-- what a reader holds after the whole input was read
pub record ReadsAll (old new : Option (List ℕ)) (r : Result (Vec ℕ Global) Fault) : Type 0 where
  pub input : List ℕ
  pub consumed : Consumes old new input
  pub is_read : IsRead new input r

-- the same for an input that has to be UTF-8
pub data IsReadText (left : Option (List ℕ)) (input : List ℕ) : Result (String Global) Fault
    → Type 0 where
  whole_text : {text : String Global} → string_bytes text ≡ input → IsUtf8 input → IsAtEnd left
      → IsReadText left input (Ok text)
  not_utf8 : (IsUtf8 input → ⊥) → IsAtEnd left → IsReadText left input (Err NotUtf8)
  no_text_memory : IsReadText left input (Err Memory)
  text_read_failed : IsReadText left input (Err Read)

pub record ReadsText (old new : Option (List ℕ)) (r : Result (String Global) Fault) : Type 0 where
  pub input : List ℕ
  pub consumed : Consumes old new input
  pub is_read : IsReadText new input r
