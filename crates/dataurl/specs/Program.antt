-- What the whole program does, and the status that it ends with.
use Rattle.std.specs.Global.{Global}
use Rattle.std.specs.Prelude.{◌≡◌, Err, List, None, Ok, Option, Result, Some, String, Vec, map, string_bytes, ℕ}
use Rattle.dataurl.specs.Command.{command_of_words}
use Rattle.dataurl.specs.Runs.{Runs}
use Rattle.dataurl.specs.Status.{status_of, status_of_end}
use Rattle.dataurl.specs.declared.command.Command.{Command}
use Rattle.dataurl.specs.declared.fault.Fault.{Fault}

-- the words could not be read; or they name no command; or the command ran, and the status is that of
-- its end. Only a command reads from the reader and writes to the writer.
pub data Executes (unread left held now : Option (List ℕ))
    : Result (Vec (String Global) Global) Fault → ℕ → Type 0 where
  without_words : {fault : Fault} → left ≡ unread → now ≡ held
      → Executes unread left held now (Err fault) (status_of fault)
  without_command : {words : Vec (String Global) Global}
      → command_of_words (map string_bytes words.items) ≡ None → left ≡ unread → now ≡ held
      → Executes unread left held now (Ok words) 2
  with_command : {words : Vec (String Global) Global} {c : Command} {end : _}
      → command_of_words (map string_bytes words.items) ≡ Some c → Runs c unread left held now end
      → Executes unread left held now (Ok words) (status_of_end end)
