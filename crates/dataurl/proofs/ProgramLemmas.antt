-- What the program does with its words.
use Rattle.std.proofs.Common.{◌≡◌, ℕ, List, Option, Some, Ok, Vec, String, map, string_bytes, sym, ap, ◌∙◌, subst}
use Rattle.std.specs.Global.{Global}
use Rattle.dataurl.specs.Command.{command_of_words}
use Rattle.dataurl.specs.Output.{End}
use Rattle.dataurl.specs.Program.{Executes, with_command}
use Rattle.dataurl.specs.Runs.{Runs}
use Rattle.dataurl.specs.Status.{status_of_end}
use Rattle.dataurl.specs.declared.command.Command.{Command}

-- the words as the caller of `command_of` sees them
pub command_is : (words : Vec (String Global) Global) {texts : List (String Global)} {a b : Option Command}
    → a ≡ command_of_words (map string_bytes texts) → texts ≡ words.items → a ≡ b
    → command_of_words (map string_bytes words.items) ≡ b
command_is words e t is = sym (e ∙ ap (λ ws. command_of_words (map string_bytes ws)) t) ∙ is

-- the command ran, and its end has the status
pub ran : {unread left held now : Option (List ℕ)} {words : Vec (String Global) Global} {c : Command} {end : End}
    {status : ℕ} → command_of_words (map string_bytes words.items) ≡ Some c → Runs c unread left held now end
    → status_of_end end ≡ status → Executes unread left held now (Ok words) status
ran {unread} {left} {held} {now} {words} e run is =
    let P : ℕ → Type 0 = λ n. Executes unread left held now (Ok words) n in
    subst P is (with_command e run)
