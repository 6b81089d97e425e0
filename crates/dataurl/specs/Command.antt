-- The words of the commands.
use Rattle.std.specs.Prelude.{[], if◌then◌else◌, ◌∷◌, ◌≢◌, List, None, Option, Some, codes, ℕ}
use Rattle.std.specs.Str.{bytes_eq}
use Rattle.dataurl.specs.declared.command.Command.TheVariants.{Base64, Body, Canonical, Fragment, MimeType}
use Rattle.dataurl.specs.declared.command.Command.{Command}

-- the command of a word
abbrev pub command_of_word : List ℕ → Option Command
command_of_word word = if bytes_eq word (codes "body") then Some Body
    else if bytes_eq word (codes "mime") then Some MimeType
    else if bytes_eq word (codes "fragment") then Some Fragment
    else if bytes_eq word (codes "type") then Some Canonical
    else if bytes_eq word (codes "base64") then Some Base64
    else None

-- the command of the words after the program's name: there has to be exactly one word
abbrev pub command_of_words : List (List ℕ) → Option Command
command_of_words (word ∷ []) = command_of_word word
command_of_words words = None

-- the command takes a data: URL
abbrev pub TakesUrl : Command → Type 0
TakesUrl c = (c ≢ Canonical) × (c ≢ Base64)

-- the command takes a text: its whole input is read into memory, and has to be UTF-8
abbrev pub TakesText : Command → Type 0
TakesText c = c ≢ Base64
