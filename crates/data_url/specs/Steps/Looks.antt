-- A bound on how many bytes of a text are read.
use Rattle.std.specs.List.{prefix_len}
use Rattle.std.specs.Prelude.{◌*◌, ◌+◌, ◌==◌, List, drop, not, ℕ}
use Rattle.data_url.specs.Url.{percent_sign}

-- the number of bytes before the next '%'
abbrev pub before_percent : List ℕ → ℕ
before_percent s = prefix_len (λ b. not (b == percent_sign)) s

-- how many bytes may have been read if the walk is at an index, besides those of the blocks
abbrev pub paid : List ℕ → ℕ → ℕ
paid text place = 2 * place + before_percent (drop place text)
