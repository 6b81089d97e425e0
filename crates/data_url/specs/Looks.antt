-- How many bytes of a text were read, as contracts see it.
use Rattle.std.specs.Option.{option_map_or}
use Rattle.std.specs.Prelude.{◌+◌, ℕ}
use Rattle.data_url.specs.declared.escapes.looks.Look.TheFolds.{fold-Look}
use Rattle.data_url.specs.declared.escapes.looks.Look.{Look, Look-F}

-- the number of bytes read by a look and by the earlier ones
abbrev pub bytes_with : Look-F ℕ → ℕ
bytes_with mark = option_map_or (λ looked. looked.value) mark.before 0 + mark.bytes

-- the number of bytes read by all looks
abbrev pub bytes_looked_at : Look → ℕ
bytes_looked_at = fold-Look ℕ bytes_with
