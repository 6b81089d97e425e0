-- The bytes of a text that its body does not hold as they are.
use Rattle.std.specs.Prelude.{◌==◌, ◌||◌, Bool, not, ℕ}
use Rattle.data_url.specs.Url.{is_tab_or_newline, number_sign, percent_sign}

-- a tab, a newline, '#' or '%'
abbrev pub is_marked : ℕ → Bool
is_marked b = is_tab_or_newline b || ((b == number_sign) || (b == percent_sign))

-- neither '#' nor '%'
abbrev pub is_no_hash_or_percent : ℕ → Bool
is_no_hash_or_percent b = not ((b == number_sign) || (b == percent_sign))
