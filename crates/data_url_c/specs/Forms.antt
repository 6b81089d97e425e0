-- How a MIME type record is written to an output, if not in parts.
use Rattle.std.specs.Prelude.{List, encode_utf8_all, ℕ}
use Rattle.data_url.specs.Mime.{Record, printed}

-- the serialised record
abbrev pub serialised : Record → List ℕ
serialised m = encode_utf8_all (printed m)
