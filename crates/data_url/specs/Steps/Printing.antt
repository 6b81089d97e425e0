-- What the private functions that print do. Output is buffered: its end is held in a buffer.
use Rattle.std.specs.Fmt.{HasWrittenStyled, IsFlush}
use Rattle.std.specs.Prelude.{◌++◌, ◌≡◌, ◌≤◌, IsOk, List, Result, take, ℕ}
use Rattle.std.specs.Str.{IsUtf8}
use Rattle.std.specs.declared.fmt.Error.{Error}
use Rattle.std.specs.declared.fmt.Formatter.{Formatter}
use Rattle.data_url.specs.declared.mime.print_buffer.PrintBuffer.{PrintBuffer}
use Rattle.data_url.specs.declared.mime.print_buffer.TheConstants.{BUFFER_LEN}

-- the bytes in the buffer
abbrev pub held : PrintBuffer → List ℕ
held buffer = take buffer.len buffer.bytes

-- these bytes fit into the buffer, and are UTF-8
pub record IsHeld (buffer : PrintBuffer) : Type 0 where
  pub fits : buffer.len ≤ BUFFER_LEN
  pub text : IsUtf8 (held buffer)

-- what the buffer held and a text are partly written to f, if f indents nothing, and the rest is in the buffer
pub record AddsToBuffer {W : Type 0} (took : W → List ℕ → W → Type 0) (f : Formatter W) (buffer : PrintBuffer)
    (text : List ℕ) (g : Formatter W) (after : PrintBuffer) : Type 0 where
  pub written : List ℕ
  pub wrote : IsFlush f → HasWrittenStyled took f written g
  pub joined : held buffer ++ text ≡ written ++ held after

-- if the result is `Ok`, a text is added
abbrev pub AddsOnOk : {W : Type 0} → (W → List ℕ → W → Type 0) → Formatter W → PrintBuffer
    → Result (Unit {0}) Error → List ℕ → Formatter W → PrintBuffer → Type 0
AddsOnOk took f buffer r text g after = IsOk r → AddsToBuffer took f buffer text g after
