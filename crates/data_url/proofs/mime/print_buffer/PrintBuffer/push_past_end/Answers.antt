use Rattle.std.proofs.Common.{refl}
use Rattle.data_url.proofs.mime.RoundTrips.{adds_written}
use Rattle.data_url.proofs.mime.print_buffer.PrintBuffer.push_past_end.Goals as goal

pub returns-then-text-gt-BUFFER_LEN-clause-added : goal.returns-then-text-gt-BUFFER_LEN-clause-added
returns-then-text-gt-BUFFER_LEN-clause-added g c ok = adds_written (λ p. c.in_ok-flush.ensures.written p refl)
    (λ p. c.write_str.ensures.styled p ok) c.in_ok-flush.ensures.none
