use Rattle.std.proofs.Common.{arith}
use Rattle.data_url.specs.MimeType.{record_of}
use Rattle.data_url.proofs.header.Stages.{bytes_trimmed, is_url_with, stages_no_scheme}
use Rattle.data_url.proofs.DataUrl.process.Goals as goal

pub returns-in_default : goal.returns-in_default
returns-in_default c = grind (arith, stages_no_scheme)

pub returns : goal.returns
returns c =
    let media = record_of c.in-Ok-read_media.mime_type in
    let header = c.split_suffix-base64.ensures.header media c.in-Ok-read_media.ensures in
    is_url_with c.args.input.now c.in-Some.rest.now c.in-Some-split_at_comma.split.header.now
    (bytes_trimmed c.args.input.now (λ i. omega (arith, c.type_inv.input i)))
    (rw c.trim.ensures at c.in-Some.ensures.found) c.in-Some-split_at_comma.ensures.found
    (rw c.serialised_text.ensures.text at header)
