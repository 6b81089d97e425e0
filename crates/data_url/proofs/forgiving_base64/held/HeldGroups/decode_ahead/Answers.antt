use Rattle.std.proofs.Common.{drop, take, take-add}
use Rattle.std.proofs.lemmas.List.{take_rest}
use Rattle.data_url.proofs.forgiving_base64.Groups.{adds_then}
use Rattle.data_url.proofs.forgiving_base64.held.HeldGroups.decode_ahead.Goals as goal

pub returns-clause-added : goal.returns-clause-added
returns-clause-added c =
    let text = c.args.text.now in
    let n = c.decode_rows-taken.result in
    let m = c.decode_spaced_rows.result in
    rw (take-add n m text) (adds_then (take n text) (take m (drop n text)) c.decode_rows-taken.ensures.added
    (rw (take_rest text n) at c.decode_spaced_rows.ensures.added))
