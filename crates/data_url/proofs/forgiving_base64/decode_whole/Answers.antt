use Rattle.std.specs.Fn.{CalledAt}
use Rattle.data_url.proofs.forgiving_base64.WholeTexts.{decodes_finished, decodes_refused}
use Rattle.data_url.proofs.forgiving_base64.decode_whole.Goals as goal

pub returns-in-Ok : goal.returns-in-Ok
returns-in-Ok g c = decodes_finished (CalledAt g.F.FnMut) c.new-decoder.ensures.state c.in-Ok.ensures.fed
    c.finish_with.ensures.finished

pub returns-in-Err : goal.returns-in-Err
returns-in-Err g c = rw c.into_closure.ensures
    (decodes_refused (CalledAt g.F.FnMut) c.new-decoder.ensures.state c.in-Err.ensures.fed)
