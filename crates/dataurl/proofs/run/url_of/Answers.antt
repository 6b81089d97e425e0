use Rattle.std.proofs.Common.{Err, subst}
use Rattle.data_url.specs.DataUrl.{IsProcessed}
use Rattle.data_url.specs.declared.DataUrlError.{DataUrlError}
use Rattle.dataurl.specs.Steps.Parts.{no_comma_is, no_scheme_is, no_url_memory, url_is}
use Rattle.dataurl.proofs.run.url_of.Goals as goal

pub returns-in-Ok : goal.returns-in-Ok
returns-in-Ok c = url_is c.in-Ok.url c.in-Ok.ensures

pub returns-in-Err-NotADataUrl : goal.returns-in-Err-NotADataUrl
returns-in-Err-NotADataUrl c =
    let P : DataUrlError → Type 0 = λ e. IsProcessed c.args.text.now (Err e) in
    no_scheme_is (subst P c.in-Err-NotADataUrl.field-0-is c.in-Err-NotADataUrl.ensures)

pub returns-in-Err-NoComma : goal.returns-in-Err-NoComma
returns-in-Err-NoComma c =
    let P : DataUrlError → Type 0 = λ e. IsProcessed c.args.text.now (Err e) in
    no_comma_is (subst P c.in-Err-NoComma.field-0-is c.in-Err-NoComma.ensures)

pub returns-in-Err-OutOfMemory : goal.returns-in-Err-OutOfMemory
returns-in-Err-OutOfMemory c =
    let P : DataUrlError → Type 0 = λ e. IsProcessed c.args.text.now (Err e) in
    no_url_memory (subst P c.in-Err-OutOfMemory.field-0-is c.in-Err-OutOfMemory.ensures)
