use Rattle.data_url.specs.MimeType.{record_of}
use Rattle.dataurl.specs.Output.{record_of_text, type_of}
use Rattle.dataurl.proofs.StepLemmas.{type_refused, writes_as, writes_no_memory, writes_nothing}
use Rattle.dataurl.proofs.run.write_type.Goals as goal

pub returns-in-Ok : goal.returns-in-Ok
returns-in-Ok g c = writes_as (type_of (record_of_text {m = record_of c.in-Ok.mime} c.in-Ok.ensures.parsed))
    c.write_record.ensures

pub returns-in-Err-Parsing : goal.returns-in-Err-Parsing
returns-in-Err-Parsing g c =
    writes_nothing (g.W.Write.contents c.args.writer.now)
    (type_refused c.args.text.now c.from_str.result c.in-Err-Parsing.field-0 c.in-Err-Parsing.field-0-0
    c.in-Err-Parsing.is c.in-Err-Parsing.field-0-is c.from_str.ensures.refused.0)

pub returns-in-Err-OutOfMemory : goal.returns-in-Err-OutOfMemory
returns-in-Err-OutOfMemory g c = writes_no_memory (g.W.Write.contents c.args.writer.now)
