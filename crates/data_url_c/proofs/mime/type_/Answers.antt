use Rattle.data_url.specs.MimeType.{record_of}
use Rattle.data_url_c.proofs.GivenLemmas.{gives_type, no_record, some_record}
use Rattle.data_url_c.proofs.mime.type_.Goals as goal

pub returns-in-Ok : goal.returns-in-Ok
returns-in-Ok c = gives_type {mime = record_of c.in-Ok.mime} c.in-Some.ensures.0 c.in-Some.ensures.1
    c.in-Ok.ensures.parsed c.printed_of.result c.printed_of.ensures

pub returns-in-Err-Parsing : goal.returns-in-Err-Parsing
returns-in-Err-Parsing c = (
  c.in-Some.ensures.0,
  no_record c.in-Some.ensures.1 c.in-Err-Parsing.is c.in-Err-Parsing.field-0-is
      c.from_str.ensures.refused.0,
)

pub returns-in-Err-OutOfMemory : goal.returns-in-Err-OutOfMemory
returns-in-Err-OutOfMemory c = (
  c.in-Some.ensures.0,
  some_record c.in-Some.ensures.1 c.in-Err-OutOfMemory.is c.in-Err-OutOfMemory.field-0-is
      c.from_str.ensures.refused.1,
)
