use Rattle.std.proofs.Common.{[], ◌∙◌, arith, inl, inr, refl, sym}
use Rattle.data_url.specs.Mime.{default_record}
use Rattle.data_url.proofs.header.Stages.{bytes_trimmed, empty_header, header_encoded, is_acceptable, is_url_with}
use Rattle.data_url.proofs.header.Stages.{no_bytes, stages_no_scheme}
use Rattle.data_url.proofs.parts.header.read_header.Goals as goal

pub returns-in_default : goal.returns-in_default
returns-in_default c = (grind (arith, stages_no_scheme), refl)

pub returns-then-is_empty : goal.returns-then-is_empty
returns-then-is_empty c =
    let split = c.in-Some-split_at_comma.split in
    let none = no_bytes split.header.now (sym c.is_empty.ensures ∙ c.if-is_empty.true) in
    record {
      mime = default_record;
      url_is = is_url_with c.args.input.now c.in-Some.rest.now []
          (bytes_trimmed c.args.input.now (λ i. omega (arith, c.type_inv.input i)))
          (rw c.trim.ensures at c.in-Some.ensures.found) (rw none at c.in-Some-split_at_comma.ensures.found)
          empty_header;
      written = c.write_default.ensures;
    }

pub returns-in_default-serialise : goal.returns-in_default-serialise
returns-in_default-serialise c =
    let t = c.args.input.now in
    let split = c.in-Some-split_at_comma.split in
    let bytes = bytes_trimmed t (λ i. omega (arith, c.type_inv.input i)) in
    let scheme = rw c.trim.ensures at c.in-Some.ensures.found in
    let cut = c.in-Some-split_at_comma.ensures in (
      is_acceptable t c.in-Some.rest.now split.header.now split.tail.now bytes scheme cut.found,
      refl,
      inl (header_encoded t c.in-Some.rest.now split.header.now split.tail.now scheme cut.found
          (cut.encoded c.in_default-serialise.ensures.needed)),
    )

pub returns-in_default-write_media : goal.returns-in_default-write_media
returns-in_default-write_media c =
    let t = c.args.input.now in
    let split = c.in-Some-split_at_comma.split in
    let bytes = bytes_trimmed t (λ i. omega (arith, c.type_inv.input i)) in
    let scheme = rw c.trim.ensures at c.in-Some.ensures.found in
    let found = c.in-Some-split_at_comma.ensures.found in
    let long = c.in_default-write_media.ensures in
    let header = rw c.serialised_text.ensures.text at c.split_suffix-base64.ensures.header long.0 long.1 in (
      is_acceptable t c.in-Some.rest.now split.header.now split.tail.now bytes scheme found,
      long.3,
      inr (
        long.0,
        c.split_suffix-base64.result.1,
        split.tail.now,
        is_url_with t c.in-Some.rest.now split.header.now bytes scheme found header,
        long.2,
      ),
    )

pub returns : goal.returns
returns c =
    let written = c.in-Ok-write_media.ensures in
    let header = c.split_suffix-base64.ensures.header written.0 written.1 in
    record {
      mime = written.0;
      url_is = is_url_with c.args.input.now c.in-Some.rest.now c.in-Some-split_at_comma.split.header.now
          (bytes_trimmed c.args.input.now (λ i. omega (arith, c.type_inv.input i)))
          (rw c.trim.ensures at c.in-Some.ensures.found) c.in-Some-split_at_comma.ensures.found
          (rw c.serialised_text.ensures.text at header);
      written = written.2;
    }
