use Rattle.std.proofs.Common.{None, Some}
use Rattle.data_url.specs.Steps.Header.{IsMedia}
use Rattle.data_url.proofs.header.Media.{media_record, prefix_media, trimmed_media}
use Rattle.data_url.proofs.header.Stages.{suffix_is}
use Rattle.data_url.proofs.header.split_suffix.Goals as goal

pub returns-in-Some-clause-header : goal.returns-in-Some-clause-header
returns-in-Some-clause-header c m r =
    let stripped : IsMedia c.trim-stripped.result.now =
    rw c.trim-stripped.ensures (trimmed_media c.args.header.now c.requires) in
    let text = c.without_trailing_whitespace.ensures in
    suffix_is _ _ (Some c.in-Some.text.now) m c.requires c.trim-stripped.ensures c.in-Some.ensures.text
    (media_record _ _ _ _ stripped c.in-Some.ensures.prefix text.trimmed text.bytes m r)

pub returns-in-Some-clause-media : goal.returns-in-Some-clause-media
returns-in-Some-clause-media c =
    let stripped : IsMedia c.trim-stripped.result.now =
    rw c.trim-stripped.ensures (trimmed_media c.args.header.now c.requires) in
    let text = c.without_trailing_whitespace.ensures in
    prefix_media _ _ _ _ stripped c.in-Some.ensures.prefix text.trimmed text.bytes

pub returns-in-None-clause-header : goal.returns-in-None-clause-header
returns-in-None-clause-header c m = suffix_is _ _ None m c.requires c.trim-stripped.ensures c.in-None.ensures.text

pub returns-in-None-clause-media : goal.returns-in-None-clause-media
returns-in-None-clause-media c = rw c.trim-stripped.ensures (trimmed_media c.args.header.now c.requires)
