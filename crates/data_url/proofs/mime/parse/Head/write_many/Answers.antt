use Rattle.std.{proofs.Common.{ap, inl, map, refl, ◌∙◌}}
use Rattle.data_url.specs.{Mime.{kept_pairs}, MimeType.{pair_of}}
use Rattle.data_url.proofs.mime.PartTexts.{record_of_head, record_written}
use Rattle.data_url.specs.Steps.MimeParts.{head_record}
use Rattle.data_url.proofs.mime.parse.Head.write_many.Goals as goal

pub returns-in_default : goal.returns-in_default
returns-in_default c =
    let many = c.requires.many in
    let head = c.args.self.now in
    (head_record head (kept_pairs many.0), record_of_head head many.0 _ many.1 refl, inl many.2, refl)

pub returns : goal.returns
returns c =
    let found = c.in-Ok.ensures in
    record_written _ _ _ _ c.write_with.result (record_of_head c.args.self.now found.0 _ found.1
    (ap (λ ps. map (λ p. pair_of p) ps) c.deref.ensures.value ∙ found.2)) c.write_with.ensures
