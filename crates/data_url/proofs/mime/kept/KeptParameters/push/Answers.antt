use Rattle.std.{proofs.Common.{arith, ap, map, refl, set, string_bytes, ◌∙◌}, specs.Char.{to_ascii_lowercase}}
use Rattle.data_url.specs.{Steps.Kept.{fingerprint_of}, declared.mime.kept.KeptParameters.{KeptParameters}}
use Rattle.data_url.proofs.mime.FirstNames.{pushed_first, pushed_later, some_byte}
use Rattle.data_url.proofs.mime.kept.KeptParameters.push.Goals as goal

pub fingerprint-requires : goal.fingerprint-requires
fingerprint-requires c = grind (arith, some_byte (string_bytes c.args.name))

pub returns-in_ok-push : goal.returns-in_ok-push
returns-in_ok-push c =
    let old = c.args.self.now in
    let bytes = set old.fingerprints c.len-place.result c.fingerprint.result in
    let later = old.later_names in
    let kept : KeptParameters = record { pairs = c.push.new.self; fingerprints = bytes; later_names = later } in
    let r = pushed_first c.args.name c.args.value c.requires.indexed c.requires.lower c.requires.new kept _ _
    (omega arith) c.if-place-lt-LOOKED_THROUGH.true c.in_ok-push.ensures.items
    (c.fingerprint.ensures ∙ ap (λ s. fingerprint_of (map to_ascii_lowercase s)) c.as_str.ensures.value) refl refl in
    record { pairs = r.0; indexed = r.1 }

pub returns-in_ok-push-2 : goal.returns-in_ok-push-2
returns-in_ok-push-2 c =
    let kept : KeptParameters = record {
      pairs = c.push-then-branch.new.self;
      fingerprints = c.args.self.now.fingerprints;
      later_names = c.insert.new.self;
    } in
    let r = pushed_later c.args.name c.args.value c.requires.indexed c.requires.lower c.requires.new
    c.in_ok-clone.field-0 c.in_ok-clone.ensures.cases c.in_ok-insert.ensures.added kept c.if-branch.true
    (omega arith) c.in_ok-push-2.ensures.items refl c.in_ok-insert.ensures.updates in
    record { pairs = r.0; indexed = r.1 }
