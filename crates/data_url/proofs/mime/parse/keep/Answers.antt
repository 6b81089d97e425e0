use Rattle.std.proofs.{Common.{◌++◌, ap, inl, inr, map, sym, ◌∙◌}, lemmas.Result.{on_ok_weaker}}
use Rattle.std.specs.{Char.{to_ascii_lowercase}, Option.{option_map}, Str.{chars}}
use Rattle.data_url.specs.{MimeType.{code_points}, Steps.Kept.{pairs_of}, Steps.Parsing.{unless_named, value_of}}
use Rattle.data_url.proofs.mime.FirstNames.{not_kept, new_pair, none_added, token_text_lower}
use Rattle.data_url.proofs.mime.parse.keep.Goals as goal

pub returns-then-not-parameter-clause-pairs : goal.returns-then-not-parameter-clause-pairs
returns-then-not-parameter-clause-pairs c =
    none_added c.args.kept.now.pairs.items _ (not_kept (pairs_of c.args.kept.now)
    (map to_ascii_lowercase (chars c.args.parameter.now.name.now)) (value_of c.args.parameter.now.value)
    (elim c.then-not-parameter.branch [
      | goal.then-not-parameter-via-then-not-parameter w ↦
          inl (token_text_lower _ ∙ sym c.requires.token ∙ w.if-not-parameter.true)
      | goal.then-not-parameter-via-else-not-parameter+then-is_among_first w ↦
          inr (sym w.is_among_first.ensures ∙ w.if-is_among_first.true)
    ]))

pub returns-clause-pairs : goal.returns-clause-pairs
returns-clause-pairs c =
    let pairs = pairs_of c.args.kept.now in
    let value = sym (ap (option_map (λ t. code_points t)) c.in-Some.is) ∙ c.in_ok-value.ensures in
    on_ok_weaker c.push.result (λ h. h ∙ ap (λ ps. pairs ++ unless_named pairs ps)
    (new_pair _ _ _ _ _ c.requires.token c.if-not-parameter.false c.in_ok-lowercased.ensures value))
    c.push.ensures.pairs
