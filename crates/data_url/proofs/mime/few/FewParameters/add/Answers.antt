use Rattle.std.proofs.Common.{arith, inl, inr, map, refl, sym, ◌∙◌}
use Rattle.std.specs.{Char.{to_ascii_lowercase}, Str.{chars}}
use Rattle.data_url.specs.Steps.{Few.{sliced_pairs}, Parsing.{value_of}}
use Rattle.data_url.proofs.mime.{FewPairs.{no_pair_added, no_room, one_pair_added}, FirstNames.{token_text_lower}}
use Rattle.data_url.proofs.mime.few.FewParameters.add.Goals as goal

pub returns-then-not-parameter : goal.returns-then-not-parameter
returns-then-not-parameter c = (
  no_pair_added (sliced_pairs c.args.self.now)
      (map to_ascii_lowercase (chars c.args.parameter.now.name.now)) (value_of c.args.parameter.now.value)
      (elim c.then-not-parameter.branch [
        | goal.then-not-parameter-via-then-not-parameter w ↦
            inl (token_text_lower _ ∙ sym c.requires.token ∙ w.if-not-parameter.true)
        | goal.then-not-parameter-via-else-not-parameter+then-has_name w ↦
            inr (inl (sym w.has_name.ensures ∙ w.if-has_name.true))
        | goal.then-not-parameter-via-else-not-parameter+else-has_name+then-not-is_valid w ↦
            inr (inr w.if-not-is_valid.ensures)
      ]),
  c.requires.tokens,
)

pub returns-then-self-eq-MOST_SLICES : goal.returns-then-self-eq-MOST_SLICES
returns-then-self-eq-MOST_SLICES c = no_room c.args.self.now _ _ _ c.requires.tokens c.if-self-eq-MOST_SLICES.true
    (sym c.requires.token ∙ c.if-not-parameter.false) (sym c.has_name.ensures ∙ c.if-has_name.false)
    c.if-not-is_valid.ensures

pub returns : goal.returns
returns c = one_pair_added c.args.self.now _ _ c.requires.tokens (omega (arith, c.requires.tokens.within))
    (sym c.requires.token ∙ c.if-not-parameter.false) (sym c.has_name.ensures ∙ c.if-has_name.false)
    c.if-not-is_valid.ensures refl refl
