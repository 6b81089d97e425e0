use Rattle.std.{proofs.Common.{◌∙◌, not, refl}, proofs.lemmas.Bool.{agree_below_at}}
use Rattle.data_url.specs.Steps.{Classes.{may_be_outside}, Groups.{is_symbol_or_space}}
use Rattle.data_url.specs.declared.forgiving_base64.alphabet.TheConstants.{SPACED}
use Rattle.data_url.proofs.forgiving_base64.Vectors.{all_agree}
use Rattle.data_url.proofs.forgiving_base64.alphabet.is_spaced.Goals as goal

pub returns : goal.returns
returns c = c.none_outside.ensures ∙ all_agree (λ b. not (may_be_outside SPACED b)) is_symbol_or_space
    (λ b l. agree_below_at (λ b. not (may_be_outside SPACED b)) is_symbol_or_space 256 b refl l) c.args.bytes
    c.fits-bytes.1
