use Rattle.std.{proofs.Common.{◌∙◌, not, refl}, proofs.lemmas.Bool.{agree_below_at}}
use Rattle.data_url.specs.{Base64.{is_symbol}, Steps.Classes.{may_be_outside}}
use Rattle.data_url.specs.declared.forgiving_base64.alphabet.TheConstants.{SYMBOLS}
use Rattle.data_url.proofs.forgiving_base64.Vectors.{all_agree}
use Rattle.data_url.proofs.forgiving_base64.alphabet.is_of_symbols.Goals as goal

pub returns : goal.returns
returns c = c.none_outside.ensures ∙ all_agree (λ b. not (may_be_outside SYMBOLS b)) is_symbol
    (λ b l. agree_below_at (λ b. not (may_be_outside SYMBOLS b)) is_symbol 256 b refl l) c.args.bytes c.fits-bytes.1
