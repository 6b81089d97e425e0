use Rattle.std.{proofs.Common.{◌∙◌, ap, refl}, proofs.lemmas.Bool.{agree_below_at}}
use Rattle.data_url.specs.{Steps.Classes.{may_be_outside}, declared.forgiving_base64.alphabet.TheConstants.{SYMBOLS}}
use Rattle.data_url.proofs.forgiving_base64.Vectors.{is_other, map_agree}
use lib.Lanes.{mask_l}
use Rattle.data_url.proofs.forgiving_base64.alphabet.non_symbols.Goals as goal

pub returns : goal.returns
returns c = c.outside.ensures ∙ ap mask_l (map_agree (may_be_outside SYMBOLS) is_other
    (λ b l. agree_below_at (may_be_outside SYMBOLS) is_other 256 b refl l) c.args.bytes c.fits-bytes.1)
