use Rattle.std.{proofs.Common.{◌∙◌, ap, refl}, proofs.lemmas.Bool.{agree_below_at}}
use Rattle.std.specs.Int.Count.{count_trailing_zeros}
use Rattle.data_url.specs.{Base64.{is_symbol}, Steps.Classes.{may_be_outside}}
use Rattle.data_url.specs.declared.forgiving_base64.alphabet.TheConstants.{SYMBOLS}
use Rattle.data_url.proofs.forgiving_base64.{Packed.{first_other}, Vectors.{is_other, map_agree}}
use lib.Lanes.{mask_l}
use Rattle.data_url.proofs.forgiving_base64.alphabet.symbols_in_block.Goals as goal

pub returns-clause-starts : goal.returns-clause-starts
returns-clause-starts c = ap (count_trailing_zeros 64) (c.outside_in_block.ensures
    ∙ ap mask_l (map_agree (may_be_outside SYMBOLS) is_other
    (λ b l. agree_below_at (may_be_outside SYMBOLS) is_other 256 b refl l) c.args.bytes c.fits-bytes.1))
    ∙ first_other is_symbol 64 c.args.bytes c.fits-bytes.0
