use Rattle.std.{proofs.Common.{◌∙◌, ap, not, refl}, proofs.lemmas.Bool.{agree_below_at}}
use Rattle.std.{specs.Int.Count.{count_trailing_zeros}, specs.Simd.Lanes.{mask_l}}
use Rattle.data_url.specs.Steps.{Classes.{may_be_outside}, Groups.{is_symbol_or_space}}
use Rattle.data_url.specs.declared.forgiving_base64.alphabet.TheConstants.{SPACED}
use Rattle.data_url.proofs.forgiving_base64.{Packed.{first_other, row_mask_small}, Vectors.{map_agree}}
use Rattle.data_url.proofs.forgiving_base64.alphabet.spaced_ahead.Goals as goal

pub overflow_cast-result : goal.overflow_cast-result
overflow_cast-result c =
    record { fits = row_mask_small (may_be_outside SPACED) c.args.bytes c.fits-bytes.0 c.outside.ensures }

pub returns-clause-starts : goal.returns-clause-starts
returns-clause-starts c = ap (count_trailing_zeros 16) (c.outside.ensures
    ∙ ap mask_l (map_agree (may_be_outside SPACED) (λ b. not (is_symbol_or_space b)) (λ b l. agree_below_at
    (may_be_outside SPACED) (λ b. not (is_symbol_or_space b)) 256 b refl l) c.args.bytes c.fits-bytes.1))
    ∙ first_other is_symbol_or_space 16 c.args.bytes c.fits-bytes.0
