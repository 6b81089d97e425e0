use Rattle.std.{proofs.Common.{◌∙◌, ap}, specs.Int.Count.{count_trailing_zeros}}
use Rattle.data_url.specs.Base64.{is_symbol}
use Rattle.data_url.proofs.forgiving_base64.Vectors.{is_other}
use Rattle.data_url.proofs.forgiving_base64.Packed.{first_other, row_mask_small}
use Rattle.data_url.proofs.forgiving_base64.alphabet.symbols_ahead.Goals as goal

pub overflow_cast-result : goal.overflow_cast-result
overflow_cast-result c = record { fits = row_mask_small is_other c.args.bytes c.fits-bytes.0 c.non_symbols.ensures }

pub returns-clause-starts : goal.returns-clause-starts
returns-clause-starts c = ap (count_trailing_zeros 16) c.non_symbols.ensures
    ∙ first_other is_symbol 16 c.args.bytes c.fits-bytes.0
