use Rattle.data_url.proofs.mime.Lowercase.{word_lower}
use Rattle.data_url.proofs.mime.lower.lowercase_word.Goals as goal

pub returns : goal.returns
returns c = word_lower c.args.word c.fits-word.0 c.fits-word.1
