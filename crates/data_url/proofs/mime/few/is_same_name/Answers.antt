use Rattle.data_url.proofs.mime.FewPairs.{same_name}
use Rattle.data_url.proofs.mime.few.is_same_name.Goals as goal

pub returns : goal.returns
returns c = same_name _ _ _ c.utf8.one c.utf8.other c.requires.one c.requires.other c.eq_ignore_ascii_case.ensures.test
