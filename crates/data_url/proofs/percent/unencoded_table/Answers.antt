use Rattle.std.proofs.Common.{refl}
use Rattle.data_url.specs.Url.{in_fragment_set, in_path_set, in_query_set}
use Rattle.data_url.proofs.percent.Encoding.{kept_where}
use Rattle.data_url.proofs.percent.unencoded_table.Goals as goal

pub returns-in-Path : goal.returns-in-Path
returns-in-Path c = rw c.in-Path.is (kept_where _ in_path_set refl)

pub returns-in-Query : goal.returns-in-Query
returns-in-Query c = rw c.in-Query.is (kept_where _ in_query_set refl)

pub returns-in-Fragment : goal.returns-in-Fragment
returns-in-Fragment c = rw c.in-Fragment.is (kept_where _ in_fragment_set refl)
