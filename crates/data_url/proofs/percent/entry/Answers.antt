use Rattle.std.proofs.Common.{arith, refl}
use Rattle.data_url.specs.{Url.{in_fragment_set, in_path_set, in_query_set}, declared.percent.TheConstants.{FRAGMENT}}
use Rattle.data_url.specs.declared.percent.TheConstants.{PATH, QUERY}
use Rattle.data_url.proofs.percent.Encoding.{entry_by}
use Rattle.data_url.proofs.percent.entry.Goals as goal

pub returns-in-Path : goal.returns-in-Path
returns-in-Path c = rw c.in-Path.is (entry_by in_path_set PATH refl c.args.byte (omega arith))

pub returns-in-Query : goal.returns-in-Query
returns-in-Query c = rw c.in-Query.is (entry_by in_query_set QUERY refl c.args.byte (omega arith))

pub returns-in-Fragment : goal.returns-in-Fragment
returns-in-Fragment c = rw c.in-Fragment.is (entry_by in_fragment_set FRAGMENT refl c.args.byte (omega arith))
