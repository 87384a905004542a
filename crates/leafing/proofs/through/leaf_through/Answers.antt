use Rattle.std.proofs.Common.{arith, rules}
use Rattle.leafing.specs.Laws.Through.{through_listed}
use Rattle.leafing.proofs.through.leaf_through.Goals as goal

pub returns : goal.returns
returns c = through_listed c.list_all-found.ensures (search rules) (omega arith) c.put_run.ensures
