use Rattle.std.proofs.Common.{rules}
use Rattle.leafing.specs.Laws.Leafing.{leafing_goes}
use Rattle.leafing.proofs.LeafingIterator.next.Goals as goal

pub returns-clause-goes : goal.returns-clause-goes
returns-clause-goes c = leafing_goes c.next_live-r.result (search rules)
