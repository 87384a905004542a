use Rattle.whole.specs.Laws.Tells.{tells_iff}
use Rattle.sort.specs.Laws.Sorted.{sorted_tells}
use Rattle.table.proofs.sound.distinct.Goals as goal

pub returns-clause-tells : goal.returns-clause-tells
returns-clause-tells c = tells_iff (sorted_tells c.sort.ensures c.rises.ensures)
