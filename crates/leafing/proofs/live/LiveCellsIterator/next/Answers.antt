use Rattle.std.proofs.Common.{rules}
use Rattle.leafing.specs.Laws.LiveStep.{live_goes}
use Rattle.leafing.proofs.live.LiveCellsIterator.next.Goals as goal

pub returns-clause-goes : goal.returns-clause-goes
returns-clause-goes c = live_goes c.next_of_sound-r.result c.requires (search rules)
