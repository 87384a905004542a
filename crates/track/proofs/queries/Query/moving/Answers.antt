use Rattle.whole.specs.Laws.Within.{back}
use Rattle.track.specs.Laws.Query.{asks_as}
use Rattle.track.proofs.queries.Query.moving.Goals as goal

pub returns : goal.returns
returns c = asks_as c.ends_by_start.ensures (simp (back c.ranges.clock) at c.judged.ensures)
