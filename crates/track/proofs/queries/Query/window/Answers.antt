use Rattle.whole.specs.Laws.Within.{back}
use Rattle.track.specs.Laws.Query.{asks_as}
use Rattle.track.proofs.queries.Query.window.Goals as goal

pub returns : goal.returns
returns c =
    asks_as c.ends_before_start.ensures
    (simp (back c.ranges.clock, c.still.ensures) at c.judged.ensures)
