use Rattle.whole.specs.Laws.Within.{back}
use Rattle.track.proofs.queries.window_from.Goals as goal

pub returns : goal.returns
returns c = let f = c.ranges in simp (back, f.start, f.end, f.xlow, f.xhigh, f.ylow, f.yhigh) at c.query_from.ensures
