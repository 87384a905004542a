use Rattle.whole.specs.Laws.Within.{back}
use Rattle.tree.specs.Laws.Clear.{clearing_none, clearing_then}
use Rattle.tree.proofs.clear.clear.Goals as goal

pub loop-init : goal.loop-init
loop-init c = simp (back c.ranges.minute) (clearing_none c.requires)

pub loop-preserved : goal.loop-preserved
loop-preserved c = clearing_then c.loop.invariant (c.clear_one.ensures.one c.loop-test.true).0

pub returns : goal.returns
returns c =
    let clearing = simp (back c.ranges.minute, back c.ranges.id) at c.loop.invariant in
    let none = simp (back c.ranges.minute, back c.ranges.id) at (c.clear_one.ensures.none c.loop-test.false) in
    rw none.0 (record { clearing = clearing; all_stay = none.1 })
