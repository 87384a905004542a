use mathlib.Core.Path.{◌≡◌}
use Rattle.whole.specs.Laws.Within.{back}
use Rattle.node.specs.Entry.{entries_of}
use Rattle.node.specs.WorkedOut.{hull_on}
use Rattle.node.specs.Inner.Made.{worked_out_bounds}
use Rattle.node.specs.Laws.Made.{hull_on_kept}
use Rattle.node.proofs.made.work_out.Goals as goal
use Rattle.node.proofs.made.work_out.Goals.{After-worked_row, After-worked_row-2}

-- what is worked out is in range, so it may be narrowed
x_is : (c : After-worked_row) → let a = c.args in c.worked_row.result ≡ hull_on a.leaf 0 a.minute (entries_of a.child.now)
x_is c = simp (back c.ranges.minute) at c.worked_row.ensures

y_is : (c : After-worked_row-2) → let a = c.args in c.worked_row-2.result ≡ hull_on a.leaf 1 a.minute (entries_of a.child.now)
y_is c = simp (back c.ranges.minute) at c.worked_row-2.ensures

pub narrow_row-x-requires : goal.narrow_row-x-requires
narrow_row-x-requires c =
    rw (x_is (goal.at.narrow_row-x-requires c).After-worked_row) (hull_on_kept c.args.leaf 0 (entries_of c.args.child.now) c.requires.0 (λ e m. (c.requires.1 e m).x_in))

pub narrow_row-y-requires : goal.narrow_row-y-requires
narrow_row-y-requires c =
    rw (y_is (goal.at.narrow_row-y-requires c).After-worked_row-2) (hull_on_kept c.args.leaf 1 (entries_of c.args.child.now) c.requires.0 (λ e m. (c.requires.1 e m).y_in))

pub returns-clause-bounds : goal.returns-clause-bounds
unfolding worked_out_bounds
returns-clause-bounds c =
    rw (c.narrow_row-x.ensures, c.narrow_row-y.ensures, x_is (goal.at.returns-clause-bounds c).After-worked_row, y_is (goal.at.returns-clause-bounds c).After-worked_row-2)
