use mathlib.Core.Path.{◌≡◌}
use Prim.Native.Nat.{◌<◌}
use native.Mathlib.Omega.{arith}
use lib.ListN.{length}
use Rattle.whole.specs.Laws.Within.{back}
use Rattle.table.specs.Header.{entries_at}
use Rattle.table.specs.Laws.ScanParts.{leaf_test}
use Rattle.tree_nodes.specs.Laws.Kept.{ample_in}
use Rattle.tree_nodes.specs.Inner.PartChild.{child_at}
use Rattle.tree_nodes.specs.Inner.Mend.{CanPair}
use Rattle.tree_nodes.proofs.Laws.Mend.{sibling_low, child_in_range, can_refresh, mends_refresh}
use Rattle.tree_nodes.proofs.mend.mend.Goals as goal
use Rattle.tree_nodes.proofs.mend.mend.Goals.{After-child_at-child, Else-count_at-ge-FEWEST, After-beside-b, After-child_at-sibling}

-- ---- what the code knows at its places
child_is : (c : After-child_at-child) → let a = c.args in c.child_at-child.result ≡ child_at (entries_at a.t.now) a.i a.k
child_is c = c.child_at-child.ensures

few : (c : Else-count_at-ge-FEWEST) → let a = c.args in length (entries_at a.t.now (child_at (entries_at a.t.now) a.i a.k)) < 3
few c = rw (← child_is c.before.before) (omega (arith, c.count_at.ensures, c.if-count_at-ge-FEWEST.false))

pair : (c : After-beside-b) → let a = c.args in CanPair a.t.now a.minute a.h a.i a.k c.beside-b.result
pair c =
    record { can = c.requires; b_has = c.beside-b.ensures.within (length (entries_at c.args.t.now c.args.i)) c.requires.has c.requires.two; b_other = c.beside-b.ensures.other; few = few c.before }

sibling_is : (c : After-child_at-sibling) → let a = c.args in c.child_at-sibling.result ≡ child_at (entries_at a.t.now) a.i c.beside-b.result
sibling_is c = c.child_at-sibling.ensures

pub refresh-requires : goal.refresh-requires
refresh-requires c =
    let is = child_is (goal.at.refresh-requires c).After-child_at-child in
    simp (back c.ranges.minute, leaf_test) (can_refresh c.requires is, c.requires.is_minute, child_in_range c.requires is)

pub returns-then-count_at-ge-FEWEST : goal.returns-then-count_at-ge-FEWEST
returns-then-count_at-ge-FEWEST c =
    mends_refresh c.requires (child_is (goal.at.returns-then-count_at-ge-FEWEST c).After-child_at-child) (omega (arith, c.count_at.ensures, c.if-count_at-ge-FEWEST.true)) (simp (back c.ranges.minute, leaf_test) at c.refresh.ensures)

pub count_at-requires-2 : goal.count_at-requires-2
count_at-requires-2 c =
    let p = pair (goal.at.count_at-requires-2 c).After-beside-b in
    ample_in c.requires.ample c.child_at-sibling.result (sibling_low p.can (child_is (goal.at.count_at-requires-2 c).After-child_at-child) p.b_has p.b_other (sibling_is (goal.at.count_at-requires-2 c).After-child_at-sibling))
