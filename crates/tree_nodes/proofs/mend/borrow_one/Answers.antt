use mathlib.Core.Path.{◌≡◌}
use Prim.Native.Nat.{◌≤◌}
use lib.ListN.{length, set}
use Rattle.whole.specs.Laws.Within.{back}
use Rattle.node.specs.Inner.ChangeAt.{Changed}
use Rattle.table.specs.Header.{capacity, entries_at}
use Rattle.table.specs.SoundTree.{is_leaf}
use Rattle.table.specs.Laws.ScanParts.{leaf_test}
use Rattle.tree_nodes.specs.Inner.EntryAfresh.{entry_above}
use Rattle.tree_nodes.specs.Laws.Kept.{ample_in}
use Rattle.tree_nodes.specs.Inner.Shift.{Shifted}
use Rattle.tree_nodes.specs.Laws.Shift.{dealt_from}
use Rattle.tree_nodes.specs.Inner.PartChild.{child_at}
use Rattle.tree_nodes.proofs.Laws.Mend.{sibling_low, can_borrow, borrowed, sibling_dealt, can_refresh_sibling, can_refresh_child, child_still, mends_share}
use Rattle.tree_nodes.proofs.mend.borrow_one.Goals as goal
use Rattle.tree_nodes.proofs.mend.borrow_one.Goals.{After-child_at-child, After-child_at-sibling, After-move_entry, After-refresh, After-refresh-2}

-- ---- what the code knows at its places
child_is : (c : After-child_at-child) → let a = c.args in c.child_at-child.result ≡ child_at (entries_at a.t.now) a.i a.k
child_is c = c.child_at-child.ensures

sibling_is : (c : After-child_at-sibling) → let a = c.args in c.child_at-sibling.result ≡ child_at (entries_at a.t.now) a.i a.b
sibling_is c = c.child_at-sibling.ensures

four : (c : After-child_at-sibling) → 4 ≤ length (entries_at c.args.t.now c.child_at-sibling.result)
four c = rw (sibling_is c) c.requires.1

moved_is : (c : After-move_entry) → let w = c.args.t.now in Shifted (capacity w) w c.child_at-sibling.result c.child_at-child.result 1 c.move_entry.new.t
moved_is c = c.move_entry.ensures

put_is : (c : After-refresh) → let a = c.args in let v = c.move_entry.new.t in
    Changed v a.i (set (entries_at v a.i) a.b (entry_above (entries_at v) (is_leaf a.h) a.minute c.child_at-sibling.result)) c.refresh.new.t
put_is c = simp (back c.ranges.minute, leaf_test) at c.refresh.ensures

last_is : (c : After-refresh-2) → let a = c.args in let u = c.refresh.new.t in
    Changed u a.i (set (entries_at u a.i) a.k (entry_above (entries_at u) (is_leaf a.h) a.minute c.child_at-child.result)) c.refresh-2.new.t
last_is c = simp (back c.ranges.minute, leaf_test) at c.refresh-2.ensures

pub count_at-last-requires : goal.count_at-last-requires
count_at-last-requires c =
    let p = c.requires.0 in
    ample_in p.can.ample c.child_at-sibling.result (sibling_low p.can (child_is (goal.at.count_at-last-requires c).After-child_at-child) p.b_has p.b_other (sibling_is (goal.at.count_at-last-requires c).After-child_at-sibling))

pub move_entry-requires : goal.move_entry-requires
move_entry-requires c = can_borrow c.requires.0 (child_is (goal.at.move_entry-requires c).After-child_at-child) (sibling_is (goal.at.move_entry-requires c).After-child_at-sibling) (four (goal.at.move_entry-requires c).After-child_at-sibling) c.count_at-last.ensures

pub refresh-requires : goal.refresh-requires
refresh-requires c =
    let p = c.requires.0 in
    let d = dealt_from (moved_is (goal.at.refresh-requires c).After-move_entry) in
    simp (back c.ranges.minute, leaf_test) (
      can_refresh_sibling p.can (child_is (goal.at.refresh-requires c).After-child_at-child) p.b_has p.b_other (sibling_is (goal.at.refresh-requires c).After-child_at-sibling) d,
      p.can.is_minute,
      sibling_dealt p.can (child_is (goal.at.refresh-requires c).After-child_at-child) p.b_has p.b_other (sibling_is (goal.at.refresh-requires c).After-child_at-sibling) d,
    )

pub refresh-requires-2 : goal.refresh-requires-2
refresh-requires-2 c =
    let p = c.requires.0 in
    let d = dealt_from (moved_is (goal.at.refresh-requires-2 c).After-move_entry) in
    simp (back c.ranges.minute, leaf_test) (
      can_refresh_child p.can (child_is (goal.at.refresh-requires-2 c).After-child_at-child) p.b_has p.b_other (sibling_is (goal.at.refresh-requires-2 c).After-child_at-sibling) d (put_is (goal.at.refresh-requires-2 c).After-refresh),
      p.can.is_minute,
      child_still p.can (child_is (goal.at.refresh-requires-2 c).After-child_at-child) p.b_has p.b_other (sibling_is (goal.at.refresh-requires-2 c).After-child_at-sibling) d (put_is (goal.at.refresh-requires-2 c).After-refresh),
    )

pub returns : goal.returns
returns c =
    let p = c.requires.0 in
    let moved = moved_is (goal.at.returns c).After-move_entry in
    let filled = borrowed p (child_is (goal.at.returns c).After-child_at-child) (sibling_is (goal.at.returns c).After-child_at-sibling) (four (goal.at.returns c).After-child_at-sibling) moved in
    mends_share p.can (child_is (goal.at.returns c).After-child_at-child) p.b_has p.b_other (sibling_is (goal.at.returns c).After-child_at-sibling) (dealt_from moved) (put_is (goal.at.returns c).After-refresh) filled.0 filled.1 (last_is (goal.at.returns c).After-refresh-2)
