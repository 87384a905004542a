use mathlib.Core.Path.{◌≡◌}
use Prim.Native.Nat.{◌<◌}
use native.Mathlib.Omega.{arith}
use lib.ListN.{length, set}
use Rattle.whole.specs.Laws.Within.{back}
use Rattle.node.specs.Inner.ChangeAt.{Changed}
use Rattle.table.specs.Header.{capacity, entries_at}
use Rattle.table.specs.SoundTree.{is_leaf}
use Rattle.table.specs.Laws.ScanParts.{leaf_test}
use Rattle.tree_nodes.specs.Inner.EntryAfresh.{entry_above}
use Rattle.tree_nodes.specs.Inner.Shift.{Shifted}
use Rattle.tree_nodes.specs.Laws.Shift.{dealt_to}
use Rattle.tree_nodes.specs.Inner.PartChild.{child_at}
use Rattle.table.specs.Laws.AtNode.{length_at, changed_at}
use Rattle.node.specs.Inner.Change.{without}
use Rattle.tree_nodes.proofs.Laws.Mend.{can_give, can_give_last, given, emptied, sibling_dealt, can_refresh_sibling, node_still, has_still, mends_join}
use Rattle.tree_nodes.proofs.mend.join.Goals as goal
use Rattle.tree_nodes.proofs.mend.join.Goals.{After-child_at-child, After-child_at-sibling, After-move_entry-2, After-refresh}

-- ---- what the code knows at its places
child_is : (c : After-child_at-child) → let a = c.args in c.child_at-child.result ≡ child_at (entries_at a.t.now) a.i a.k
child_is c = c.child_at-child.ensures

sibling_is : (c : After-child_at-sibling) → let a = c.args in c.child_at-sibling.result ≡ child_at (entries_at a.t.now) a.i a.b
sibling_is c = c.child_at-sibling.ensures

three : (c : After-child_at-sibling) → length (entries_at c.args.t.now c.child_at-sibling.result) < 4
three c = rw (sibling_is c) c.requires.1

moved_is : (c : After-move_entry-2) → let w = c.args.t.now in Shifted (capacity w) w c.child_at-child.result c.child_at-sibling.result 2 c.move_entry-2.new.t
moved_is c = given c.requires.0 (child_is c.before.before.before.before.before.before) (sibling_is c.before.before.before.before.before) (three c.before.before.before.before.before) c.move_entry.ensures c.move_entry-2.ensures

put_is : (c : After-refresh) → let a = c.args in let v = c.move_entry-2.new.t in
    Changed v a.i (set (entries_at v a.i) a.b (entry_above (entries_at v) (is_leaf a.h) a.minute c.child_at-sibling.result)) c.refresh.new.t
put_is c = simp (back c.ranges.minute, leaf_test) at c.refresh.ensures

pub move_entry-requires : goal.move_entry-requires
move_entry-requires c = can_give c.requires.0 (child_is (goal.at.move_entry-requires c).After-child_at-child) (sibling_is (goal.at.move_entry-requires c).After-child_at-sibling) (three (goal.at.move_entry-requires c).After-child_at-sibling)

pub move_entry-requires-2 : goal.move_entry-requires-2
move_entry-requires-2 c = can_give_last c.requires.0 (child_is (goal.at.move_entry-requires-2 c).After-child_at-child) (sibling_is (goal.at.move_entry-requires-2 c).After-child_at-sibling) (three (goal.at.move_entry-requires-2 c).After-child_at-sibling) c.move_entry.ensures

pub refresh-requires : goal.refresh-requires
refresh-requires c =
    let p = c.requires.0 in
    let d = dealt_to (moved_is (goal.at.refresh-requires c).After-move_entry-2) in
    simp (back c.ranges.minute, leaf_test) (
      can_refresh_sibling p.can (child_is (goal.at.refresh-requires c).After-child_at-child) p.b_has p.b_other (sibling_is (goal.at.refresh-requires c).After-child_at-sibling) d,
      p.can.is_minute,
      sibling_dealt p.can (child_is (goal.at.refresh-requires c).After-child_at-child) p.b_has p.b_other (sibling_is (goal.at.refresh-requires c).After-child_at-sibling) d,
    )

pub remove_at-requires : goal.remove_at-requires
remove_at-requires c =
    let p = c.requires.0 in
    let d = dealt_to (moved_is (goal.at.remove_at-requires c).After-move_entry-2) in (
      node_still p.can (child_is (goal.at.remove_at-requires c).After-child_at-child) p.b_has p.b_other (sibling_is (goal.at.remove_at-requires c).After-child_at-sibling) d (put_is (goal.at.remove_at-requires c).After-refresh),
      omega (arith, length_at c.refresh.new.t c.args.i, has_still p.can (child_is (goal.at.remove_at-requires c).After-child_at-child) p.b_has p.b_other (sibling_is (goal.at.remove_at-requires c).After-child_at-sibling) d (put_is (goal.at.remove_at-requires c).After-refresh)),
    )

pub returns : goal.returns
returns c =
    let p = c.requires.0 in
    let moved = moved_is (goal.at.returns c).After-move_entry-2 in
    let d = dealt_to moved in
    let u = c.refresh.new.t in
    let put = put_is (goal.at.returns c).After-refresh in
    let is = child_is (goal.at.returns c).After-child_at-child in
    let beside = sibling_is (goal.at.returns c).After-child_at-sibling in
    let rest = emptied p is beside (three (goal.at.returns c).After-child_at-sibling) moved in
    mends_join p.can is p.b_has p.b_other beside d put rest.0 rest.1 (changed_at u c.args.i (without c.args.k) c.remove_at.ensures)
