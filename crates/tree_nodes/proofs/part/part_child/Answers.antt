use mathlib.Core.Path.{◌≡◌}
use native.Mathlib.Omega.{arith}
use mathlib.Core.List.{[], ◌∷◌, ◌++◌}
use lib.ListN.{set}
use Rattle.std.proofs.Common.{Some}
use Rattle.whole.specs.Laws.Within.{back}
use Rattle.tree_choice.specs.Parting.{marked}
use Rattle.node.specs.Inner.ChangeAt.{Changed}
use Rattle.table.specs.Header.{capacity, nodes_for, entries_at}
use Rattle.table.specs.SoundTree.{is_leaf}
use Rattle.table.specs.Laws.ScanParts.{leaf_test}
use Rattle.table.specs.Laws.AtNode.{length_at, changed_at}
use Rattle.tree_nodes.specs.Inner.FirstFree.{FirstFree}
use Rattle.tree_nodes.specs.Inner.EntryAfresh.{entry_above}
use Rattle.tree_nodes.specs.Laws.Kept.{ample_in}
use Rattle.tree_nodes.specs.Inner.Shift.{Shifted}
use Rattle.tree_nodes.specs.Inner.PartChild.{child_at}
use Rattle.tree_nodes.specs.Laws.PartChild.{full_low, can_part, part_in_range, can_refresh, new_in_table, new_low, new_can, node_in_table, node_room, parted_child}
use Rattle.tree_nodes.proofs.part.part_child.Goals as goal
use Rattle.tree_nodes.proofs.part.part_child.Goals.{After-child_at-full, After-unwrap-node, After-move_marked, After-refresh, After-entry_above-e}

-- ---- what the code knows at its places
child_is : (c : After-child_at-full) → let a = c.args in c.child_at-full.result ≡ child_at (entries_at a.t.now) a.i a.k
child_is c = c.child_at-full.ensures

first_is : (c : After-unwrap-node) → let w = c.args.t.now in FirstFree (entries_at w) (nodes_for (capacity w)) (Some c.unwrap-node.result)
first_is c = rw (c.nodes.ensures, c.unwrap-node.ensures) at c.free_node.ensures

moved_is : (c : After-move_marked) → let w = c.args.t.now in Shifted (capacity w) w c.child_at-full.result c.unwrap-node.result (marked c.parting-marks.result) c.move_marked.new.t
moved_is c = c.move_marked.ensures

put_is : (c : After-refresh) → let a = c.args in let v = c.move_marked.new.t in
    Changed v a.i (set (entries_at v a.i) a.k (entry_above (entries_at v) (is_leaf a.h) a.minute c.child_at-full.result)) c.refresh.new.t
put_is c = simp (back c.ranges.minute, leaf_test) at c.refresh.ensures

above_is : (c : After-entry_above-e) → let a = c.args in c.entry_above-e.result ≡ entry_above (entries_at c.refresh.new.t) (is_leaf a.h) a.minute c.unwrap-node.result
above_is c = simp (back c.ranges.minute, leaf_test) at c.entry_above-e.ensures

pub node_at-requires : goal.node_at-requires
node_at-requires c = ample_in c.requires.ample c.child_at-full.result (full_low c.requires (child_is (goal.at.node_at-requires c).After-child_at-full))

pub move_marked-requires : goal.move_marked-requires
move_marked-requires c = can_part c.requires (child_is (goal.at.move_marked-requires c).After-child_at-full) (first_is (goal.at.move_marked-requires c).After-unwrap-node) c.parting-marks.ensures

pub refresh-requires : goal.refresh-requires
refresh-requires c =
    simp (back c.ranges.minute, leaf_test) (
      can_refresh c.requires (child_is (goal.at.refresh-requires c).After-child_at-full) (first_is (goal.at.refresh-requires c).After-unwrap-node) c.parting-marks.ensures (moved_is (goal.at.refresh-requires c).After-move_marked),
      c.requires.is_minute,
      part_in_range c.requires (child_is (goal.at.refresh-requires c).After-child_at-full) (first_is (goal.at.refresh-requires c).After-unwrap-node) c.parting-marks.ensures (moved_is (goal.at.refresh-requires c).After-move_marked),
    )

pub entry_above-e-requires : goal.entry_above-e-requires
entry_above-e-requires c =
    let put = put_is (goal.at.entry_above-e-requires c).After-refresh in
    simp (back c.ranges.minute, leaf_test) (
      new_in_table c.requires (child_is (goal.at.entry_above-e-requires c).After-child_at-full) (first_is (goal.at.entry_above-e-requires c).After-unwrap-node) c.parting-marks.ensures (moved_is (goal.at.entry_above-e-requires c).After-move_marked) put,
      new_low c.requires (child_is (goal.at.entry_above-e-requires c).After-child_at-full) (first_is (goal.at.entry_above-e-requires c).After-unwrap-node) c.parting-marks.ensures (moved_is (goal.at.entry_above-e-requires c).After-move_marked) put,
      c.requires.is_minute,
      new_can c.requires (child_is (goal.at.entry_above-e-requires c).After-child_at-full) (first_is (goal.at.entry_above-e-requires c).After-unwrap-node) c.parting-marks.ensures (moved_is (goal.at.entry_above-e-requires c).After-move_marked) put,
    )

pub append_at-requires : goal.append_at-requires
append_at-requires c =
    let u = c.refresh.new.t in (
      node_in_table c.requires (child_is (goal.at.append_at-requires c).After-child_at-full) (first_is (goal.at.append_at-requires c).After-unwrap-node) c.parting-marks.ensures (moved_is (goal.at.append_at-requires c).After-move_marked) (put_is (goal.at.append_at-requires c).After-refresh),
      omega (arith, length_at u c.args.i, node_room c.requires (child_is (goal.at.append_at-requires c).After-child_at-full) (first_is (goal.at.append_at-requires c).After-unwrap-node) c.parting-marks.ensures (moved_is (goal.at.append_at-requires c).After-move_marked) (put_is (goal.at.append_at-requires c).After-refresh)),
    )

pub returns : goal.returns
returns c =
    let u = c.refresh.new.t in
    let put = put_is (goal.at.returns c).After-refresh in
    let is = child_is (goal.at.returns c).After-child_at-full in
    let first = first_is (goal.at.returns c).After-unwrap-node in
    let parts = c.parting-marks.ensures in
    let moved = moved_is (goal.at.returns c).After-move_marked in
    let e = c.entry_above-e.result in
    let behind : Changed u c.args.i (entries_at u c.args.i ++ e ∷ []) c.append_at.new.t = changed_at u c.args.i (λ es. es ++ e ∷ []) c.append_at.ensures in
    record { full = c.child_at-full.result; node = c.unwrap-node.result; child_is = is; child = parted_child c.requires is first parts moved put (rw (above_is (goal.at.returns c).After-entry_above-e) at behind) }
