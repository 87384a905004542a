use mathlib.Core.Path.{◌≡◌}
use mathlib.Core.List.{[], ◌∷◌, ◌++◌}
use Prim.Native.Nat.{◌+◌}
use native.Mathlib.Omega.{arith}
use Rattle.std.proofs.Common.{Some}
use Rattle.whole.specs.Laws.Within.{back}
use Rattle.node.specs.Inner.ChangeAt.{Changed}
use Rattle.table.specs.Header.{capacity, root, height, nodes_for, entries_at}
use Rattle.table.specs.SoundTree.{is_leaf}
use Rattle.table.specs.Laws.ScanParts.{leaf_test}
use Rattle.table.specs.Laws.AtNode.{length_at, changed_at}
use Rattle.tree_nodes.specs.Inner.FirstFree.{FirstFree}
use Rattle.tree_nodes.specs.Laws.FirstFree.{some_found}
use Rattle.tree_nodes.specs.Inner.EntryAfresh.{entry_above}
use Rattle.table.specs.Inner.Headed.{Rooted}
use Rattle.tree_nodes.specs.Inner.PartChild.{Parted}
use Rattle.tree.specs.Laws.Grow.{root_in_table, root_low, root_in_range, height_low, spare, above_in_table, above_low, above_room, long, can_part_root, grown}
use Rattle.tree.proofs.root.grow.Goals as goal
use Rattle.tree.proofs.root.grow.Goals.{After-root-old, After-height-h, After-unwrap-above, After-entry_above-e, After-append_at, After-set_root, After-part_child}

-- ---- what the code knows at its places
root_is : (c : After-root-old) → c.root-old.result ≡ root c.args.t.now
root_is c = c.root-old.ensures.0

height_is : (c : After-height-h) → c.height-h.result ≡ height c.args.t.now
height_is c = c.height-h.ensures.0

first_is : (c : After-unwrap-above) → let w = c.args.t.now in FirstFree (entries_at w) (nodes_for (capacity w)) (Some c.unwrap-above.result)
first_is c = rw (c.nodes.ensures, c.unwrap-above.ensures) at c.free_node.ensures

above_is : (c : After-entry_above-e) → let a = c.args in let w = a.t.now in c.entry_above-e.result ≡ entry_above (entries_at w) (is_leaf (height w)) a.minute (root w)
above_is c = simp (back c.ranges.minute, leaf_test, root_is c.before.before.before.before.before, height_is c.before.before.before.before) at c.entry_above-e.ensures

put_is : (c : After-append_at) → let a = c.args in let w = a.t.now in let above = c.unwrap-above.result in
    Changed w above (entries_at w above ++ entry_above (entries_at w) (is_leaf (height w)) a.minute (root w) ∷ []) c.append_at.new.t
put_is c =
    let w = c.args.t.now in
    let above = c.unwrap-above.result in
    rw (← above_is c.before.before) (changed_at w above (λ es. es ++ c.entry_above-e.result ∷ []) c.append_at.ensures)

rooted_is : (c : After-set_root) → Rooted c.append_at.new.t c.unwrap-above.result (height c.args.t.now + 1) c.set_root.new.t
rooted_is c = rw (height_is c.before.before.before.before.before.before.before.before.before) at c.set_root.ensures

parted_is : (c : After-part_child) → let a = c.args in Parted c.set_root.new.t a.minute (height a.t.now) c.unwrap-above.result 0 c.part_child.new.t
parted_is c = simp (back c.ranges.minute, height_is c.before.before.before.before.before.before.before.before.before.before.before.before) at c.part_child.ensures

pub unwrap-above-requires : goal.unwrap-above-requires
unwrap-above-requires c = some_found (rw c.nodes.ensures at c.free_node.ensures) (spare c.requires)

pub entry_above-e-requires : goal.entry_above-e-requires
entry_above-e-requires c =
    simp (back c.ranges.minute, leaf_test, root_is (goal.at.entry_above-e-requires c).After-root-old, height_is (goal.at.entry_above-e-requires c).After-height-h) (root_in_table c.requires, root_low c.requires, c.requires.holding.is_minute, root_in_range c.requires)

pub append_at-requires : goal.append_at-requires
append_at-requires c =
    let above = c.unwrap-above.result in
    let first = first_is (goal.at.append_at-requires c).After-unwrap-above in
    (above_in_table c.requires first, omega (arith, above_room c.requires first, length_at c.args.t.now above))

pub set_root-requires : goal.set_root-requires
set_root-requires c =
    let first = first_is (goal.at.set_root-requires c).After-unwrap-above in
    (long c.requires first (put_is (goal.at.set_root-requires c).After-append_at), above_low c.requires first, rw (height_is (goal.at.set_root-requires c).After-height-h) (height_low c.requires))

pub part_child-requires : goal.part_child-requires
part_child-requires c =
    simp (back c.ranges.minute, height_is (goal.at.part_child-requires c).After-height-h) (can_part_root c.requires (first_is (goal.at.part_child-requires c).After-unwrap-above) (put_is (goal.at.part_child-requires c).After-append_at) (rooted_is (goal.at.part_child-requires c).After-set_root))

pub returns : goal.returns
returns c = grown c.requires (first_is (goal.at.returns c).After-unwrap-above) (put_is (goal.at.returns c).After-append_at) (rooted_is (goal.at.returns c).After-set_root) (parted_is (goal.at.returns c).After-part_child)
