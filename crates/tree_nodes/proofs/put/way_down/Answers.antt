use mathlib.Core.Path.{◌≡◌, refl, ap, ◌∙◌}
use mathlib.Core.Logic.{⊎_elim, inl, inr}
use Prim.Native.Nat.{◌-◌, ◌<◌}
use native.Mathlib.Omega.{arith}
use lib.ListN.{length}
use Rattle.whole.specs.Laws.Within.{back}
use Rattle.node.specs.Entry.{entry_count}
use Rattle.table.specs.Header.{capacity, nodes_for, entries_at}
use Rattle.table.specs.Laws.AtNode.{length_at, at_most}
use Rattle.tree_nodes.specs.Laws.Kept.{ample_in}
use Rattle.tree_nodes.specs.Inner.PartChild.{child_at, Parted}
use Rattle.tree_nodes.specs.Laws.PartChild.{child_low}
use Rattle.tree_nodes.proofs.Laws.Way.{way_straight, can_part_child, way_parted}
use Rattle.tree_nodes.proofs.put.way_down.Goals as goal
use Rattle.tree_nodes.proofs.put.way_down.Goals.{After-best_child-k, After-child_at-child, After-count_at, After-part_child}

pub best_child-k-requires : goal.best_child-k-requires
best_child-k-requires c =
    rw c.node_at.ensures (omega (arith, c.requires.inner (omega arith), length_at c.args.t.now c.args.i))

-- ---- what the code knows at its places
chosen : (c : After-best_child-k) → let a = c.args in c.best_child-k.result < length (entries_at a.t.now a.i)
chosen c =
    let a = c.args in
    omega (arith, c.best_child-k.ensures.in_node, ap entry_count c.node_at.ensures, length_at a.t.now a.i)

child_is : (c : After-child_at-child) → let a = c.args in c.child_at-child.result ≡ child_at (entries_at a.t.now) a.i c.best_child-k.result
child_is c = c.child_at-child.ensures

child_in : (c : After-child_at-child) → c.child_at-child.result < nodes_for (capacity c.args.t.now)
child_in c =
    rw (child_is c) (child_low (entries_at c.args.t.now) (capacity c.args.t.now) c.args.minute c.args.h c.args.i c.best_child-k.result c.requires.enter.sound (chosen c.before))

count_is : (c : After-count_at) → let a = c.args in c.count_at.result ≡ length (entries_at a.t.now (child_at (entries_at a.t.now) a.i c.best_child-k.result))
count_is c = c.count_at.ensures ∙ ap (λ j. length (entries_at c.args.t.now j)) (child_is c.before)

parted_is : (c : After-part_child) → let a = c.args in Parted a.t.now a.minute a.h a.i c.best_child-k.result c.part_child.new.t
parted_is c = simp (back c.ranges.minute) at c.part_child.ensures

pub child_at-child-requires : goal.child_at-child-requires
child_at-child-requires c = (ample_in c.requires.ample c.args.i c.requires.node_in, chosen (goal.at.child_at-child-requires c).After-best_child-k)

pub count_at-requires : goal.count_at-requires
count_at-requires c = ample_in c.requires.ample c.child_at-child.result (child_in (goal.at.count_at-requires c).After-child_at-child)

pub returns-then-count_at-lt-FULL_NODE : goal.returns-then-count_at-lt-FULL_NODE
returns-then-count_at-lt-FULL_NODE c = way_straight c.requires (chosen (goal.at.returns-then-count_at-lt-FULL_NODE c).After-best_child-k) (omega (arith, count_is (goal.at.returns-then-count_at-lt-FULL_NODE c).After-count_at, c.if-count_at-lt-FULL_NODE.true))

pub part_child-requires : goal.part_child-requires
part_child-requires c =
    let child = child_at (entries_at c.args.t.now) c.args.i c.best_child-k.result in
    simp (back c.ranges.minute) (can_part_child c.requires (chosen (goal.at.part_child-requires c).After-best_child-k) (omega (arith, count_is (goal.at.part_child-requires c).After-count_at, c.if-count_at-lt-FULL_NODE.false, at_most c.args.t.now child)))

-- the parted child has its place still
stays : (c : After-part_child) → c.best_child-k.result < length (entries_at c.part_child.new.t c.args.i)
stays c = (way_parted c.requires (chosen c.before.before.before.before.before) (parted_is c) (inl refl)).has

pub better_child-requires : goal.better_child-requires
better_child-requires c =
    let most = at_most c.part_child.new.t c.args.i in
    (omega (arith, stays (goal.at.better_child-requires c).After-part_child, most), omega (arith, c.count_at-last.ensures, most))

pub returns : goal.returns
returns c =
    way_parted c.requires (chosen (goal.at.returns c).After-best_child-k) (parted_is (goal.at.returns c).After-part_child)
    (⊎_elim (λ e. inl e) (λ e. inr (e ∙ ap (λ n. n - 1) c.count_at-last.ensures)) c.better_child.ensures.one_of)
