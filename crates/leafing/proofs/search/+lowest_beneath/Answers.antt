use Rattle.std.proofs.Common.{ℕ, ◌≡◌, [], ◌∷◌, ◌<◌, ap, arith}
use Rattle.words.specs.Layout.{node_at, entry_at, full_node}
use Rattle.node.specs.Entry.{entry_count, child_of, cell_of}
use Rattle.node.specs.Laws.Entry.{count_fits}
use Rattle.table.specs.Laws.Walk.{no_entry_left, entry_left, walk_to_child}
use Rattle.leafing.specs.Inner.Search.{Extends}
use Rattle.leafing.specs.Laws.Search.{looked_none, looked_cell, looked_child}
use Rattle.leafing.proofs.search.+lowest_beneath.Goals as goal
use Rattle.leafing.proofs.search.+lowest_beneath.Goals.{Else-count-k, After-child, After-lower-better}

-- ---- what the code knows at its places
low : (t : ℕ) (c : Else-count-k t) → let a = c.args in a.k < entry_count (node_at a.t.now a.i)
low t c = omega (arith, c.if-count-k.false, c.count.ensures, ap entry_count c.node_at-node.ensures)

in_node : (t : ℕ) (c : Else-count-k t) → c.args.k < full_node
in_node t c = let a = c.args in omega (arith, low t c, count_fits (node_at a.t.now a.i))

child_is : (t : ℕ) (c : After-child t) → let a = c.args in c.child.result ≡ child_of (entry_at (node_at a.t.now a.i) a.k)
child_is t c = simp c.node_at-node.ensures at c.child.ensures.0

better : (t : ℕ) (c : After-lower-better t) → let a = c.args in Extends a.s (cell_of (entry_at (node_at a.t.now a.i) a.k) ∷ []) a.best c.lower-better.result
better t c = simp (c.cell.ensures, c.node_at-node.ensures) at c.lower-better.ensures

-- ---- the goals
pub returns-then-count-k : goal.returns-then-count-k
returns-then-count-k t c = looked_none (no_entry_left c.requires c.args.k (omega (arith, c.if-count-k.true, c.count.ensures, ap entry_count c.node_at-node.ensures)))

pub cell-requires : goal.cell-requires
cell-requires t c = in_node t (goal.at.cell-requires t c).Else-count-k

pub lowest_beneath-requires : goal.lowest_beneath-requires
lowest_beneath-requires t c = (omega (arith, in_node t (goal.at.lowest_beneath-requires t c).Else-count-k, c.decreases), c.requires)

pub returns-then-h-eq0 : goal.returns-then-h-eq0
returns-then-h-eq0 t c =
    let at = goal.at.returns-then-h-eq0 t c in
    looked_cell (entry_left c.requires c.args.k (low t at.Else-count-k)) c.if-h-eq0.true (better t at.After-lower-better) c.lowest_beneath.ensures

pub child-requires : goal.child-requires
child-requires t c = in_node t (goal.at.child-requires t c).Else-count-k

pub lowest_beneath-below-requires : goal.lowest_beneath-below-requires
lowest_beneath-below-requires t c =
    let at = goal.at.lowest_beneath-below-requires t c in
    (omega (arith, c.decreases, c.if-h-eq0.false), walk_to_child c.requires c.args.k (low t at.Else-count-k) (child_is t at.After-child) c.if-h-eq0.false)

pub lowest_beneath-requires-2 : goal.lowest_beneath-requires-2
lowest_beneath-requires-2 t c = (omega (arith, in_node t (goal.at.lowest_beneath-requires-2 t c).Else-count-k, c.decreases), c.requires)

pub returns : goal.returns
returns t c =
    let at = goal.at.returns t c in
    looked_child (entry_left c.requires c.args.k (low t at.Else-count-k)) (child_is t at.After-child) c.if-h-eq0.false c.lowest_beneath-below.ensures c.lowest_beneath-2.ensures
