use Rattle.std.proofs.Common.{ℕ, suc, ◌≡◌, ◌-◌, [], ◌∷◌, ◌++◌, subst, arith}
use lib.ListN.{set}
use Rattle.whole.specs.Laws.Within.{back}
use Rattle.node.specs.Inner.ChangeAt.{Changed}
use Rattle.node.specs.Inner.Made.{leaf_entry}
use Rattle.node.specs.Laws.Made.{cell_leaf}
use Rattle.table.specs.Header.{entries_at}
use Rattle.table.specs.SoundTree.{is_leaf}
use Rattle.table.specs.Laws.ScanParts.{leaf_test}
use Rattle.table.specs.Laws.AtNode.{length_at, changed_at}
use Rattle.tree_nodes.specs.Inner.EntryAfresh.{entry_above}
use Rattle.tree_nodes.specs.Laws.Kept.{ample_in}
use Rattle.tree_nodes.specs.Inner.Way.{CanPutIn, Way}
use Rattle.tree_nodes.specs.Inner.Puts.{Puts}
use Rattle.tree_nodes.proofs.Laws.Puts.{puts_leaf, can_below, can_refresh, child_in_range, puts_below}
use Rattle.tree_nodes.proofs.put.+put_in.Goals as goal
use Rattle.tree_nodes.proofs.put.+put_in.Goals.{Then-h-eq0, Else-h-eq0, After-way_down-k, After-put_in, After-refresh}

-- ---- what the code knows at its places
leaf_can : (t : ℕ) (c : Then-h-eq0 t) → let a = c.args in CanPutIn a.t.now a.minute 0 a.i
leaf_can t c = let a = c.args in subst (λ h. CanPutIn a.t.now a.minute h a.i) (omega arith) c.requires.0

inner_can : (t : ℕ) (c : Else-h-eq0 t) → let a = c.args in CanPutIn a.t.now a.minute (suc (a.h - 1)) a.i
inner_can t c =
    let a = c.args in
    let one_level : a.h ≡ suc (a.h - 1) = omega arith in
    subst (λ h. CanPutIn a.t.now a.minute h a.i) one_level c.requires.0

way_is : (t : ℕ) (c : After-way_down-k t) → let a = c.args in Way a.t.now a.minute (a.h - 1) a.i c.way_down-k.result c.way_down-k.new.t
way_is t c = simp (back c.ranges.minute) at c.way_down-k.ensures

put_is : (t : ℕ) (c : After-put_in t) → let a = c.args in Puts c.way_down-k.new.t a.minute (a.h - 1) c.child_at-child.result (leaf_entry a.c) c.put_in.new.t
put_is t c = simp (back c.ranges.minute) at c.put_in.ensures

refreshed : (t : ℕ) (c : After-refresh t) → let a = c.args in let u = c.put_in.new.t in
    Changed u a.i (set (entries_at u a.i) c.way_down-k.result (entry_above (entries_at u) (is_leaf (a.h - 1)) a.minute c.child_at-child.result)) c.refresh.new.t
refreshed t c = simp (back c.ranges.minute, leaf_test) at c.refresh.ensures

-- ---- the goals
pub append_at-requires : goal.append_at-requires
append_at-requires t c =
    let can = leaf_can t (goal.at.append_at-requires t c).Then-h-eq0 in
    (ample_in can.ample c.args.i can.node_in, omega (arith, can.room, length_at c.args.t.now c.args.i))

pub returns-then-h-eq0 : goal.returns-then-h-eq0
returns-then-h-eq0 t c =
    let a = c.args in
    let w = a.t.now in
    let can = leaf_can t (goal.at.returns-then-h-eq0 t c).Then-h-eq0 in
    let changed : Changed w a.i (entries_at w a.i ++ leaf_entry a.c ∷ []) c.append_at.new.t =
    rw (← c.leaf_entry.ensures) (changed_at w a.i (λ es. es ++ c.leaf_entry.result ∷ []) c.append_at.ensures) in
    let e : 0 ≡ a.h = omega arith in
    subst (λ h. Puts w a.minute h a.i (leaf_entry a.c) c.append_at.new.t) e (puts_leaf can (rw (cell_leaf a.c) c.requires.1) changed)

pub way_down-k-requires : goal.way_down-k-requires
way_down-k-requires t c = simp (back c.ranges.minute) (inner_can t (goal.at.way_down-k-requires t c).Else-h-eq0)

pub put_in-requires : goal.put_in-requires
put_in-requires t c =
    let at = goal.at.put_in-requires t c in
    (omega (arith, c.decreases), (simp (back c.ranges.minute) (can_below (inner_can t at.Else-h-eq0) (way_is t at.After-way_down-k) c.child_at-child.ensures), c.requires.1))

pub refresh-requires : goal.refresh-requires
refresh-requires t c =
    let at = goal.at.refresh-requires t c in
    let can = inner_can t at.Else-h-eq0 in
    let way = way_is t at.After-way_down-k in
    let put = put_is t at.After-put_in in
    simp (back c.ranges.minute, leaf_test) (can_refresh can way c.child_at-child.ensures put, can.is_minute, child_in_range can way c.child_at-child.ensures put)

pub returns : goal.returns
returns t c =
    let a = c.args in
    let at = goal.at.returns t c in
    let one_level : suc (a.h - 1) ≡ a.h = omega arith in
    subst (λ h. Puts a.t.now a.minute h a.i (leaf_entry a.c) c.refresh.new.t) one_level
    (puts_below (inner_can t at.Else-h-eq0) (way_is t at.After-way_down-k) c.child_at-child.ensures (put_is t at.After-put_in) (refreshed t at.After-refresh))
