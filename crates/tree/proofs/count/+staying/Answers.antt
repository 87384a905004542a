use Rattle.std.proofs.Common.{ℕ, suc, ◌≡◌, ◌+◌, ◌-◌, ◌<◌, [], length, get_or, subst, arith}
use Rattle.whole.specs.Laws.Within.{back}
use Rattle.table.specs.Header.{entries_at}
use Rattle.tree_nodes.specs.Inner.PartChild.{child_at}
use Rattle.tree.specs.Inner.Staying.{CanCount, stay_from}
use Rattle.tree.specs.Laws.Staying.{stays_told, stay_end, stay_leaf, stay_inner, stay_most, can_count_child}
use Rattle.tree.proofs.count.+staying.Goals as goal
use Rattle.tree.proofs.count.+staying.Goals.{In-loop-at, Joined-h-eq0, then-h-eq0, else-h-eq0}

-- ---- what the code knows at an entry
low : (t : ℕ) (c : In-loop-at t) → c.loop-at.at < length (entries_at c.args.t.now c.args.i)
low t c = omega (arith, c.loop-at-test.true, c.count_at-at-end.ensures)

counted : (t : ℕ) (c : In-loop-at t) → let a = c.args in c.loop-at.many + stay_from a.t.now a.minute a.id a.h a.i c.loop-at.at ≡ stay_from a.t.now a.minute a.id a.h a.i a.k
counted t c = simp (back c.ranges.minute, back c.ranges.id) at c.loop-at.invariant

-- what the entry counts
step : (t : ℕ) (c : Joined-h-eq0 t) → let a = c.args in
    c.loop-at.at < length (entries_at a.t.now a.i) → stay_from a.t.now a.minute a.id a.h a.i c.loop-at.at ≡ c.if-h-eq0.many + stay_from a.t.now a.minute a.id a.h a.i (c.loop-at.at + 1)
step t c here =
    let a = c.args in
    let w = a.t.now in
    let at = c.loop-at.at in
    elim c.if-h-eq0.branch [
      | then-h-eq0 b ↦
          let told = simp (back c.ranges.minute, back c.ranges.id) at b.goes_at.ensures in
          rw (b.many-is, b.from.ensures, stays_told a.minute a.id (get_or (entries_at w a.i) at []) told, b.if-h-eq0.true) (stay_leaf w a.minute a.id a.i at here)
      | else-h-eq0 b ↦
          let below = simp (back c.ranges.minute, back c.ranges.id, b.child_at.ensures) at b.staying.ensures in
          let one_level : suc (a.h - 1) ≡ a.h = omega (arith, b.if-h-eq0.false) in
          rw (b.many-is, below)
          (subst (λ h. stay_from w a.minute a.id h a.i at ≡ stay_from w a.minute a.id (a.h - 1) (child_at (entries_at w) a.i at) 0 + stay_from w a.minute a.id h a.i (at + 1)) one_level
          (stay_inner w a.minute a.id a.i at (a.h - 1) here))
    ]

-- ---- the goals
pub staying-requires : goal.staying-requires
staying-requires t c =
    let a = c.args in
    let one_level : a.h ≡ suc (a.h - 1) = omega (arith, c.if-h-eq0.false) in
    let can = subst (λ h. CanCount a.t.now h a.i) one_level c.requires in
    (omega (arith, c.decreases), can_count_child can (low t (goal.at.staying-requires t c).In-loop-at) c.child_at.ensures)

pub overflow_add-many : goal.overflow_add-many
overflow_add-many t c =
    let a = c.args in
    let at = goal.at.overflow_add-many t c in
    omega (arith, step t at.Joined-h-eq0 (low t at.In-loop-at), counted t at.In-loop-at, stay_most a.t.now a.minute a.id a.i a.k a.h c.requires)

pub loop-at-preserved : goal.loop-at-preserved
loop-at-preserved t c =
    let at = goal.at.loop-at-preserved t c in
    simp (back c.ranges.minute, back c.ranges.id) (omega (arith, step t at.Joined-h-eq0 (low t at.In-loop-at), counted t at.In-loop-at))

pub returns : goal.returns
returns t c =
    let a = c.args in
    let all = simp (back c.ranges.minute, back c.ranges.id) at c.loop-at.invariant in
    omega (arith, all, stay_end a.t.now a.minute a.id a.i c.loop-at.at a.h (omega (arith, c.loop-at-test.false, c.count_at-at-end.ensures)))
