use Rattle.std.proofs.Common.{ℕ, suc, ◌≡◌, ◌-◌, ◌<◌, [], ◌∷◌, length, get_or, sym, ◌∙◌, subst, arith}
use Rattle.whole.specs.Laws.Tells.{passed, failed}
use Rattle.whole.specs.Laws.Within.{back}
use Rattle.table.specs.Header.{entries_at}
use Rattle.node.specs.Inner.Change.{without}
use Rattle.table.specs.Laws.AtNode.{length_at, changed_at}
use Rattle.tree_nodes.specs.Laws.Kept.{ample_in}
use Rattle.tree_nodes.specs.Inner.Takes.{CanTake, NoneGoes, Taken}
use Rattle.tree_nodes.specs.Laws.Takes.{TakesLeft, left_end, left_next, left_one, leaf_stays, leaf_goes, can_take_child, child_stays, can_mend, taken_below}
use Rattle.tree_nodes.proofs.take.+take_out.Goals as goal
use Rattle.tree_nodes.proofs.take.+take_out.Goals.{In-loop-at, then-h-eq0+else-goes_at, else-h-eq0+else-take_out}

-- ---- what the code knows at an entry
left : (t : ℕ) (c : In-loop-at t) → let a = c.args in TakesLeft a.t.now a.minute a.id a.h a.i a.k c.loop-at.at c.loop-at.t
left t c = simp (back c.ranges.minute, back c.ranges.id) at c.loop-at.invariant

low : (t : ℕ) (c : In-loop-at t) → c.loop-at.at < length (entries_at c.args.t.now c.args.i)
low t c = omega (arith, c.loop-at-test.true, c.count_at-at-end.ensures)

leaf_can : (t : ℕ) (c : In-loop-at t) → c.args.h ≡ 0 → let a = c.args in CanTake a.t.now a.minute 0 a.i
leaf_can t c z = rw z at c.requires

inner_can : (t : ℕ) (c : In-loop-at t) → (c.args.h ≡ 0 → ⊥) → let a = c.args in CanTake a.t.now a.minute (suc (a.h - 1)) a.i
inner_can t c z =
    let a = c.args in
    let one_level : a.h ≡ suc (a.h - 1) = omega arith in
    subst (λ h. CanTake a.t.now a.minute h a.i) one_level c.requires

-- ---- the goals
pub remove_at-requires : goal.remove_at-requires
remove_at-requires t c =
    let here = low t (goal.at.remove_at-requires t c).In-loop-at in
    rw c.loop-at.invariant.same (ample_in c.requires.ample c.args.i c.requires.node_in, omega (arith, here, length_at c.args.t.now c.args.i))

pub returns-then-goes_at : goal.returns-then-goes_at
returns-then-goes_at t c =
    let a = c.args in
    let at = (goal.at.returns-then-goes_at t c).In-loop-at in
    let same = c.loop-at.invariant.same in
    let goes = simp (back c.ranges.minute, back c.ranges.id, same) at c.goes_at.ensures in
    let changed = rw same at (changed_at c.loop-at.t a.i (without c.loop-at.at) c.remove_at.ensures) in
    left_one (left t at) (subst (λ h. Taken a.t.now a.minute a.id h a.i c.remove_at.new.t) (sym c.if-h-eq0.true) (leaf_goes (leaf_can t at c.if-h-eq0.true) (low t at) (passed goes c.if-goes_at.true) changed))

pub take_out-requires : goal.take_out-requires
take_out-requires t c =
    let at = (goal.at.take_out-requires t c).In-loop-at in
    let child = rw c.loop-at.invariant.same at c.child_at-child.ensures in
    (omega (arith, c.decreases), simp (back c.ranges.minute, c.loop-at.invariant.same) (can_take_child (inner_can t at c.if-h-eq0.false) (low t at) child))

pub mend-requires : goal.mend-requires
mend-requires t c =
    let at = (goal.at.mend-requires t c).In-loop-at in
    let same = c.loop-at.invariant.same in
    let tried = simp (back c.ranges.minute, back c.ranges.id, same) at c.take_out.ensures in
    simp (back c.ranges.minute) (can_mend (inner_can t at c.if-h-eq0.false) (low t at) (rw same at c.child_at-child.ensures) (tried.one c.if-take_out.true))

pub returns-then-take_out : goal.returns-then-take_out
returns-then-take_out t c =
    let a = c.args in
    let at = (goal.at.returns-then-take_out t c).In-loop-at in
    let same = c.loop-at.invariant.same in
    let tried = simp (back c.ranges.minute, back c.ranges.id, same) at c.take_out.ensures in
    let one_level : suc (a.h - 1) ≡ a.h = omega arith in
    left_one (left t at)
    (subst (λ h. Taken a.t.now a.minute a.id h a.i c.mend.new.t) one_level
    (taken_below (inner_can t at c.if-h-eq0.false) (low t at) (rw same at c.child_at-child.ensures) (tried.one c.if-take_out.true) (simp (back c.ranges.minute) at c.mend.ensures)))

pub loop-at-preserved : goal.loop-at-preserved
loop-at-preserved t c =
    let a = c.args in
    let at = (goal.at.loop-at-preserved t c).In-loop-at in
    let l = c.loop-at in
    let same = l.invariant.same in
    let one_entry = get_or (entries_at a.t.now a.i) l.at [] ∷ [] in
    simp (back c.ranges.minute, back c.ranges.id)
    (elim c.if-h-eq0.branch [
      | then-h-eq0+else-goes_at w ↦
          let goes = simp (back c.ranges.minute, back c.ranges.id, same) at w.goes_at.ensures in
          left_next (left t at) w.t-is (low t at)
          (subst (λ h. NoneGoes (entries_at a.t.now) a.minute a.id h one_entry) (sym w.if-h-eq0.true) (leaf_stays a.t.now a.i l.at (failed goes w.if-goes_at.false)))
      | else-h-eq0+else-take_out w ↦
          let tried = simp (back c.ranges.minute, back c.ranges.id, same) at w.take_out.ensures in
          let none = tried.none w.if-take_out.false in
          let one_level : suc (a.h - 1) ≡ a.h = omega arith in
          left_next (left t at) (w.t-is ∙ none.0 ∙ sym same) (low t at)
          (subst (λ h. NoneGoes (entries_at a.t.now) a.minute a.id h one_entry) one_level
          (child_stays (inner_can t at w.if-h-eq0.false) (low t at) (rw same at w.child_at-child.ensures) none.1))
    ])

pub returns : goal.returns
returns t c =
    left_end (simp (back c.ranges.minute, back c.ranges.id) at c.loop-at.invariant) (omega (arith, c.loop-at-test.false, c.count_at-at-end.ensures))
