use mathlib.Core.Path.{◌≡◌, ◌∙◌}
use Prim.Native.Nat.{ℕ, ◌*◌, ◌^◌}
use lib.IntN.{ℤ, ◌*ℤ◌}
use mir.Syntax.{w64}
use mir.Val.{to_z, of_z}
use Rattle.whole.specs.Within.{Within}
use Rattle.whole.specs.Laws.Within.{back, read64, fits, mul_in, sub_in}
use Rattle.track.specs.Laws.Numbers.{minute_in}
use Rattle.node.specs.Entry.{entries_of}
use Rattle.node.specs.Inner.Pass.{extreme_of}
use Rattle.node.specs.Laws.Pass.{hull_passes}
use Rattle.node.proofs.worked.worked_row.Goals as goal
use Rattle.node.proofs.worked.worked_row.Goals.{Start, After-from-minute, After-extreme-lowest, After-extreme-highest, After-extreme, After-extreme-2}

abbrev over : Start → ℕ → ℤ
over s column = extreme_of s.args.leaf s.args.axis column s.args.stamp (entries_of s.args.node.now)

-- what a pass answers, as the next operation reads it
abbrev Read : ℤ → ℤ → Type 0
Read r z = (to_z w64 (of_z w64 r) ≡ z) × Within (2 ^ 42) z

read : {r z : ℤ} → (r ≡ z) × Within (2 ^ 42) r → Read r z
read h = (read64 tt h.1 ∙ h.0, rw h.0 at h.1)

minute_is : (c : After-from-minute) → to_z w64 (of_z w64 c.from-minute.result) ≡ c.args.stamp
minute_is c = simp (c.from-minute.ensures, back c.ranges.stamp) (read64 tt (minute_in c.requires.1))

lowest : (c : After-extreme-lowest) → Read c.extreme-lowest.result (over c.before.before 2)
lowest c = read (simp (back c.ranges.stamp) at c.extreme-lowest.ensures)

highest : (c : After-extreme-highest) → Read c.extreme-highest.result (over c.before.before.before 3)
highest c = read (simp (back c.ranges.stamp) at c.extreme-highest.ensures)

low : (c : After-extreme) → Read c.extreme.result (over c.before.before.before.before 0)
low c = read (simp (back c.ranges.stamp) at c.extreme.ensures)

high : (c : After-extreme-2) → Read c.extreme-2.result (over c.before.before.before.before.before 1)
high c = read (simp (back c.ranges.stamp) at c.extreme-2.ensures)

low_run : (c : After-extreme-lowest) → let s = c.before.before in Within (2 ^ 42 * 1440) (over s 2 *ℤ s.args.stamp)
low_run c = mul_in (lowest c).1 (minute_in c.requires.1)

high_run : (c : After-extreme-highest) → let s = c.before.before.before in Within (2 ^ 42 * 1440) (over s 3 *ℤ s.args.stamp)
high_run c = mul_in (highest c).1 (minute_in c.requires.1)

pub overflow_mul-result : goal.overflow_mul-result
overflow_mul-result c = let l = (goal.at.overflow_mul-result c).After-extreme-lowest in simp ((lowest l).0, minute_is) (fits tt (low_run l))

pub overflow_sub-result : goal.overflow_sub-result
overflow_sub-result c =
    let l = (goal.at.overflow_sub-result c).After-extreme-lowest in
    simp ((low (goal.at.overflow_sub-result c).After-extreme).0, (lowest l).0, minute_is, read64 tt (low_run l)) (fits tt (sub_in (low (goal.at.overflow_sub-result c).After-extreme).1 (low_run l)))

pub overflow_mul-result-2 : goal.overflow_mul-result-2
overflow_mul-result-2 c = let h = (goal.at.overflow_mul-result-2 c).After-extreme-highest in simp ((highest h).0, minute_is) (fits tt (high_run h))

pub overflow_sub-result-2 : goal.overflow_sub-result-2
overflow_sub-result-2 c =
    let h = (goal.at.overflow_sub-result-2 c).After-extreme-highest in
    simp ((high (goal.at.overflow_sub-result-2 c).After-extreme-2).0, (highest h).0, minute_is, read64 tt (high_run h)) (fits tt (sub_in (high (goal.at.overflow_sub-result-2 c).After-extreme-2).1 (high_run h)))

pub returns : goal.returns
returns c =
    let h = (goal.at.returns c).After-extreme-highest in
    let l = (goal.at.returns c).After-extreme-lowest in
    let a = l.args in
    let low_read = read64 tt (sub_in (low (goal.at.returns c).After-extreme).1 (low_run l)) in
    let high_read = read64 tt (sub_in (high (goal.at.returns c).After-extreme-2).1 (high_run h)) in
    simp ((low (goal.at.returns c).After-extreme).0, (high (goal.at.returns c).After-extreme-2).0, (lowest l).0, (highest h).0, minute_is, read64 tt (low_run l), read64 tt (high_run h), low_read, high_read)
    (hull_passes a.leaf a.axis a.stamp (entries_of a.node.now))
