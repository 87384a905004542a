use mathlib.Core.Path.{◌≡◌, ap, ◌∙◌}
use mir.Syntax.{w32}
use mir.Val.{to_z, of_z}
use native.Mathlib.Omega.{arith}
use lib.IntN.{ℤ, pos}
use lib.Signed.{◌≤ℤ◌}
use Rattle.whole.specs.Laws.Order.{lt_z_true, lt_z_false}
use Rattle.whole.specs.Laws.Tells.{passed, failed}
use Rattle.whole.specs.Laws.Within.{back, word_back}
use Rattle.table.specs.Header.{clock}
use Rattle.table.specs.Sound.{Sound}
use Rattle.tree.specs.Steps.{DropInRange}
use Rattle.tree.specs.Inner.StayingCells.{many_stay}
use Rattle.tree.specs.Laws.Outcomes.{drop_unsound, drop_out, drop_before, drop_holding, drop_not_live, drop_done}
use Rattle.tree.proofs.change.drop.Goals as goal
use Rattle.tree.proofs.change.drop.Goals.{Else-not-is_sound, Else-not-drop_in_range, After-clock, Else-minute-clock, After-staying_in, After-staying_in-2}

-- ---- what the code knows at its places
sound : (c : Else-not-is_sound) → Sound c.args.t.now
sound c = passed c.is_sound.ensures c.if-not-is_sound.false

in_range : (c : Else-not-drop_in_range) → DropInRange c.args.id c.args.minute
in_range c = passed (simp (back c.ranges.id, back c.ranges.minute) at c.drop_in_range.ensures) c.if-not-drop_in_range.false

clock_back : (c : After-clock) → to_z w32 (of_z w32 c.clock.result) ≡ clock c.args.t.now
clock_back c = word_back c.clock.result c.clock.type_inv ∙ c.clock.ensures

later : (c : Else-minute-clock) → clock c.args.t.now ≤ℤ c.args.minute
later c = lt_z_false (simp (back c.ranges.minute, clock_back c.before) at c.if-minute-clock.false)

all_is : (c : After-staying_in) → let a = c.args in c.staying_in.result ≡ many_stay a.t.now a.minute (pos 0)
all_is c =
    c.staying_in.ensures ∙ ap (λ (m : ℤ). many_stay c.args.t.now m (pos 0)) (back c.ranges.minute)

beside_is : (c : After-staying_in-2) → let a = c.args in c.staying_in-2.result ≡ many_stay a.t.now a.minute a.id
beside_is c = simp (back c.ranges.minute, back c.ranges.id) at c.staying_in-2.ensures

pub returns-then-not-is_sound : goal.returns-then-not-is_sound
returns-then-not-is_sound c = drop_unsound (failed c.is_sound.ensures c.if-not-is_sound.true)

pub returns-then-not-drop_in_range : goal.returns-then-not-drop_in_range
returns-then-not-drop_in_range c = drop_out (sound (goal.at.returns-then-not-drop_in_range c).Else-not-is_sound) (failed (simp (back c.ranges.id, back c.ranges.minute) at c.drop_in_range.ensures) c.if-not-drop_in_range.true)

pub returns-then-minute-clock : goal.returns-then-minute-clock
returns-then-minute-clock c = drop_before (sound (goal.at.returns-then-minute-clock c).Else-not-is_sound) (in_range (goal.at.returns-then-minute-clock c).Else-not-drop_in_range) (lt_z_true (simp (back c.ranges.minute, clock_back (goal.at.returns-then-minute-clock c).After-clock) at c.if-minute-clock.true))

pub staying_in-requires : goal.staying_in-requires
staying_in-requires c = sound (goal.at.staying_in-requires c).Else-not-is_sound

pub staying_in-requires-2 : goal.staying_in-requires-2
staying_in-requires-2 c = sound (goal.at.staying_in-requires-2 c).Else-not-is_sound

pub returns-then-staying_in : goal.returns-then-staying_in
returns-then-staying_in c = drop_not_live (sound (goal.at.returns-then-staying_in c).Else-not-is_sound) (in_range (goal.at.returns-then-staying_in c).Else-not-drop_in_range) (later (goal.at.returns-then-staying_in c).Else-minute-clock) (omega (arith, all_is (goal.at.returns-then-staying_in c).After-staying_in, beside_is (goal.at.returns-then-staying_in c).After-staying_in-2, c.if-staying_in.true))

pub clear-requires : goal.clear-requires
clear-requires c = simp (back c.ranges.minute) (drop_holding (sound (goal.at.clear-requires c).Else-not-is_sound) (in_range (goal.at.clear-requires c).Else-not-drop_in_range) (later (goal.at.clear-requires c).Else-minute-clock))

pub returns : goal.returns
returns c =
    drop_done (sound (goal.at.returns c).Else-not-is_sound) (in_range (goal.at.returns c).Else-not-drop_in_range) (later (goal.at.returns c).Else-minute-clock) (omega (arith, all_is (goal.at.returns c).After-staying_in, beside_is (goal.at.returns c).After-staying_in-2, c.if-staying_in.false))
    (simp (back c.ranges.minute, back c.ranges.id) at c.clear.ensures) (simp (back c.ranges.minute) at c.set_clock.ensures)
