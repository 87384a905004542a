use Rattle.std.specs.Prelude.{◌<ℤ◌, ◌&&◌, ◌≡◌}
use Rattle.std.proofs.Common.{rules}
use Rattle.std.specs.Int.Signed.{lt_z}
use Rattle.std.specs.Int.{w32}
use mir.Val.{SFits, to_z, of_z}
use Rattle.whole.specs.Tells.{Tells}
use Rattle.whole.specs.Laws.Tells.{tells_both, passed, failed}
use Rattle.whole.specs.Laws.Order.{lt_z_tells, le_z_true, le_z_false, <ℤ→≤ℤ}
use Rattle.whole.specs.Laws.Within.{back}
use Rattle.track.specs.Life.{LivesAt}
use Rattle.leafing.specs.Laws.Search.{extends_passed, extends_first, extends_kept, extends_lower}
use Rattle.leafing.proofs.search.lower.Goals as goal
use Rattle.leafing.proofs.search.lower.Goals.{Start}

module _ (s : Start) where
  clock_is : to_z w32 (of_z w32 s.args.s.clock) ≡ s.args.s.clock
  clock_is = back {w = w32} (record { sfits = s.well_formed.0.1.1.0.1 })

  last_is : to_z w32 (of_z w32 s.args.s.last) ≡ s.args.s.last
  last_is = back {w = w32} (record { sfits = s.well_formed.0.1.1.1.0.1 })

  id_is : to_z w32 (of_z w32 s.args.c.id) ≡ s.args.c.id
  id_is = back {w = w32} (record { sfits = s.well_formed.1.1.0.1.1.0.1 })

  expiry_is : to_z w32 (of_z w32 s.args.c.expiry.at) ≡ s.args.c.expiry.at
  expiry_is = back {w = w32} (record { sfits = s.well_formed.1.1.0.1.1.1.1.1.1.1.0.1.1.0.1 })

  told : Tells (lt_z (to_z w32 (of_z w32 s.args.s.clock)) (to_z w32 (of_z w32 s.args.c.expiry.at)) && lt_z (to_z w32 (of_z w32 s.args.s.last)) (to_z w32 (of_z w32 s.args.c.id)))
      (LivesAt s.args.s.clock s.args.c × (s.args.s.last <ℤ s.args.c.id))
  told = simp (clock_is, last_is, id_is, expiry_is) (tells_both lt_z_tells lt_z_tells)

pub returns-then-not-in_life-above : goal.returns-then-not-in_life-above
returns-then-not-in_life-above c =
    extends_passed _ _ _ (λ life up. failed (told (goal.at.returns-then-not-in_life-above c).Start) c.if-not-in_life-above.true (life, up))

pub returns-in_default : goal.returns-in_default
returns-in_default c =
    let here = passed (told (goal.at.returns-in_default c).Start) c.if-not-in_life-above.false in
    extends_first _ _ here.0 here.1 _ c.in_default.is

pub returns-then-b-c : goal.returns-then-b-c
returns-then-b-c c =
    let s = (goal.at.returns-then-b-c c).Start in
    let here = passed (told s) c.if-not-in_life-above.false in
    let fits : SFits w32 c.in-Some.b.id = search rules in
    extends_kept _ _ here.0 here.1 _ _ c.in-Some.is (le_z_true (simp (id_is s, back {w = w32} fits) at c.if-b-c.true))

pub returns-else-b-c : goal.returns-else-b-c
returns-else-b-c c =
    let s = (goal.at.returns-else-b-c c).Start in
    let here = passed (told s) c.if-not-in_life-above.false in
    let fits : SFits w32 c.in-Some.b.id = search rules in
    extends_lower _ _ here.0 here.1 _ _ c.in-Some.is (<ℤ→≤ℤ (le_z_false (simp (id_is s, back {w = w32} fits) at c.if-b-c.false)))
