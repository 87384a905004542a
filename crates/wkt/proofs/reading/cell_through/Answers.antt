use Rattle.std.proofs.Common.{◌≡◌, ◌∙◌, ℤ, ◌-ℤ◌, ◌<◌, w32, to_z, of_z}
use Rattle.std.specs.Int.Signed.{mag}
use Rattle.whole.specs.Laws.Tells.{tells_both, passed, failed}
use Rattle.whole.specs.Laws.Within.{sub_in, back, read32, word_back}
use Rattle.track.specs.Laws.Numbers.{minute_in}
use Rattle.track.specs.declared.cell.Cell.{Cell}
use Rattle.wkt.specs.Inner.TrackFound.{velocity_of, kept_of, InOrder}
use Rattle.wkt.specs.Laws.TrackFound.{minutes_between, through_fast, through_outside, through_found}
use Rattle.wkt.proofs.reading.cell_through.Goals as goal
use Rattle.wkt.proofs.reading.cell_through.Goals.{Start}

-- the numbers of the points, read back
module _ (s : Start) where
  r_first_x : to_z w32 (of_z w32 s.args.first.x) ≡ s.args.first.x
  r_first_x = word_back s.args.first.x s.well_formed.1.0.1.1.0.1

  r_first_y : to_z w32 (of_z w32 s.args.first.y) ≡ s.args.first.y
  r_first_y = word_back s.args.first.y s.well_formed.1.0.1.1.1.0.1

  r_first_minute : to_z w32 (of_z w32 s.args.first.minute) ≡ s.args.first.minute
  r_first_minute = word_back s.args.first.minute s.well_formed.1.0.1.1.1.1.0.1

  r_last_x : to_z w32 (of_z w32 s.args.last.x) ≡ s.args.last.x
  r_last_x = word_back s.args.last.x s.well_formed.1.1.0.1.1.0.1

  r_last_y : to_z w32 (of_z w32 s.args.last.y) ≡ s.args.last.y
  r_last_y = word_back s.args.last.y s.well_formed.1.1.0.1.1.1.0.1

  r_last_minute : to_z w32 (of_z w32 s.args.last.minute) ≡ s.args.last.minute
  r_last_minute = word_back s.args.last.minute s.well_formed.1.1.0.1.1.1.1.0.1

  module _ (order : InOrder s.args.first s.args.last) where
    r_minutes : to_z w32 (of_z w32 (to_z w32 (of_z w32 s.args.last.minute) -ℤ to_z w32 (of_z w32 s.args.first.minute))) ≡ s.args.last.minute -ℤ s.args.first.minute
    r_minutes = simp (r_first_minute, r_last_minute) (read32 tt (sub_in (minute_in order.last_in) (minute_in order.first_in)))

    -- the velocities
    vx_is : (v : ℤ) → mag v < 2147483648
        → v ≡ velocity_of (to_z w32 (of_z w32 s.args.first.x)) (to_z w32 (of_z w32 s.args.last.x)) (to_z w32 (of_z w32 (to_z w32 (of_z w32 s.args.last.minute) -ℤ to_z w32 (of_z w32 s.args.first.minute))))
        → to_z w32 (of_z w32 v) ≡ velocity_of s.args.first.x s.args.last.x (s.args.last.minute -ℤ s.args.first.minute)
    vx_is v small e = word_back v small ∙ rw (r_first_x, r_last_x, r_minutes) at e

    vy_is : (v : ℤ) → mag v < 2147483648
        → v ≡ velocity_of (to_z w32 (of_z w32 s.args.first.y)) (to_z w32 (of_z w32 s.args.last.y)) (to_z w32 (of_z w32 (to_z w32 (of_z w32 s.args.last.minute) -ℤ to_z w32 (of_z w32 s.args.first.minute))))
        → to_z w32 (of_z w32 v) ≡ velocity_of s.args.first.y s.args.last.y (s.args.last.minute -ℤ s.args.first.minute)
    vy_is v small e = word_back v small ∙ rw (r_first_y, r_last_y, r_minutes) at e

  -- the positions, and the cell
  x_is : (x v : ℤ) {w : ℤ} → mag x < 2147483648 → to_z w32 (of_z w32 v) ≡ w
      → x ≡ kept_of (to_z w32 (of_z w32 s.args.first.x)) (to_z w32 (of_z w32 v)) (to_z w32 (of_z w32 s.args.first.minute)) → to_z w32 (of_z w32 x) ≡ kept_of s.args.first.x w s.args.first.minute
  x_is x v small f e = word_back x small ∙ rw (r_first_x, r_first_minute, f) at e

  y_is : (y v : ℤ) {w : ℤ} → mag y < 2147483648 → to_z w32 (of_z w32 v) ≡ w
      → y ≡ kept_of (to_z w32 (of_z w32 s.args.first.y)) (to_z w32 (of_z w32 v)) (to_z w32 (of_z w32 s.args.first.minute)) → to_z w32 (of_z w32 y) ≡ kept_of s.args.first.y w s.args.first.minute
  y_is y v small f e = word_back y small ∙ rw (r_first_y, r_first_minute, f) at e

all : {id x vx y vy e id' x' vx' y' vy' e' : ℤ} → id ≡ id' → x ≡ x' → vx ≡ vx' → y ≡ y' → vy ≡ vy' → e ≡ e'
    → ◌≡◌ {A = Cell} (record { id = id; x = x; vx = vx; y = y; vy = vy; expiry = record { at = e } }) (record { id = id'; x = x'; vx = vx'; y = y'; vy = vy'; expiry = record { at = e' } })
all a b c d e f i = record { id = a i; x = b i; vx = c i; y = d i; vy = e i; expiry = record { at = f i } }

pub velocity-vy-requires : goal.velocity-vy-requires
velocity-vy-requires c =
    let order = passed c.in_order.ensures c.if-not-in_order.false in
    rw (r_minutes (goal.at.velocity-vy-requires c).Start order) (minutes_between order)

pub returns-then-not-slow : goal.returns-then-not-slow
returns-then-not-slow c =
    let s = (goal.at.returns-then-not-slow c).Start in
    let order = passed c.in_order.ensures c.if-not-in_order.false in
    through_fast
    (vx_is s order c.velocity-vx.result c.velocity-vx.type_inv c.velocity-vx.ensures)
    (vy_is s order c.velocity-vy.result c.velocity-vy.type_inv c.velocity-vy.ensures)
    (failed (tells_both c.is_velocity.ensures c.is_velocity-2.ensures) c.if-not-slow.true)

pub kept_at-requires : goal.kept_at-requires
kept_at-requires c =
    let slow = passed (tells_both c.is_velocity.ensures c.is_velocity-2.ensures) c.if-not-slow.false in
    (slow.0, rw (r_first_minute (goal.at.kept_at-requires c).Start) (passed c.in_order.ensures c.if-not-in_order.false).first_in)

pub kept_at-requires-2 : goal.kept_at-requires-2
kept_at-requires-2 c =
    let slow = passed (tells_both c.is_velocity.ensures c.is_velocity-2.ensures) c.if-not-slow.false in
    (slow.1, rw (r_first_minute (goal.at.kept_at-requires-2 c).Start) (passed c.in_order.ensures c.if-not-in_order.false).first_in)

pub returns-then-not-cell_in_range : goal.returns-then-not-cell_in_range
returns-then-not-cell_in_range c =
    let s = (goal.at.returns-then-not-cell_in_range c).Start in
    let order = passed c.in_order.ensures c.if-not-in_order.false in
    let vx = vx_is s order c.velocity-vx.result c.velocity-vx.type_inv c.velocity-vx.ensures in
    let vy = vy_is s order c.velocity-vy.result c.velocity-vy.type_inv c.velocity-vy.ensures in
    let x = x_is s c.kept_at.result c.velocity-vx.result c.kept_at.type_inv vx c.kept_at.ensures in
    let y = y_is s c.kept_at-2.result c.velocity-vy.result c.kept_at-2.type_inv vy c.kept_at-2.ensures in
    through_outside (all (back c.ranges.id) x vx y vy (r_last_minute s)) (failed c.cell_in_range.ensures c.if-not-cell_in_range.true)

pub returns : goal.returns
returns c =
    let s = (goal.at.returns c).Start in
    let order = passed c.in_order.ensures c.if-not-in_order.false in
    let vx = vx_is s order c.velocity-vx.result c.velocity-vx.type_inv c.velocity-vx.ensures in
    let vy = vy_is s order c.velocity-vy.result c.velocity-vy.type_inv c.velocity-vy.ensures in
    let x = x_is s c.kept_at.result c.velocity-vx.result c.kept_at.type_inv vx c.kept_at.ensures in
    let y = y_is s c.kept_at-2.result c.velocity-vy.result c.kept_at-2.type_inv vy c.kept_at-2.ensures in
    through_found (all (back c.ranges.id) x vx y vy (r_last_minute s)) (passed c.cell_in_range.ensures c.if-not-cell_in_range.false) order
