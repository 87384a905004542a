use mathlib.Core.Path.{refl}
use mathlib.Core.Logic.{inr}
use lib.Signed.{clash_ℤ}
use Rattle.whole.specs.Laws.Within.{back, word_back, read32}
use Rattle.whole.specs.Laws.Order.{lt_z_false, le_z_false}
use Rattle.whole.specs.Laws.Tells.{passed}
use Rattle.track.specs.Laws.Numbers.{kept_in}
use Rattle.track.proofs.cell.Cell.reported.Goals as goal

pub kept-requires : goal.kept-requires
kept-requires c =
    let r = c.args.r in
    let fits = c.well_formed.1.0.1.1 in
    let m = passed c.report_in_range.ensures c.if-not-report_in_range.false in
    simp (word_back r.x fits.1.0.1, word_back r.vx fits.1.1.1.0.1, word_back r.minute fits.1.1.1.1.1.0.1) (m.x_in, m.vx_in, m.minute_in)

pub kept-requires-2 : goal.kept-requires-2
kept-requires-2 c =
    let r = c.args.r in
    let fits = c.well_formed.1.0.1.1 in
    let m = passed c.report_in_range.ensures c.if-not-report_in_range.false in
    simp (word_back r.y fits.1.1.0.1, word_back r.vy fits.1.1.1.1.0.1, word_back r.minute fits.1.1.1.1.1.0.1) (m.y_in, m.vy_in, m.minute_in)

pub returns : goal.returns
returns c =
    let r = c.args.r in
    let fits = c.well_formed.1.0.1.1 in
    let m = passed c.report_in_range.ensures c.if-not-report_in_range.false in
    let minute = word_back r.minute fits.1.1.1.1.1.0.1 in
    let expiry = word_back r.expiry fits.1.1.1.1.1.1.0.1 in
    let in_time = lt_z_false (simp (minute, back c.ranges.clock) at c.if-r-clock.false) in
    let ordered = le_z_false (simp (expiry, minute) at c.if-r.false) in
    simp (
      c.kept.ensures,
      c.kept-2.ensures,
      word_back r.id fits.0.1,
      word_back r.x fits.1.0.1,
      word_back r.vx fits.1.1.1.0.1,
      word_back r.y fits.1.1.0.1,
      word_back r.vy fits.1.1.1.1.0.1,
      minute,
      expiry,
      read32 tt (kept_in m.x_in m.vx_in m.minute_in),
      read32 tt (kept_in m.y_in m.vy_in m.minute_in),
    )
    (record {
      refusal = inr (λ f. f m, inr (λ e. clash_ℤ e in_time, inr (λ e. clash_ℤ ordered e, refl)));
      cell = refl;
    })
