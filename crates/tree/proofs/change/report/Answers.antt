use mathlib.Core.Path.{◌≡◌, ◌∙◌}
use mir.Syntax.{w32}
use mir.Val.{to_z, of_z}
use Rattle.std.proofs.lemmas.Result.{err_from_is_err_and}
use Rattle.whole.specs.Laws.Tells.{passed, failed}
use Rattle.whole.specs.Laws.Within.{back, word_back}
use Rattle.track.specs.Report.{Reports}
use Rattle.table.specs.Header.{clock}
use Rattle.table.specs.Sound.{Sound}
use Rattle.tree.specs.Laws.Outcomes.{report_unsound, report_refused, can_report, report_taken}
use Rattle.tree.proofs.change.report.Goals as goal
use Rattle.tree.proofs.change.report.Goals.{Start, Else-not-is_sound, After-clock, After-reported}

-- ---- what the code knows at its places
sound : (c : Else-not-is_sound) → Sound c.args.t.now
sound c = passed c.is_sound.ensures c.if-not-is_sound.false

clock_back : (c : After-clock) → to_z w32 (of_z w32 c.clock.result) ≡ clock c.args.t.now
clock_back c = word_back c.clock.result c.clock.type_inv ∙ c.clock.ensures

reports_is : (c : After-reported) → let a = c.args in Reports (clock a.t.now) a.r c.reported.result
reports_is c = simp (clock_back c.before) at c.reported.ensures

minute_back : (s : Start) → to_z w32 (of_z w32 s.args.r.minute) ≡ s.args.r.minute
minute_back s = back {w = w32} (record { sfits = s.well_formed.1.0.1.1.1.1.1.1.1.0.1 })

pub returns-then-not-is_sound : goal.returns-then-not-is_sound
returns-then-not-is_sound c = report_unsound (failed c.is_sound.ensures c.if-not-is_sound.true)

pub take_in-requires : goal.take_in-requires
take_in-requires c =
    simp (minute_back (goal.at.take_in-requires c).Start)
    (can_report (sound (goal.at.take_in-requires c).Else-not-is_sound) (reports_is (goal.at.take_in-requires c).After-reported) c.in_ok-c.was)

pub returns : goal.returns
returns c =
    report_taken (sound (goal.at.returns c).Else-not-is_sound) (reports_is (goal.at.returns c).After-reported) c.in_ok-c.was
    (simp (minute_back (goal.at.returns c).Start) at c.take_in.ensures)

pub returns-in_err-c : goal.returns-in_err-c
returns-in_err-c c =
    let p = err_from_is_err_and c.from_residual.result c.from_residual.ensures.1 in
    rw (p.1, p.2)
    (report_refused (sound (goal.at.returns-in_err-c c).Else-not-is_sound) (reports_is (goal.at.returns-in_err-c c).After-reported) c.in_err-c.was)
