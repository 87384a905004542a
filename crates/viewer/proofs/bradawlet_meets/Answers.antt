use mathlib.Core.Path.{◌≡◌}
use Rattle.whole.specs.Laws.Within.{back, word_back}
use Rattle.track.specs.Report.{report_from}
use Rattle.track.specs.Query.{window_from}
use Rattle.track.specs.Laws.Accepted.{kept_in_range, taken_in_range}
use Rattle.track.specs.Laws.Answer.{answered}
use Rattle.viewer.proofs.bradawlet_meets.Goals as goal
use Rattle.viewer.proofs.bradawlet_meets.Goals.{After-report_from-report, After-window_from-window}

-- the records, in the arguments' names
report_is : (c : After-report_from-report) → let a = c.args in c.report_from-report.result ≡ report_from a.id a.x a.y a.vx a.vy a.minute a.expiry
report_is c = let f = c.ranges in simp (back, f.id, f.x, f.y, f.vx, f.vy, f.minute, f.expiry) at c.report_from-report.ensures

window_is : (c : After-window_from-window) → let a = c.args in c.window_from-window.result ≡ window_from a.start a.end a.xlow a.xhigh a.ylow a.yhigh
window_is c = let f = c.ranges in simp (back, f.start, f.end, f.xlow, f.xhigh, f.ylow, f.yhigh) at c.window_from-window.ensures

pub answer-requires : goal.answer-requires
answer-requires c = (kept_in_range c.reported-reported.ensures, taken_in_range c.window-asked.ensures)

pub returns : goal.returns
returns c =
    let f = c.ranges in
    rw (word_back c.answer.result c.answer.type_inv)
    (answered
    (rw (report_is (goal.at.returns c).After-report_from-report) at c.reported-reported.ensures)
    (simp (back f.minute, window_is (goal.at.returns c).After-window_from-window) at c.window-asked.ensures)
    c.answer.ensures)
