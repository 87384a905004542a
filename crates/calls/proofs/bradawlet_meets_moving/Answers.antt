use mathlib.Core.Path.{◌≡◌}
use Rattle.whole.specs.Laws.Within.{back, word_back}
use Rattle.track.specs.Report.{report_from}
use Rattle.track.specs.Query.{query_from}
use Rattle.track.specs.Laws.Accepted.{kept_in_range, taken_in_range}
use Rattle.track.specs.Laws.Answer.{answered}
use Rattle.calls.proofs.bradawlet_meets_moving.Goals as goal
use Rattle.calls.proofs.bradawlet_meets_moving.Goals.{After-report_from-report, After-query_from-q}

-- the records, in the arguments' names
report_is : (c : After-report_from-report) → let a = c.args in c.report_from-report.result ≡ report_from a.id a.x a.y a.vx a.vy a.minute a.expiry
report_is c = let f = c.ranges in simp (back, f.id, f.x, f.y, f.vx, f.vy, f.minute, f.expiry) at c.report_from-report.ensures

query_is : (c : After-query_from-q) → let a = c.args in
    c.query_from-q.result ≡ query_from a.start a.end a.xlow a.xhigh a.ylow a.yhigh a.xlow2 a.xhigh2 a.ylow2 a.yhigh2
query_is c =
    let f = c.ranges in
    simp (back, f.start, f.end, f.xlow, f.xhigh, f.ylow, f.yhigh, f.xlow2, f.xhigh2, f.ylow2, f.yhigh2) at c.query_from-q.ensures

pub answer-requires : goal.answer-requires
answer-requires c = (kept_in_range c.reported-reported.ensures, taken_in_range c.moving-asked.ensures)

pub returns : goal.returns
returns c =
    let f = c.ranges in
    rw (word_back c.answer.result c.answer.type_inv)
    (answered
    (rw (report_is (goal.at.returns c).After-report_from-report) at c.reported-reported.ensures)
    (simp (back f.minute, query_is (goal.at.returns c).After-query_from-q) at c.moving-asked.ensures)
    c.answer.ensures)
