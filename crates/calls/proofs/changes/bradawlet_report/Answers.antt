use mathlib.Core.Path.{◌≡◌, ◌∙◌}
use Rattle.whole.specs.Laws.Within.{back, word_back}
use Rattle.track.specs.Report.{report_from}
use Rattle.calls.proofs.changes.bradawlet_report.Goals as goal
use Rattle.calls.proofs.changes.bradawlet_report.Goals.{After-report_from-made}
use Rattle.track.specs.Refusals.{number_of}

-- the report, in the arguments' names
report_is : (c : After-report_from-made) → let a = c.args in c.report_from-made.result ≡ report_from a.id a.x a.y a.vx a.vy a.minute a.expiry
report_is c = let f = c.ranges in simp (back, f.id, f.x, f.y, f.vx, f.vy, f.minute, f.expiry) at c.report_from-made.ensures

pub returns : goal.returns
returns c =
    record {
      number = number_of c.report.result;
      is = word_back c.number_of.result c.number_of.type_inv ∙ c.number_of.ensures;
      steps = rw (report_is (goal.at.returns c).After-report_from-made) at c.report.ensures;
    }
