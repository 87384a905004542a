use Rattle.std.proofs.lemmas.Result.{err_from_is_err_and}
use Rattle.whole.specs.Laws.Within.{back}
use Rattle.sheet_read.specs.Laws.ReadingSteps.{accepted_can, reads_refused, reads_accepted}
use mathlib.Core.Path.{ap}
use Rattle.track.specs.Refusals.{First, number_of}
use Rattle.sheet_read.specs.Reads.{read_reasons}
use Rattle.sheet_read.proofs.read_sheet.Goals as goal
use Rattle.sheet_read.proofs.read_sheet.Goals.{After-judge_reading}

judged : (c : After-judge_reading) → let a = c.args in First (read_reasons a.cells a.t.now a.bytes.now) (number_of c.judge_reading.result)
judged c = simp (back c.ranges.cells) at c.judge_reading.ensures

pub replace-requires : goal.replace-requires
replace-requires c =
    let j = judged (goal.at.replace-requires c).After-judge_reading in
    rw (back c.ranges.cells) (accepted_can (number_of c.judge_reading.result) j (ap number_of c.in_ok-judge_reading.was))

pub returns : goal.returns
returns c =
    reads_accepted (judged (goal.at.returns c).After-judge_reading) c.in_ok-judge_reading.was (rw (back c.ranges.cells) at c.replace.ensures)

pub returns-in_err-judge_reading : goal.returns-in_err-judge_reading
returns-in_err-judge_reading c =
    let p = err_from_is_err_and c.from_residual.result c.from_residual.ensures.1 in
    rw (p.1, p.2) (rw c.in_err-judge_reading.was at (reads_refused (judged (goal.at.returns-in_err-judge_reading c).After-judge_reading) c.in_err-judge_reading.was))
