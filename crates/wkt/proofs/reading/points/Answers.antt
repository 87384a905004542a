use Rattle.wkt.specs.Laws.TrackFound.{points_no_first, points_no_last, points_found}
use Rattle.wkt.proofs.reading.points.Goals as goal

pub returns-in_err-first : goal.returns-in_err-first
returns-in_err-first c = rw c.from_residual.ensures (points_no_first c.args.line.now c.in_err-first.ensures)

pub returns-in_err-last : goal.returns-in_err-last
returns-in_err-last c =
    rw c.from_residual-in_err-last.ensures (points_no_last c.args.line.now c.in_ok-first.end c.in_ok-first.ensures c.in_err-last.ensures)

pub returns : goal.returns
returns c =
    points_found c.args.line.now c.in_ok-first.end c.in_ok-first.ensures c.in_ok-last.field-0-1 c.in_ok-last.ensures
