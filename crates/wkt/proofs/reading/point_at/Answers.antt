use Rattle.whole.specs.Laws.Within.{read32}
use Rattle.decimal.specs.Laws.Spells.{spells_in}
use Rattle.wkt.specs.Laws.TrackFound.{point_no_x, point_no_y, point_no_minute, point_found}
use Rattle.wkt.proofs.reading.point_at.Goals as goal

pub returns-in_err-x : goal.returns-in_err-x
returns-in_err-x c = rw c.from_residual.ensures (point_no_x c.args.line.now c.args.at c.in_err-x.ensures)

pub returns-in_err-y : goal.returns-in_err-y
returns-in_err-y c =
    rw c.from_residual-in_err-y.ensures (point_no_y c.args.line.now c.args.at c.in_ok-x.after_x c.in_ok-x.ensures c.in_err-y.ensures)

pub returns-in_err-minute : goal.returns-in_err-minute
returns-in_err-minute c =
    rw c.from_residual-in_err-minute.ensures
    (point_no_minute c.args.line.now c.args.at c.in_ok-x.after_x c.in_ok-x.ensures c.in_ok-y.after_y c.in_ok-y.ensures c.in_err-minute.ensures)

pub returns : goal.returns
returns c =
    let x = c.in_ok-x.ensures in
    let y = c.in_ok-y.ensures in
    let minute = c.in_ok-minute.ensures in
    rw (read32 tt (spells_in x.1.spells), read32 tt (spells_in y.1.spells), read32 tt (spells_in minute.1.spells))
    (point_found c.args.line.now c.args.at c.in_ok-x.after_x x c.in_ok-y.after_y y c.in_ok-minute.end minute)
