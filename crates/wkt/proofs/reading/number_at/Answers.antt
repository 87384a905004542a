use Rattle.std.proofs.Common.{arith}
use Rattle.decimal.specs.Laws.NumberRead.{no_number_left}
use Rattle.wkt.proofs.reading.number_at.Goals as goal

pub returns-then-line-at : goal.returns-then-line-at
returns-then-line-at c = no_number_left c.args.line.now c.args.at (omega (arith, c.if-line-at.true))
