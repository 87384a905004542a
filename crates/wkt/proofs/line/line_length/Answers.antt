use Rattle.std.proofs.Common.{arith}
use Rattle.whole.specs.Laws.Within.{back}
use Rattle.wkt.proofs.line.line_length.Goals as goal

pub returns : goal.returns
returns c =
    let p = rw (back c.ranges.clock) at c.put_line.ensures in
    record { line = p.bytes; is_line = p.spelt; long = omega (arith, p.end) }
