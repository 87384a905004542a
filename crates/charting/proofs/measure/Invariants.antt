use Rattle.std.proofs.Common.{◌≡◌}
use Rattle.charting.specs.Laws.TextPasses.{Measuring}
use Rattle.charting.proofs.measure.Given as goal

abbrev pub invariant-loop-c : goal.invariant-loop-c
invariant-loop-c l = (l.c-iterator.table.now ≡ l.t) × Measuring l.t l.c-iterator.last l.total
