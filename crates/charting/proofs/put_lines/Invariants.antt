use Rattle.std.proofs.Common.{◌≡◌}
use Rattle.charting.specs.Laws.TextPasses.{PuttingLines}
use Rattle.charting.proofs.put_lines.Given as goal

abbrev pub invariant-loop-c : goal.invariant-loop-c
invariant-loop-c l = (l.c-iterator.table.now ≡ l.t) × PuttingLines l.t l.initial.bytes l.c-iterator.last l.at l.bytes
