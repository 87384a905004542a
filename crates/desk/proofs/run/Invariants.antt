use Rattle.std.proofs.Common.{length, ◌≤◌}
use Rattle.desk.specs.Laws.Running.{HeardSome}
use Rattle.desk.proofs.run.Given as goal

abbrev pub invariant-loop : goal.invariant-loop
invariant-loop l = (l.held ≤ length l.line) × HeardSome l.initial.t l.initial.line l.initial.held l.t l.line l.held
