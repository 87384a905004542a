use Rattle.sheet_read.specs.Laws.Filling.{Filling}
use Rattle.sheet_read.proofs.fill.Given as goal

abbrev pub invariant-loop-k : goal.invariant-loop-k
invariant-loop-k l = Filling l.initial.t l.bytes l.minute l.k l.t
