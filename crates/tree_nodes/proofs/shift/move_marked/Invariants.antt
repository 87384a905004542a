use Rattle.tree_nodes.specs.Laws.Marked.{GoneFrom}
use Rattle.tree_nodes.proofs.shift.move_marked.Given as goal

abbrev pub invariant-loop-k : goal.invariant-loop-k
invariant-loop-k l = GoneFrom l.initial.t l.from l.to l.marks l.k l.t
