use Rattle.std.specs.Prelude.{◌≡◌}
use Rattle.tree_choice.specs.Child.{child_cost, CheapestOf}
use Rattle.tree_choice.proofs.child.best_child.Given as goal

abbrev pub invariant-loop-k : goal.invariant-loop-k
invariant-loop-k l = (l.least ≡ child_cost l.node l.best l.b l.minute) × CheapestOf l.k l.node l.b l.minute l.best
