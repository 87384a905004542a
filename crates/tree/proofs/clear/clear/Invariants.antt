use lib.ListN.{length}
use Rattle.tree.specs.Inner.Holding.{leaves}
use Rattle.tree.specs.Inner.Clear.{Clearing}
use Rattle.tree.proofs.clear.clear.Given as goal

abbrev pub invariant-loop : goal.invariant-loop
invariant-loop l = Clearing l.initial.t l.minute l.id l.t

abbrev pub decreases-loop : goal.decreases-loop
decreases-loop l = length (leaves l.t)
