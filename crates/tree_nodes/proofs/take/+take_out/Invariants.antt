use Rattle.tree_nodes.specs.Laws.Takes.{TakesLeft}
use Rattle.tree_nodes.proofs.take.+take_out.Given as goal

-- the height falls
abbrev pub decreases-take_out : goal.decreases-take_out
decreases-take_out l = l.h

abbrev pub invariant-loop-at : goal.invariant-loop-at
invariant-loop-at l = TakesLeft l.fn.t l.minute l.id l.h l.i l.k l.at l.t
