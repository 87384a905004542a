use Rattle.std.proofs.Common.{◌≡◌, ◌+◌}
use Rattle.tree.specs.Inner.Staying.{stay_from}
use Rattle.tree.proofs.count.+staying.Given as goal

-- the height falls
abbrev pub decreases-staying : goal.decreases-staying
decreases-staying l = l.h

abbrev pub invariant-loop-at : goal.invariant-loop-at
invariant-loop-at l = l.many + stay_from l.t l.minute l.id l.h l.i l.at ≡ stay_from l.t l.minute l.id l.h l.i l.k
