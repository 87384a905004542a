use Rattle.table.specs.Inner.FreshMade.{Freed}
use Rattle.table.proofs.fresh.free_all.Given as goal

abbrev pub invariant-loop-i : goal.invariant-loop-i
invariant-loop-i l = Freed l.nodes l.initial.t l.i l.t
