-- the leafing holds the lent table, and what was given stands in the list
use Rattle.std.proofs.Common.{◌≡◌}
use Rattle.leafing.specs.Laws.LeafingList.{Going}
use Rattle.leafing.proofs.through.list_all.Given as goal

abbrev pub invariant-loop-c : goal.invariant-loop-c
invariant-loop-c l = (l.c-iterator.table.now ≡ l.t) × Going l.t l.initial.list l.n l.c-iterator.last l.list
