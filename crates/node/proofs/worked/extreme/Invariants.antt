use Prim.Native.Nat.{◌^◌}
use Rattle.whole.specs.Within.{Within}
use Rattle.node.specs.Inner.Pass.{outer, reading_of}
use Rattle.node.specs.Laws.Pass.{EntriesPassed}
use Rattle.node.proofs.worked.extreme.Given as goal

abbrev pub invariant-loop-k : goal.invariant-loop-k
invariant-loop-k l = EntriesPassed (outer l.column) (reading_of l.leaf l.axis l.column l.stamp) l.node l.k l.found × Within (2 ^ 42) l.found
