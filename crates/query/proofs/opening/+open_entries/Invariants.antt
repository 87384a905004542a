use Rattle.query.specs.Laws.Opening.{OpensLeft}
use Rattle.query.proofs.opening.+open_entries.Given as goal

abbrev pub decreases-open_entries : goal.decreases-open_entries
decreases-open_entries l = l.height

abbrev pub invariant-loop-k : goal.invariant-loop-k
invariant-loop-k l = OpensLeft l.t l.q l.height l.i l.from l.fn.keys l.fn.found l.k l.keys l.found
