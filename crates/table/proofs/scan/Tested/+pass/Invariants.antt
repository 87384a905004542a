use Rattle.table.specs.Laws.Ready.{EntriesLeft}
use Rattle.table.proofs.scan.Tested.+pass.Given as goal

abbrev pub decreases-pass : goal.decreases-pass
decreases-pass l = l.height

abbrev pub invariant-loop-k : goal.invariant-loop-k
invariant-loop-k l = EntriesLeft l.self.table.now l.self.cells l.self.clock l.height l.node l.fn.marks l.fn.keys l.fn.m l.k l.marks l.keys l.got
