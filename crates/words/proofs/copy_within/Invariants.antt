use Rattle.words.specs.Parts.{part}
use Rattle.words.proofs.Runs.{RunWritten}
use Rattle.words.proofs.copy_within.Given as goal

abbrev pub invariant-loop-j : goal.invariant-loop-j
invariant-loop-j l = RunWritten (part l.initial.t l.from) l.initial.t l.t l.to l.n l.j
