use Rattle.desk_serve.specs.Laws.Serving.{SoFar}
use Rattle.desk_serve.proofs.serving.serve.Given as goal

abbrev pub invariant-loop-i : goal.invariant-loop-i
invariant-loop-i l =
    SoFar l.initial.t l.initial.buffer l.held l.piece l.initial.out l.i l.t l.buffer l.place.held l.out l.place.written
