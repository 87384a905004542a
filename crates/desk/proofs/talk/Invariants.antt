use Rattle.std.proofs.Common.{length, take, ◌-◌, ◌≤◌}
use Rattle.desk.specs.Talked.{HearsAll}
use Rattle.desk.proofs.talk.Given as goal

abbrev pub invariant-loop-from : goal.invariant-loop-from
invariant-loop-from l = (l.from ≤ length l.piece) × (l.held ≤ length l.line) × HearsAll l.initial.t l.initial.line l.initial.held (take l.from l.piece) l.t l.line l.held

abbrev pub decreases-loop-from : goal.decreases-loop-from
decreases-loop-from l = length l.piece - l.from
