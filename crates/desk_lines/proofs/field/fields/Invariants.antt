use Rattle.desk_lines.specs.Laws.Passing.{FieldsPassed}
use Rattle.desk_lines.proofs.field.fields.Given as goal

abbrev pub invariant-loop-number : goal.invariant-loop-number
invariant-loop-number g l = FieldsPassed l.line g.row.N l.number-items l.at l.number-index
