-- What is accepted is in range: the cell of an accepted report, an accepted query, a cell of which no range can be denied.
use Rattle.std.specs.Prelude.{Result, IfOk}
use Rattle.track.specs.Query.{QueryInRange}
use Rattle.track.specs.Life.{CellInRange}
use Rattle.track.specs.declared.cell.Cell.{Cell}
use Rattle.track.specs.declared.queries.Query.{Query}
use Rattle.track.specs.declared.refusal.Refusal.{Refusal}

abbrev pub KeptInRange : Result Cell Refusal → Type 0
KeptInRange reported = IfOk reported CellInRange

abbrev pub TakenInRange : Result Query Refusal → Type 0
TakenInRange asked = IfOk asked QueryInRange
