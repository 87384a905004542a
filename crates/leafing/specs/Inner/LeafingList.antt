-- The loop that goes through a leafing and puts each cell that a step gives into a list: what it comes to.
use Rattle.std.specs.Prelude.{◌≡◌, List, ◌≤◌, ℤ, pos, length}
use Rattle.words.specs.Inner.InLine.{PutInLine}
use Rattle.track.specs.Refusals.{First, number_of}
use Rattle.track.specs.declared.cell.Cell.{Cell}
use Rattle.table.specs.Header.{greatest_capacity}
use Rattle.leafing.specs.NextLive.{opening_reasons}
use Rattle.leafing.specs.Leafed.{Leafed}
use Rattle.leafing.specs.Through.{record_numbers, numbers_of}
use Rattle.leafing.specs.declared.through.Listed.{Listed}

-- what a leafing from its opening to its end comes to
pub record ListsAll (w list : List ℤ) (r : Listed) (list' : List ℤ) : Type 0 where
  pub cells : List Cell
  pub leafed : Leafed w (pos 0) cells
  pub opening : First (opening_reasons w) (number_of r.outcome)
  pub count : r.cells ≡ length cells
  pub few : length cells ≤ greatest_capacity
  pub stand : PutInLine numbers_of record_numbers list 0 cells list'
