-- A step of the iterator over the live cells of a sound table.
use Rattle.std.specs.Prelude.{◌≡◌, Option}
use Rattle.track.specs.declared.cell.Cell.{Cell}
use Rattle.leafing.specs.NextLive.{NextLive, last_after}
use Rattle.leafing.specs.declared.live.LiveCells.{LiveCells}

-- a step from l gives r and leaves l'
pub record LiveStep (l : LiveCells) (r : Option Cell) (l' : LiveCells) : Type 0 where
  pub next : NextLive l.table.now l.last r
  pub same_table : l'.table ≡ l.table
  pub goes_on : l'.last ≡ last_after r l.last
