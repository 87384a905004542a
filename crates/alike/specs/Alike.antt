-- Two tables that differ in their trees alone: one capacity, one clock, the same live cells.
use Rattle.std.specs.Prelude.{◌≡◌, ◌↔◌, List, ℤ}
use Rattle.track.specs.declared.cell.Cell.{Cell}
use Rattle.table.specs.Header.{capacity_word, clock}
use Rattle.table.specs.Sound.{Live, Sound}

pub record Alike (w v : List ℤ) : Type 0 where
  pub sound : Sound w
  pub sound' : Sound v
  pub capacity_is : capacity_word w ≡ capacity_word v
  pub clock_is : clock w ≡ clock v
  pub live : (c : Cell) → Live w c ↔ Live v c
