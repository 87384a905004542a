-- The leafing from an identifier on: step after step until none is left.
use Rattle.std.specs.Prelude.{List, [], ◌∷◌, map, ℤ, ◌<ℤ◌, Some, None}
use Rattle.whole.specs.Lists.{◌∈◌}
use Rattle.whole.specs.Rising.{Rising}
use Rattle.track.specs.Life.{identifier}
use Rattle.track.specs.declared.cell.Cell.{Cell}
use Rattle.table.specs.Sound.{Live}
use Rattle.leafing.specs.NextLive.{Steps}

-- the steps from `last` on give these cells, one after the other, and then none
pub data Leafed (w : List ℤ) : ℤ → List Cell → Type 0 where
  no_more : {last : ℤ} → Steps w last None → Leafed w last []
  one_more : {last : ℤ} {c : Cell} {cells : List Cell} → Steps w last (Some c) → Leafed w c.id cells → Leafed w last (c ∷ cells)

-- these are the live cells by rising identifier
pub record LiveCells (w : List ℤ) (cells : List Cell) : Type 0 where
  pub rising : Rising ◌<ℤ◌ (map identifier cells)
  pub only : (c : Cell) → c ∈ cells → Live w c
  pub all : (c : Cell) → Live w c → c ∈ cells
