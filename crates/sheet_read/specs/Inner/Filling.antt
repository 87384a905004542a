-- The cells of a sheet put into a fresh table: what is asked of it, and what it is then.
use Rattle.std.specs.Prelude.{◌≡◌, List, [], map, ℕ, ◌≤◌, ℤ}
use Rattle.whole.specs.Lists.{◌∈◌}
use Rattle.track.specs.Life.{CellInRange}
use Rattle.track.specs.declared.cell.Cell.{Cell}
use Rattle.node.specs.Inner.Made.{leaf_entry}
use Rattle.table.specs.Header.{capacity}
use Rattle.tree_laws.specs.Inner.Weights.{SameWeights}
use Rattle.tree.specs.Inner.Holding.{leaves, Holding, RenewsAll, Stands}
use Rattle.sheet.specs.Sheet.{record_count, cells_of}

-- the table w has no cell yet, and room for all of the sheet's
pub record CanFill (w : List ℤ) (bytes : List ℕ) (minute : ℤ) : Type 0 where
  pub holding : Holding w minute
  pub none_yet : leaves w ≡ []
  pub in_range : (c : Cell) → c ∈ cells_of bytes → CellInRange c
  pub few : record_count bytes ≤ capacity w

-- the leaves have an entry for each of the sheet's cells, and no other
pub record Filled (w : List ℤ) (bytes : List ℕ) (minute : ℤ) (v : List ℤ) : Type 0 where
  pub holding : Holding v minute
  pub stands : Stands (capacity w) w v
  pub entries : SameWeights (leaves v) (map leaf_entry (cells_of bytes))
  pub renews : RenewsAll minute w v
