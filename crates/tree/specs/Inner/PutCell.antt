-- A cell put into the tree of a table.
use Rattle.std.specs.Prelude.{List, ◌∷◌, ◌<◌, ℤ, length}
use Rattle.node.specs.Entry.{Entry}
use Rattle.table.specs.Header.{capacity}
use Rattle.tree_laws.specs.Inner.Weights.{SameWeights}
use Rattle.tree.specs.Inner.Holding.{leaves, Holding, RenewsAll, Stands}

-- the table has room for another cell
pub record HasRoom (w : List ℤ) (minute : ℤ) : Type 0 where
  pub holding : Holding w minute
  pub few : length (leaves w) < capacity w

-- the entry x is one more of the leaves' entries
pub record PutCell (w : List ℤ) (minute : ℤ) (x : Entry) (v : List ℤ) : Type 0 where
  pub holding : Holding v minute
  pub stands : Stands (capacity w) w v
  pub one_more : SameWeights (leaves v) (x ∷ leaves w)
  pub renews : RenewsAll minute w v
