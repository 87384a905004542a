-- A full root: a new one is put above it, and it is parted.
use Rattle.std.specs.Prelude.{◌≡◌, List, ◌<◌, ℤ, length}
use Rattle.words.specs.Layout.{full_node}
use Rattle.table.specs.Header.{capacity, root, entries_at}
use Rattle.tree_laws.specs.Inner.Weights.{SameWeights}
use Rattle.tree.specs.Inner.Holding.{leaves, Holding, RenewsAll, Stands}

-- the table has room for another cell, and its root is full
pub record CanGrow (w : List ℤ) (minute : ℤ) : Type 0 where
  pub holding : Holding w minute
  pub few : length (leaves w) < capacity w
  pub full : length (entries_at w (root w)) ≡ full_node

-- the root has room, and the leaves have the same entries
pub record Grown (w : List ℤ) (minute : ℤ) (v : List ℤ) : Type 0 where
  pub holding : Holding v minute
  pub stands : Stands (capacity w) w v
  pub same_leaves : SameWeights (leaves v) (leaves w)
  pub renews : RenewsAll minute w v
  pub room : length (entries_at v (root v)) < full_node
