-- The tree below the root of a table, whole: sound, no node met twice, and each node of the table met or free.
use Rattle.std.specs.Prelude.{◌≡◌, ℕ, ◌<◌, ℤ}
use Rattle.table.specs.Header.{nodes_for}
use Rattle.table.specs.SoundTree.{Nodes, TreeSound}
use Rattle.tree_laws.specs.Inner.Weights.{visits, Once}
use Rattle.tree_laws.specs.Inner.Used.{Free}

pub record Whole (cells : ℕ) (clock : ℤ) (N : Nodes) (h i : ℕ) : Type 0 where
  pub once : Once N h i
  pub sound : TreeSound N cells clock h i
  pub root_in : i < nodes_for cells
  pub rest_free : (j : ℕ) → j < nodes_for cells → visits j N h i ≡ 0 → Free N j
