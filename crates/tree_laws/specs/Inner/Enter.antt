-- Going down to put a cell in: what holds of a node that is entered, at the root, at each child, and after a full child was split.
use Rattle.std.specs.Prelude.{ℕ, ◌<◌, ℤ}
use Rattle.table.specs.Header.{nodes_for}
use Rattle.table.specs.SoundTree.{Nodes, TreeSound}
use Rattle.tree_laws.specs.Inner.Weights.{Once}
use Rattle.tree_laws.specs.Inner.Used.{used, Room}

-- node i is sound, no node is met twice below it, and, unless it is a leaf, there is room for the nodes that splits below it take
pub record Enter (cells : ℕ) (clock : ℤ) (N : Nodes) (h i : ℕ) : Type 0 where
  pub once : Once N h i
  pub sound : TreeSound N cells clock h i
  pub room : 0 < h → Room cells (used N (nodes_for cells)) N h i
