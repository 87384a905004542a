-- Taking an entry out below a node: from a leaf, and below a child that is then mended.
use Rattle.std.specs.Prelude.{ℕ, ◌+◌, ◌≤◌, ◌<◌, ℤ, length}
use Rattle.node.specs.Entry.{Entry}
use Rattle.table.specs.SoundTree.{Nodes}
use Rattle.tree_laws.specs.Inner.Moved.{no_weight, no_node}
use Rattle.tree_laws.specs.Inner.Climb.{Mended}
use Rattle.tree_laws.specs.Inner.Used.{Free}

-- the entry x is taken out below node i; the nodes that go out are free, and i has at most one entry fewer
pub record TakeOut (cells : ℕ) (clock : ℤ) (N N' : Nodes) (h i : ℕ) (x : Entry) : Type 0 where
  pub gone : ℕ → ℕ
  pub mended : Mended cells clock N N' h i no_weight (λ φ. φ x) no_node gone
  pub are_free : (j : ℕ) → 0 < gone j → Free N' j
  pub one_fewer : length (N i) ≤ length (N' i) + 1
