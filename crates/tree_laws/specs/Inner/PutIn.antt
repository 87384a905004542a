-- Putting an entry in below a node: into a leaf, below a child whose entry is then worked out afresh, and after a child was split.
use Rattle.std.specs.Prelude.{ℕ, ◌≤◌, ◌<◌, ℤ, length}
use Rattle.node.specs.Entry.{Entry}
use Rattle.table.specs.SoundTree.{Nodes}
use Rattle.tree_laws.specs.Inner.Moved.{no_weight, no_node}
use Rattle.tree_laws.specs.Inner.Climb.{Mended}
use Rattle.tree_laws.specs.Inner.Used.{Free}

-- the entry x is put in below node i; the nodes that come in were free ones of the table, and i has no fewer entries
pub record PutIn (cells : ℕ) (clock : ℤ) (N N' : Nodes) (h i : ℕ) (x : Entry) : Type 0 where
  pub got : ℕ → ℕ
  pub mended : Mended cells clock N N' h i (λ φ. φ x) no_weight got no_node
  pub were_free : (j : ℕ) → 0 < got j → Free N j
  pub no_fewer : length (N i) ≤ length (N' i)
