-- A change below a child, and the node above it mended: its entry worked out afresh, or its child joined with another or sharing with it.
use Rattle.std.specs.Prelude.{ℕ, ℤ}
use Rattle.node.specs.Entry.{Entry}
use Rattle.table.specs.SoundTree.{Nodes, TreeSound}
use Rattle.tree_laws.specs.Inner.Weights.{Once}
use Rattle.tree_laws.specs.Inner.InnerEntries.{Renews}
use Rattle.tree_laws.specs.Inner.Moved.{Moved}

-- what moved below node i, below which no node is met twice, and which is sound again
pub record Mended (cells : ℕ) (clock : ℤ) (N N' : Nodes) (h i : ℕ) (put out : (Entry → ℕ) → ℕ) (got gone : ℕ → ℕ) : Type 0 where
  pub moved : Moved N N' h i put out got gone
  pub once : Once N' h i
  pub sound : TreeSound N' cells clock h i
  pub renews : Renews clock N h i N' h i
