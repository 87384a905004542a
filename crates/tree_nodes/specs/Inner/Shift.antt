-- Entries moved from one node of a table to another.
use Rattle.std.specs.Prelude.{◌≡◌, List, ◌++◌, ℕ, ◌+◌, ◌<◌, ℤ, length}
use Rattle.words.specs.Layout.{full_node}
use Rattle.table.specs.Header.{capacity, nodes_for, entries_at}
use Rattle.tree_laws.specs.Inner.Weights.{SameWeights}
use Rattle.tree_nodes.specs.Inner.Kept.{Ample, Kept}

-- n entries of node `from` have gone to node `to`
pub record Shifted (cells : ℕ) (w : List ℤ) (from to n : ℕ) (v : List ℤ) : Type 0 where
  pub kept : Kept cells w v
  pub all : SameWeights (entries_at w from ++ entries_at w to) (entries_at v from ++ entries_at v to)
  pub more : length (entries_at v to) ≡ length (entries_at w to) + n
  pub others : (j : ℕ) → (j ≡ from → ⊥) → (j ≡ to → ⊥) → entries_at v j ≡ entries_at w j

-- two nodes of the table; the one has an entry k, and the other has room for it
pub record CanShift (w : List ℤ) (from k to : ℕ) : Type 0 where
  pub ample : Ample w
  pub from_in : from < nodes_for (capacity w)
  pub to_in : to < nodes_for (capacity w)
  pub apart : to ≡ from → ⊥
  pub has : k < length (entries_at w from)
  pub room : length (entries_at w to) < full_node
