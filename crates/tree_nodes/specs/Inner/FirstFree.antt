-- The first free node of a table, for a node that is split or a root that grows.
use Rattle.std.specs.Prelude.{◌≡◌, Option, Some, None, ℕ, ◌<◌}
use Rattle.table.specs.SoundTree.{Nodes}
use Rattle.tree_laws.specs.Inner.Used.{Free}

-- no node below i is free
pub record NoneFree (N : Nodes) (i : ℕ) : Type 0 where
  pub taken : (j : ℕ) → j < i → Free N j → ⊥

-- r is the first free node of those below n, None where none is
pub record FirstFree (N : Nodes) (n : ℕ) (r : Option ℕ) : Type 0 where
  pub found : (i : ℕ) → r ≡ Some i → (i < n) × Free N i × NoneFree N i
  pub none : r ≡ None → NoneFree N n
