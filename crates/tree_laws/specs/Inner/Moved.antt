-- What a change of a table does to the tree below a node, and how changes are put together.
use Rattle.std.specs.Prelude.{◌≡◌, ℕ, ◌+◌}
use Rattle.node.specs.Entry.{Entry}
use Rattle.table.specs.SoundTree.{Nodes}
use Rattle.tree_laws.specs.Inner.Weights.{weight, visits}

-- from the tree below node i, with h levels beneath it, to the tree below node i', with h' levels: the weight `put` comes in and `out` goes
-- out, the nodes `got` come in and `gone` go out, and no node is touched but those met before and those that come in
pub record MovedTo (N N' : Nodes) (h i h' i' : ℕ) (put out : (Entry → ℕ) → ℕ) (got gone : ℕ → ℕ) : Type 0 where
  pub other : (j : ℕ) → visits j N h i ≡ 0 → got j ≡ 0 → N' j ≡ N j
  pub weight : (φ : Entry → ℕ) → weight φ N' h' i' + out φ ≡ weight φ N h i + put φ
  pub met : (j : ℕ) → visits j N' h' i' + gone j ≡ visits j N h i + got j

-- the same below one node, as all changes are but those of the root
abbrev pub Moved : Nodes → Nodes → ℕ → ℕ → ((Entry → ℕ) → ℕ) → ((Entry → ℕ) → ℕ) → (ℕ → ℕ) → (ℕ → ℕ) → Type 0
Moved N N' h i put out got gone = MovedTo N N' h i h i put out got gone

-- nothing comes in or goes out
abbrev pub no_weight : (Entry → ℕ) → ℕ
no_weight φ = 0

abbrev pub no_node : ℕ → ℕ
no_node j = 0
