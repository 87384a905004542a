-- The frame law: what is reached from a node, and whether it is sound, depends only on the entries of the nodes reached. And a sound tree
-- stays sound as the clock goes on.
use Rattle.std.specs.Prelude.{◌≡◌, ℕ}
use Rattle.whole.specs.Lists.{◌∈◌}
use Rattle.table.specs.SoundTree.{Nodes, nodes_of}

-- ---- two tables whose nodes reached from i have the same entries
abbrev pub Agree : Nodes → Nodes → ℕ → ℕ → Type 0
Agree N N' h i = (j : ℕ) → j ∈ nodes_of N h i → N' j ≡ N j
