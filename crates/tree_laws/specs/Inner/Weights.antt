-- A list as a collection: its weight under every φ, which adds up φ of its members. And what is reached in a tree, weighed and counted.
use Rattle.std.specs.Prelude.{◌≡◌, List, [], ◌∷◌, ℕ, ◌+◌, ◌≤◌}
use Rattle.whole.specs.Inner.Times.{times}
use Rattle.node.specs.Entry.{Entry}
use Rattle.table.specs.SoundTree.{Nodes, leaves_of, nodes_of}
use Rattle.table.specs.Inner.Scan.{leaves_in}

-- ---- the sum of φ over a list
unfoldable pub sum_over : {A : Type 0} → (A → ℕ) → List A → ℕ
sum_over φ [] = 0
sum_over φ (x ∷ l) = φ x + sum_over φ l

-- ---- two lists with the same members, each as often
pub record SameWeights {A : Type 0} (l m : List A) : Type 0 where
  pub same : (φ : A → ℕ) → sum_over φ l ≡ sum_over φ m

-- ---- what is reached from node i, which has h levels beneath it: what its leaf entries weigh, and how often node j is met
abbrev pub weight : (Entry → ℕ) → Nodes → ℕ → ℕ → ℕ
weight φ N h i = sum_over φ (leaves_of N h i)

abbrev pub visits : ℕ → Nodes → ℕ → ℕ → ℕ
visits j N h i = times j (nodes_of N h i)

-- the same through some entries of a node with h levels beneath it
abbrev pub weight_in : (Entry → ℕ) → Nodes → ℕ → List Entry → ℕ
weight_in φ N h es = sum_over φ (leaves_in N h es)

-- no node is met twice
abbrev pub Once : Nodes → ℕ → ℕ → Type 0
Once N h i = (j : ℕ) → visits j N h i ≤ 1
