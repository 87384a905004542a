-- Nodes in use and free ones: how many there are, how a change moves that, and that a free one is left while a cell is put in.
use Rattle.std.specs.Prelude.{◌≡◌, List, [], ◌∷◌, ℕ, zero, suc, ◌+◌, ◌*◌, ◌≤◌, length}
use Rattle.node.specs.Entry.{Entry}
use Rattle.table.specs.SoundTree.{Nodes, leaves_of, nodes_of}

-- ---- sums over the numbers below n
unfoldable pub sum_below : (ℕ → ℕ) → ℕ → ℕ
sum_below f zero = 0
sum_below f (suc n) = sum_below f n + f n

-- ---- a node without entries is free
abbrev pub Free : Nodes → ℕ → Type 0
Free N j = N j ≡ []

unfoldable pub in_use : List Entry → ℕ
in_use [] = 0
in_use (e ∷ es) = 1

-- how many of the nodes below n are in use
abbrev pub used : Nodes → ℕ → ℕ
used N n = sum_below (λ j. in_use (N j)) n

-- ---- room for one more cell. Where `u` nodes are in use and the nodes strictly below i have so many entries beyond three each,
-- twice u and these together are below the number of cells
pub record Room (cells u : ℕ) (N : Nodes) (h i : ℕ) : Type 0 where
  pub room : 2 * u + length (leaves_of N h i) + 3 ≤ cells + length (N i) + 2 * length (nodes_of N h i)
