-- The header of a table: capacity, clock, the root's node, and the height, 0 where the root is a leaf.
use Rattle.std.specs.Prelude.{List, ℕ, ◌+◌, ◌/◌, ℤ, pos, ◌≤ℤ◌, ◌<ℤ◌}
use Rattle.words.specs.Layout.{node_start, node_at}
use Rattle.words.specs.Words.{word_at, nat_of}
use Rattle.track.specs.Numbers.{most_cells}
use Rattle.node.specs.Entry.{Entry, entries_of}

abbrev pub capacity_word : List ℤ → ℤ
capacity_word w = word_at w 0

abbrev pub clock : List ℤ → ℤ
clock w = word_at w 1

abbrev pub root_word : List ℤ → ℤ
root_word w = word_at w 2

abbrev pub height_word : List ℤ → ℤ
height_word w = word_at w 3

abbrev pub capacity : List ℤ → ℕ
capacity w = nat_of (capacity_word w)

abbrev pub root : List ℤ → ℕ
root w = nat_of (root_word w)

abbrev pub height : List ℤ → ℕ
height w = nat_of (height_word w)

-- the greatest capacity
abbrev pub greatest_capacity : ℕ
greatest_capacity = most_cells

pub record IsCapacity (n : ℤ) : Type 0 where
  pub from : pos 1 ≤ℤ n
  pub to : n ≤ℤ pos greatest_capacity

-- the nodes and the words that a table of n cells needs
abbrev pub nodes_for : ℕ → ℕ
nodes_for n = n / 2 + 1

abbrev pub words_for : ℕ → ℕ
words_for n = node_start (nodes_for n)

-- z is the number of a node in a table of n cells
pub record IsNode (n : ℕ) (z : ℤ) : Type 0 where
  pub from : pos 0 ≤ℤ z
  pub to : z <ℤ pos (nodes_for n)

-- the entries of node i
unfoldable pub entries_at : List ℤ → ℕ → List Entry
entries_at w i = entries_of (node_at w i)
