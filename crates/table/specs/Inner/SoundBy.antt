-- The parts of the soundness test, and what each of them tests.
use Rattle.std.specs.Prelude.{◌≡◌, List, ℕ, ◌≤◌, ◌<◌, eqb, ℤ, pos, length, get_or, ◌≤ℤ◌}
use Rattle.whole.specs.Inner.Times.{once_if}
use Rattle.words.specs.Layout.{node_at}
use Rattle.track.specs.Numbers.{IsMinute}
use Rattle.node.specs.Entry.{entry_count_word, IsCount}
use Rattle.table.specs.Header.{capacity_word, capacity, clock, root_word, root, height_word, height, IsCapacity, nodes_for, words_for, IsNode, entries_at, greatest_capacity}

-- ---- what the header tells
pub record TableHeaderSound (w : List ℤ) : Type 0 where
  pub capacity_in : IsCapacity (capacity_word w)
  pub clock_in : IsMinute (clock w)
  pub long_enough : words_for (capacity w) ≤ length w
  pub root_in : IsNode (capacity w) (root_word w)
  pub height_in : pos 0 ≤ℤ height_word w

pub record RootSound (w : List ℤ) : Type 0 where
  pub counted : IsCount (entry_count_word (node_at w (root w)))
  pub filled : 0 < height w → 2 ≤ length (entries_at w (root w))

-- the marks before the pass: one on the root
pub record RootMarked (w : List ℤ) (marks : List ℕ) : Type 0 where
  pub marked : (j : ℕ) → get_or marks j 0 ≡ once_if (eqb j (root w))

-- ---- what a pass leaves to test
-- a node without a mark is free
abbrev pub FreeUnless : List ℤ → ℕ → ℕ → Type 0
FreeUnless w mark i = mark ≡ 0 → entry_count_word (node_at w i) ≡ pos 0

pub record FreeTo (w : List ℤ) (marks : List ℕ) (n : ℕ) : Type 0 where
  pub free : (i : ℕ) → i < n → FreeUnless w (get_or marks i 0) i

abbrev pub RestFree : List ℤ → List ℕ → Type 0
RestFree w marks = FreeTo w marks (nodes_for (capacity w))

-- ---- before the pass: no marks, and room for marks and keys of the greatest table
pub record Clear (marks keys : List ℕ) : Type 0 where
  pub none : (j : ℕ) → get_or marks j 0 ≡ 0
  pub marks_long : nodes_for greatest_capacity ≤ length marks
  pub keys_long : greatest_capacity ≤ length keys
