-- When a table is sound, for words that anyone wrote; and the cells that it holds.
use Rattle.std.specs.Prelude.{◌≡◌, ◌⊎◌, List, map, ℕ, ◌≤◌, ◌<◌, ℤ, pos, length, ◌≤ℤ◌}
use Rattle.whole.specs.Lists.{◌∈◌, NoRepeat}
use Rattle.words.specs.Layout.{node_at}
use Rattle.track.specs.Numbers.{IsMinute}
use Rattle.track.specs.Life.{identifier, LivesAt}
use Rattle.track.specs.declared.cell.Cell.{Cell}
use Rattle.node.specs.Entry.{cell_of, entry_count_word, IsCount}
use Rattle.table.specs.Header.{capacity_word, capacity, clock, root_word, root, height_word, height, IsCapacity, nodes_for, words_for, IsNode, entries_at}
use Rattle.table.specs.SoundTree.{leaves_of, nodes_of, TreeSound}

-- the nodes that are reached from the root
abbrev pub reached : List ℤ → List ℕ
reached w = nodes_of (entries_at w) (height w) (root w)

-- the cells that are held, expired ones included
abbrev pub held : List ℤ → List Cell
held w = map cell_of (leaves_of (entries_at w) (height w) (root w))

-- a cell is live while its expiry is after the clock
pub record Live (w : List ℤ) (c : Cell) : Type 0 where
  pub is_held : c ∈ held w
  pub in_life : LivesAt (clock w) c

pub record Sound (w : List ℤ) : Type 0 where
  pub capacity_in : IsCapacity (capacity_word w)
  pub clock_in : IsMinute (clock w)
  -- the lent words suffice
  pub long_enough : words_for (capacity w) ≤ length w
  pub root_in : IsNode (capacity w) (root_word w)
  pub height_in : pos 0 ≤ℤ height_word w
  pub counts_in : (i : ℕ) → i < nodes_for (capacity w) → IsCount (entry_count_word (node_at w i))
  -- an inner root has at least 2 entries
  pub root_filled : 0 < height w → 2 ≤ length (entries_at w (root w))
  pub tree : TreeSound (entries_at w) (capacity w) (clock w) (height w) (root w)
  -- each node is either free or reached from the root once
  pub reached_once : NoRepeat (reached w)
  pub free_or_reached : (i : ℕ) → i < nodes_for (capacity w) → (entry_count_word (node_at w i) ≡ pos 0) ⊎ (i ∈ reached w)
  pub few_cells : length (held w) ≤ capacity w
  pub identifiers_once : NoRepeat (map identifier (held w))
