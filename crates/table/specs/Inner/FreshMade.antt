-- What makes the words of a fresh table: each node free, then the header.
use Rattle.std.specs.Prelude.{◌≡◌, List, ℕ, ◌<◌, ℤ, pos, length, drop}
use Rattle.words.specs.Layout.{node_start, node_at}
use Rattle.node.specs.Entry.{entry_count_word}

-- ---- free nodes
-- the words w became v: the first i of the nodes are free, and what stands past all nodes is as it was
pub record Freed (nodes : ℕ) (w : List ℤ) (i : ℕ) (v : List ℤ) : Type 0 where
  pub free : (j : ℕ) → j < i → entry_count_word (node_at v j) ≡ pos 0
  pub as_long : length v ≡ length w
  pub rest_kept : drop (node_start nodes) v ≡ drop (node_start nodes) w
