-- The pass over a node of the table: what it needs, that the node lies in the table and that there is room for marks and keys;
-- that this is kept; and the loop over the node's entries.
use Rattle.std.specs.Prelude.{List, ℕ, ◌≤◌, ◌<◌, ℤ, length, get_or}
use Rattle.table.specs.Header.{nodes_for, words_for}

pub record Ready (w : List ℤ) (cells node : ℕ) (marks keys : List ℕ) (m : ℕ) : Type 0 where
  pub long : words_for cells ≤ length w
  pub node_in : node < nodes_for cells
  pub marks_long : nodes_for cells ≤ length marks
  pub keys_long : cells ≤ length keys
  pub low : (j : ℕ) → get_or marks j 0 ≤ 1
  pub room : m ≤ cells
