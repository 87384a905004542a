-- What every change of a tree keeps of the table's words: how many they are, the header, those past the table's need; and counts stay counts.
use Rattle.std.specs.Prelude.{◌≡◌, List, ℕ, ◌≤◌, ◌<◌, ℤ, length}
use Rattle.words.specs.Layout.{header, node_at}
use Rattle.words.specs.Words.{word_at}
use Rattle.node.specs.Entry.{entry_count_word, IsCount}
use Rattle.table.specs.Header.{capacity, greatest_capacity, nodes_for, words_for}

-- each node of a table of so many cells has a count
abbrev pub AllCounted : ℕ → List ℤ → Type 0
AllCounted cells w = (i : ℕ) → i < nodes_for cells → IsCount (entry_count_word (node_at w i))

pub record Kept (cells : ℕ) (w w' : List ℤ) : Type 0 where
  pub same_length : length w' ≡ length w
  pub same_header : (at : ℕ) → at < header → word_at w' at ≡ word_at w at
  pub same_rest : (at : ℕ) → words_for cells ≤ at → word_at w' at ≡ word_at w at
  pub still_counted : AllCounted cells w → AllCounted cells w'

-- ---- words enough for their capacity, which is not too great
pub record Ample (w : List ℤ) : Type 0 where
  pub few : capacity w ≤ greatest_capacity
  pub long : words_for (capacity w) ≤ length w
