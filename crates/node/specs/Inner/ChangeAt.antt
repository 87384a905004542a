-- A table in which one node is changed: what that node has then, and that all else is as it was.
use Rattle.std.specs.Prelude.{◌≡◌, List, ℕ, ◌+◌, ◌≤◌, ◌<◌, ℤ, length}
use Rattle.words.specs.Layout.{header, node_words, node_start, node_at}
use Rattle.words.specs.Words.{word_at}
use Rattle.node.specs.Entry.{Entry, entry_count_word, IsCount, entries_of}

-- the table w has become w', in which node i has the entries es
pub record Changed (w : List ℤ) (i : ℕ) (es : List Entry) (w' : List ℤ) : Type 0 where
  pub entries : entries_of (node_at w' i) ≡ es
  pub still_counted : IsCount (entry_count_word (node_at w i)) → IsCount (entry_count_word (node_at w' i))
  pub others : (j : ℕ) → (j ≡ i → ⊥) → node_at w' j ≡ node_at w j
  pub before : (at : ℕ) → at < header → word_at w' at ≡ word_at w at
  pub behind : (at : ℕ) → node_start i + node_words ≤ at → word_at w' at ≡ word_at w at
  pub same_length : length w' ≡ length w
