-- A node's words changed.
use Rattle.std.specs.Prelude.{◌≡◌, List, ◌++◌, ℕ, ◌+◌, ℤ, length, take, drop}
use Rattle.words.specs.Layout.{node_words}
use Rattle.node.specs.Entry.{Entry, entry_count_word, IsCount, entries_of}

-- l without what stands at place k
abbrev pub without : {A : Type 0} → ℕ → List A → List A
without k l = take k l ++ drop (k + 1) l

-- the words n of a node have become n', with the entries es
pub record NodeChanged (n : List ℤ) (es : List Entry) (n' : List ℤ) : Type 0 where
  pub whole : length n' ≡ node_words
  pub entries : entries_of n' ≡ es
  pub still_counted : IsCount (entry_count_word n) → IsCount (entry_count_word n')
