-- A walk down a sound tree: what it needs at a node that has h levels beneath it.
use Rattle.std.specs.Prelude.{List, ℕ, ◌≤◌, ℤ, length}
use Rattle.words.specs.Layout.{InTable}
use Rattle.table.specs.Header.{capacity, clock, words_for, entries_at}
use Rattle.table.specs.SoundTree.{TreeSound}

pub record CanWalk (w : List ℤ) (h i : ℕ) : Type 0 where
  pub long_enough : words_for (capacity w) ≤ length w
  pub in_table : InTable w i
  pub tree : TreeSound (entries_at w) (capacity w) (clock w) h i
