-- A table while a call at a minute changes its tree, and what stands of its words through every change.
use Rattle.std.specs.Prelude.{◌≡◌, List, ℕ, ◌≤◌, ◌<◌, ℤ, pos, length, ◌≤ℤ◌}
use Rattle.words.specs.Words.{word_at}
use Rattle.track.specs.Numbers.{IsMinute}
use Rattle.node.specs.Entry.{Entry}
use Rattle.table.specs.Header.{capacity_word, capacity, root_word, root, height_word, height, words_for, IsNode, entries_at}
use Rattle.table.specs.SoundTree.{leaves_of}
use Rattle.tree_laws.specs.Inner.InnerEntries.{Renews}
use Rattle.tree_nodes.specs.Inner.Kept.{AllCounted, Ample}
use Rattle.tree_laws.specs.Inner.Wholeness.{Whole}

-- the entries of the leaves below the root
abbrev pub leaves : List ℤ → List Entry
leaves w = leaves_of (entries_at w) (height w) (root w)

-- all that soundness asks of the tree, at the minute in place of the clock
pub record Holding (w : List ℤ) (minute : ℤ) : Type 0 where
  pub ample : Ample w
  pub is_minute : IsMinute minute
  pub root_in : IsNode (capacity w) (root_word w)
  pub height_in : pos 0 ≤ℤ height_word w
  pub whole : Whole (capacity w) minute (entries_at w) (height w) (root w)
  pub root_filled : 0 < height w → 2 ≤ length (entries_at w (root w))

-- what has become of the inner entries: those that are not stamped at the minute stood there before
abbrev pub RenewsAll : ℤ → List ℤ → List ℤ → Type 0
RenewsAll minute w v = Renews minute (entries_at w) (height w) (root w) (entries_at v) (height v) (root v)

pub record Stands (cells : ℕ) (w v : List ℤ) : Type 0 where
  pub same_length : length v ≡ length w
  pub same_capacity : capacity_word v ≡ capacity_word w
  pub same_rest : (at : ℕ) → words_for cells ≤ at → word_at v at ≡ word_at w at
  pub still_counted : AllCounted cells w → AllCounted cells v
