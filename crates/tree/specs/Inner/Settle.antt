-- The root after a cell was taken out: an inner root with one entry gives way to its child.
use Rattle.std.specs.Prelude.{List, ◌≤◌, ◌<◌, ℤ, pos, length, ◌≤ℤ◌}
use Rattle.track.specs.Numbers.{IsMinute}
use Rattle.table.specs.Header.{capacity, root, root_word, height, height_word, IsNode, entries_at}
use Rattle.tree_laws.specs.Inner.Weights.{SameWeights}
use Rattle.tree_nodes.specs.Inner.Kept.{Ample}
use Rattle.tree_laws.specs.Inner.Wholeness.{Whole}
use Rattle.tree.specs.Inner.Holding.{leaves, Holding, RenewsAll, Stands}

-- as `Holding`, but that an inner root may have one entry only
pub record Loose (w : List ℤ) (minute : ℤ) : Type 0 where
  pub ample : Ample w
  pub is_minute : IsMinute minute
  pub root_in : IsNode (capacity w) (root_word w)
  pub height_in : pos 0 ≤ℤ height_word w
  pub whole : Whole (capacity w) minute (entries_at w) (height w) (root w)
  pub some : 0 < height w → 1 ≤ length (entries_at w (root w))

-- so it is at some minute
pub record IsLoose (w : List ℤ) : Type 0 where
  pub minute : ℤ
  pub loose : Loose w minute

pub record Settled (w : List ℤ) (minute : ℤ) (v : List ℤ) : Type 0 where
  pub holding : Holding v minute
  pub stands : Stands (capacity w) w v
  pub same_leaves : SameWeights (leaves v) (leaves w)
  pub renews : RenewsAll minute w v

-- at whatever minute it is
abbrev pub Settles : List ℤ → List ℤ → Type 0
Settles w v = (minute : ℤ) → Loose w minute → Settled w minute v
