-- The cells that go cleared out of a table.
use Rattle.std.specs.Prelude.{◌≡◌, Bool, true, false, List, ◌++◌, ◌<◌, ℤ, length}
use Rattle.whole.specs.Lists.{◌∈◌}
use Rattle.node.specs.Entry.{Entry, cell_of}
use Rattle.table.specs.Header.{capacity}
use Rattle.tree_laws.specs.Inner.Weights.{SameWeights}
use Rattle.tree.specs.Inner.Holding.{leaves, Holding, RenewsAll, Stands}
use Rattle.tree_laws.specs.Inner.Goes.{Goes}

-- none of the leaves' entries goes
abbrev pub AllStay : List ℤ → ℤ → ℤ → Type 0
AllStay w minute id = (x : Entry) → x ∈ leaves w → Goes minute id (cell_of x) → ⊥

-- some that go have been taken out
pub record Clearing (w : List ℤ) (minute id : ℤ) (v : List ℤ) : Type 0 where
  pub holding : Holding v minute
  pub stands : Stands (capacity w) w v
  pub gone : List Entry
  pub all_go : (x : Entry) → x ∈ gone → Goes minute id (cell_of x)
  pub parted : SameWeights (leaves w) (gone ++ leaves v)
  pub renews : RenewsAll minute w v

-- all that go
pub record Cleared (w : List ℤ) (minute id : ℤ) (v : List ℤ) : Type 0 where
  pub clearing : Clearing w minute id v
  pub all_stay : AllStay v minute id

-- one that goes, if there is any: r tells it
pub record ClearsOne (w : List ℤ) (minute id : ℤ) (r : Bool) (v : List ℤ) : Type 0 where
  pub none : r ≡ false → (v ≡ w) × AllStay w minute id
  pub one : r ≡ true → Clearing w minute id v × (length (leaves v) < length (leaves w))
