-- A cell that goes, taken out below a node: the first one from a place on.
use Rattle.std.specs.Prelude.{◌≡◌, Bool, true, false, List, ℕ, ◌≤◌, ◌<◌, ℤ, length, drop}
use Rattle.whole.specs.Lists.{◌∈◌}
use Rattle.track.specs.Numbers.{IsMinute}
use Rattle.node.specs.Entry.{Entry, cell_of}
use Rattle.table.specs.Header.{capacity, nodes_for, entries_at}
use Rattle.table.specs.SoundTree.{Nodes, TreeSound}
use Rattle.table.specs.Inner.Scan.{leaves_in}
use Rattle.tree_laws.specs.Inner.Weights.{Once}
use Rattle.tree_laws.specs.Inner.TakeOut.{TakeOut}
use Rattle.tree_nodes.specs.Inner.Kept.{Ample, Kept}
use Rattle.tree_laws.specs.Inner.Goes.{Goes}

-- a sound node of the table, with two entries at least unless it is a leaf
pub record CanTake (w : List ℤ) (minute : ℤ) (h i : ℕ) : Type 0 where
  pub ample : Ample w
  pub is_minute : IsMinute minute
  pub node_in : i < nodes_for (capacity w)
  pub once : Once (entries_at w) h i
  pub sound : TreeSound (entries_at w) (capacity w) minute h i
  pub inner : 0 < h → 2 ≤ length (entries_at w i)

-- one that goes has been taken out
pub record Taken (w : List ℤ) (minute id : ℤ) (h i : ℕ) (v : List ℤ) : Type 0 where
  pub entry : Entry
  pub goes : Goes minute id (cell_of entry)
  pub kept : Kept (capacity w) w v
  pub out : TakeOut (capacity w) minute (entries_at w) (entries_at v) h i entry

-- none below these entries goes
abbrev pub NoneGoes : Nodes → ℤ → ℤ → ℕ → List Entry → Type 0
NoneGoes N minute id h es = (x : Entry) → x ∈ leaves_in N h es → Goes minute id (cell_of x) → ⊥

-- r tells whether one was found from entry k of node i on; where none is, nothing has changed
pub record Takes (w : List ℤ) (minute id : ℤ) (h i k : ℕ) (r : Bool) (v : List ℤ) : Type 0 where
  pub none : r ≡ false → (v ≡ w) × NoneGoes (entries_at w) minute id h (drop k (entries_at w i))
  pub one : r ≡ true → Taken w minute id h i v
