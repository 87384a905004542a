-- The way down that a new entry takes: a child of the node that is entered, parted first where it is full.
use Rattle.std.specs.Prelude.{List, ℕ, suc, ◌<◌, ℤ, length}
use Rattle.words.specs.Layout.{full_node}
use Rattle.track.specs.Numbers.{IsMinute}
use Rattle.node.specs.Entry.{Entry}
use Rattle.table.specs.Header.{capacity, nodes_for, entries_at}
use Rattle.table.specs.SoundTree.{Nodes}
use Rattle.tree_nodes.specs.Inner.Kept.{Ample, Kept}
use Rattle.tree_laws.specs.Inner.PutIn.{PutIn}
use Rattle.tree_laws.specs.Inner.Enter.{Enter}
use Rattle.tree_nodes.specs.Inner.PartChild.{child_at}

-- node i, which has h levels beneath it, is entered with a new entry and has room for one
pub record CanPutIn (w : List ℤ) (minute : ℤ) (h i : ℕ) : Type 0 where
  pub ample : Ample w
  pub is_minute : IsMinute minute
  pub node_in : i < nodes_for (capacity w)
  pub enter : Enter (capacity w) minute (entries_at w) h i
  pub room : length (entries_at w i) < full_node
  pub inner : 0 < h → 0 < length (entries_at w i)

-- the table has become v, in which the child at place k of node i has room. What is put in below i then is put in over all
pub record Way (w : List ℤ) (minute : ℤ) (h i k : ℕ) (v : List ℤ) : Type 0 where
  pub kept : Kept (capacity w) w v
  pub enter : Enter (capacity w) minute (entries_at v) (suc h) i
  pub has : k < length (entries_at v i)
  pub room : length (entries_at v (child_at (entries_at v) i k)) < full_node
  pub over_all : (N : Nodes) (x : Entry) → PutIn (capacity w) minute (entries_at v) N (suc h) i x → PutIn (capacity w) minute (entries_at w) N (suc h) i x
