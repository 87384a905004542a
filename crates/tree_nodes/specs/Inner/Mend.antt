-- Below the child of a node an entry was taken out, and the node is mended: what that needs, and what it gives.
use Rattle.std.specs.Prelude.{◌≡◌, List, [], ◌∷◌, ℕ, suc, ◌≤◌, ◌<◌, ℤ, length, get_or}
use Rattle.track.specs.Numbers.{IsMinute}
use Rattle.node.specs.Entry.{Entry}
use Rattle.table.specs.Header.{capacity, nodes_for, entries_at}
use Rattle.table.specs.SoundTree.{Nodes, TreeSound}
use Rattle.table.specs.Inner.Scan.{SoundIn}
use Rattle.tree_laws.specs.Inner.Weights.{SameWeights, Once}
use Rattle.node.specs.Inner.Change.{without}
use Rattle.tree_nodes.specs.Inner.Kept.{Ample, Kept}
use Rattle.tree_laws.specs.Inner.TakeOut.{TakeOut}
use Rattle.tree_nodes.specs.Inner.PartChild.{child_at}

-- node i has h + 1 levels beneath it. All below it is sound, but that its entry k may be stale and that entry's child may have one entry too few
pub record CanMend (w : List ℤ) (minute : ℤ) (h i k : ℕ) : Type 0 where
  pub ample : Ample w
  pub is_minute : IsMinute minute
  pub node_in : i < nodes_for (capacity w)
  pub once : Once (entries_at w) (suc h) i
  pub has : k < length (entries_at w i)
  pub two : 2 ≤ length (entries_at w i)
  pub child_in : child_at (entries_at w) i k < nodes_for (capacity w)
  pub child_sound : TreeSound (entries_at w) (capacity w) minute h (child_at (entries_at w) i k)
  pub child_left : 2 ≤ length (entries_at w (child_at (entries_at w) i k))
  pub rest_sound : SoundIn (entries_at w) (capacity w) minute (suc h) (without k (entries_at w i))

-- what was taken out below the child is taken out below the node
pub record Mends (w : List ℤ) (minute : ℤ) (h i k : ℕ) (v : List ℤ) : Type 0 where
  pub kept : Kept (capacity w) w v
  pub out : (N : Nodes) (x : Entry) → SameWeights (N i) (get_or (entries_at w i) k [] ∷ without k (entries_at w i)) → Once N (suc h) i → TreeSound N (capacity w) minute (suc h) i
      → TakeOut (capacity w) minute N (entries_at w) h (child_at (entries_at w) i k) x → TakeOut (capacity w) minute N (entries_at v) (suc h) i x

-- r is another place than k, in any node that has the place k and another
pub record Beside (k r : ℕ) : Type 0 where
  pub other : r ≡ k → ⊥
  pub within : (n : ℕ) → k < n → 2 ≤ n → r < n

-- two places of a node: the child at the first has too few entries
pub record CanPair (w : List ℤ) (minute : ℤ) (h i k b : ℕ) : Type 0 where
  pub can : CanMend w minute h i k
  pub b_has : b < length (entries_at w i)
  pub b_other : b ≡ k → ⊥
  pub few : length (entries_at w (child_at (entries_at w) i k)) < 3
