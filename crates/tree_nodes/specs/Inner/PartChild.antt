-- The full child of a node parted: some of its entries go to a free node, and both are entered in the node.
use Rattle.std.specs.Prelude.{◌≡◌, List, [], ◌∷◌, ◌++◌, ℕ, suc, ◌≤◌, ◌<◌, ℤ, length, get_or, set}
use Rattle.words.specs.Layout.{full_node}
use Rattle.track.specs.Numbers.{IsMinute}
use Rattle.node.specs.Entry.{Entry, child_of}
use Rattle.table.specs.Header.{capacity, nodes_for, entries_at}
use Rattle.table.specs.SoundTree.{Nodes, is_leaf, TreeSound}
use Rattle.tree_laws.specs.Inner.Weights.{SameWeights, Once}
use Rattle.tree_laws.specs.Inner.Used.{Free}
use Rattle.tree_nodes.specs.Inner.EntryAfresh.{entry_above}
use Rattle.tree_nodes.specs.Inner.Kept.{Ample, Kept}

-- the child of entry k of node i
abbrev pub child_at : Nodes → ℕ → ℕ → ℕ
child_at N i k = child_of (get_or (N i) k [])

-- node i, which has h + 1 levels beneath it, has a full child at its place k and room for another entry; and there is a free node
pub record CanPartChild (w : List ℤ) (minute : ℤ) (h i k : ℕ) : Type 0 where
  pub ample : Ample w
  pub is_minute : IsMinute minute
  pub node_in : i < nodes_for (capacity w)
  pub once : Once (entries_at w) (suc h) i
  pub sound : TreeSound (entries_at w) (capacity w) minute (suc h) i
  pub has : k < length (entries_at w i)
  pub room : length (entries_at w i) < full_node
  pub full : length (entries_at w (child_at (entries_at w) i k)) ≡ full_node
  pub spare : (j : ℕ) × (j < nodes_for (capacity w)) × Free (entries_at w) j

-- a part of a full node: no less than a node has at least, and room for another entry
pub record Half (es : List Entry) : Type 0 where
  pub filled : 3 ≤ length es
  pub room : length es < full_node

-- what that leaves: the entries of node `full` are in it and in `node`, which was free, and both are worked out afresh
pub record PartedChild (w : List ℤ) (minute : ℤ) (h i k full node : ℕ) (v : List ℤ) : Type 0 where
  pub free : Free (entries_at w) node
  pub low : node < nodes_for (capacity w)
  pub kept : Kept (capacity w) w v
  pub entries : entries_at v i ≡ set (entries_at w i) k (entry_above (entries_at v) (is_leaf h) minute full) ++ entry_above (entries_at v) (is_leaf h) minute node ∷ []
  pub parted : SameWeights (entries_at w full) (entries_at v full ++ entries_at v node)
  pub stay : Half (entries_at v full)
  pub go : Half (entries_at v node)
  pub other : (j : ℕ) → (j ≡ i → ⊥) → (j ≡ full → ⊥) → (j ≡ node → ⊥) → entries_at v j ≡ entries_at w j

-- some free node was taken
pub record Parted (w : List ℤ) (minute : ℤ) (h i k : ℕ) (v : List ℤ) : Type 0 where
  pub full : ℕ
  pub node : ℕ
  pub child_is : full ≡ child_at (entries_at w) i k
  pub child : PartedChild w minute h i k full node v
