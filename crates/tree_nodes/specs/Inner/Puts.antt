-- An entry put in below a node: into a leaf, and below a child, whose entry is worked out afresh.
use Rattle.std.specs.Prelude.{List, ℕ, ℤ}
use Rattle.node.specs.Entry.{Entry}
use Rattle.table.specs.Header.{capacity, entries_at}
use Rattle.tree_nodes.specs.Inner.Kept.{Kept}
use Rattle.tree_laws.specs.Inner.PutIn.{PutIn}

-- the entry x has been put in below node i, which has h levels beneath it
pub record Puts (w : List ℤ) (minute : ℤ) (h i : ℕ) (x : Entry) (v : List ℤ) : Type 0 where
  pub kept : Kept (capacity w) w v
  pub put : PutIn (capacity w) minute (entries_at w) (entries_at v) h i x
