-- The marked entries of a full node moved to a free one.
use Rattle.std.specs.Prelude.{◌≡◌, Bool, List, ℕ, ◌<◌, ℤ, length}
use Rattle.words.specs.Layout.{full_node}
use Rattle.tree_choice.specs.Parting.{Parts}
use Rattle.table.specs.Header.{capacity, nodes_for, entries_at}
use Rattle.tree_laws.specs.Inner.Used.{Free}
use Rattle.tree_nodes.specs.Inner.Kept.{Ample}

-- a full node and a free one of the table, and marks that part the entries
pub record CanPart (w : List ℤ) (from to : ℕ) (marks : List Bool) : Type 0 where
  pub ample : Ample w
  pub from_in : from < nodes_for (capacity w)
  pub to_in : to < nodes_for (capacity w)
  pub full : length (entries_at w from) ≡ full_node
  pub free : Free (entries_at w) to
  pub parts : Parts marks
