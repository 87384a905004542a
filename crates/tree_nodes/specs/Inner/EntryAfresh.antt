-- The entry above a node, worked out afresh at the clock.
use Rattle.std.specs.Prelude.{Bool, List, ℕ, ◌^◌, ◌<◌, ℤ, length}
use Rattle.words.specs.Layout.{InTable}
use Rattle.node.specs.Entry.{Entry}
use Rattle.node.specs.Inner.Made.{worked_out_bounds, inner_entry}
use Rattle.node.specs.WorkedOut.{latest_of}
use Rattle.table.specs.Header.{entries_at}
use Rattle.table.specs.SoundTree.{Nodes}

unfoldable pub entry_above : Nodes → Bool → ℤ → ℕ → Entry
entry_above N leaf minute child = inner_entry child (worked_out_bounds leaf minute (N child)) (latest_of leaf (N child)) minute

-- node i has an entry k, and the child is a node of the table
pub record CanRefresh (w : List ℤ) (i k child : ℕ) : Type 0 where
  pub in_table : InTable w i
  pub low : k < length (entries_at w i)
  pub child_in_table : InTable w child
  pub child_low : child < 2 ^ 31
