-- How many cells stay: those whose life goes on at the minute and that are not the one with the identifier.
use Rattle.std.specs.Prelude.{List, ℕ, ◌≤◌, ◌<◌, ℤ, length, drop}
use Rattle.node.specs.Entry.{Entry, cell_of}
use Rattle.table.specs.Header.{capacity, greatest_capacity, nodes_for, entries_at}
use Rattle.table.specs.SoundTree.{leaves_of, TreeSound}
use Rattle.tree_laws.specs.Inner.Weights.{weight_in}
use Rattle.tree_nodes.specs.Inner.Kept.{Ample}
use Rattle.tree_laws.specs.Laws.Goes.{dec_goes}

abbrev pub one_unless : {P : Type 0} → Dec P → ℕ
one_unless (yes p) = 0
one_unless (no n) = 1

-- 1 for an entry whose cell stays
unfoldable pub stays : ℤ → ℤ → Entry → ℕ
stays minute id e = one_unless (dec_goes minute id (cell_of e))

-- ---- what the walk needs and counts
-- a node of the table, sound at some clock, with few cells below it
pub record CanCount (w : List ℤ) (h i : ℕ) : Type 0 where
  pub ample : Ample w
  pub node_in : i < nodes_for (capacity w)
  pub clock : ℤ
  pub sound : TreeSound (entries_at w) (capacity w) clock h i
  pub few : length (leaves_of (entries_at w) h i) ≤ greatest_capacity

-- how many stay below the entries from place k of node i on
abbrev pub stay_from : List ℤ → ℤ → ℤ → ℕ → ℕ → ℕ → ℕ
stay_from w minute id h i k = weight_in (stays minute id) (entries_at w) h (drop k (entries_at w i))
