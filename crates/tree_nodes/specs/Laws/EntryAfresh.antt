-- The entry above a node, worked out afresh: its child, its range, and that it is sound.
use Rattle.std.specs.Prelude.{◌≡◌, Bool, List, ℕ, zero, suc, ◌≤◌, ◌<◌, ℤ, pos, length}
use Rattle.std.proofs.Math.Path.{ap}
use Rattle.std.proofs.Common.{arith, lt→ltb, le→leb}
use Rattle.words.specs.Layout.{node_at}
use Rattle.words.specs.Words.{nat_of}
use Rattle.track.specs.Numbers.{IsMinute}
use Rattle.node.specs.Entry.{child_of, entry_count}
use Rattle.node.specs.Laws.Entry.{length-entries_of}
use Rattle.node.specs.Inner.Made.{InRangeAt}
use Rattle.node.specs.Laws.Made.{cells_in_range, stamped_in_range, child_inner, stamp_inner, inner_worked_out}
use Rattle.table.specs.Header.{nodes_for, IsNode, entries_at}
use Rattle.table.specs.SoundTree.{Nodes, is_leaf, TreeSound}
use Rattle.table.specs.Laws.Edges.{edges_at}
use Rattle.tree_laws.specs.Laws.Regroup.{Afresh}
use Rattle.tree_nodes.specs.Inner.EntryAfresh.{entry_above, CanRefresh}

-- then k is below the count
pub refresh_low : {w : List ℤ} {i k child : ℕ} → CanRefresh w i k child → k < entry_count (node_at w i)
unfolding entries_at
refresh_low {w} {i} c = rw (← length-entries_of (node_at w i)) c.low

module _ (N : Nodes) (leaf : Bool) (minute : ℤ) (child : ℕ) where
  pub child_above : child_of (entry_above N leaf minute child) ≡ child
  unfolding entry_above nat_of
  child_above = ap nat_of (child_inner child _ _ _)

-- it looks at the entries of the child only
pub above_same : (N N' : Nodes) (leaf : Bool) (minute : ℤ) (child : ℕ) → N' child ≡ N child → entry_above N' leaf minute child ≡ entry_above N leaf minute child
unfolding entry_above
above_same N N' leaf minute child same = rw same

-- the entries of a sound node are in range at the clock
pub sound_in_range : (N : Nodes) (cells : ℕ) (clock : ℤ) (h i : ℕ) → IsMinute clock → TreeSound N cells clock h i → InRangeAt (is_leaf h) clock (N i)
unfolding TreeSound
sound_in_range N cells clock zero i is sound = cells_in_range clock sound
sound_in_range N cells clock (suc h) i is sound = stamped_in_range is (λ e m. (sound e m).0.stamped) (λ e m. edges_at N cells clock h i sound m)

-- the number of a node of the table, as a word
pub is_node_at : {cells n : ℕ} → n < nodes_for cells → IsNode cells (pos n)
is_node_at {cells} {n} low = record { from = record { le = le→leb 0 n (omega arith) }; to = record { lt = lt→ltb n (nodes_for cells) low } }

-- above a node of the table that is filled it is afresh
pub above_afresh : (N : Nodes) (cells : ℕ) (clock : ℤ) (h child : ℕ) → IsMinute clock → child < nodes_for cells → 3 ≤ length (N child) → Afresh N cells clock h (entry_above N (is_leaf h) clock child)
unfolding entry_above
above_afresh N cells clock h child is low filled =
    record {
      stamped = stamp_inner child _ _ clock;
      stamp_in = rw stamp_inner is;
      child_in = rw child_inner (is_node_at low);
      filled = rw (child_above N (is_leaf h) clock child) filled;
      worked_out = rw (child_above N (is_leaf h) clock child) (inner_worked_out (is_leaf h) child clock (N child));
    }
