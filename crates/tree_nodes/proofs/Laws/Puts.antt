-- How an entry is put in below a node: into a leaf, and below a child, whose entry is worked out afresh.
use Rattle.std.specs.Prelude.{◌≡◌, List, [], ◌∷◌, ◌++◌, ℕ, zero, suc, ◌≤◌, ◌<◌, ℤ, length, get_or, set}
use Rattle.std.proofs.Common.{sym, ◌∙◌, arith}
use Rattle.track.specs.Life.{CellInRange}
use Rattle.node.specs.Entry.{Entry, cell_of}
use Rattle.node.specs.Inner.ChangeAt.{Changed}
use Rattle.node.specs.Inner.Made.{InRangeAt}
use Rattle.table.specs.Header.{capacity, nodes_for, entries_at}
use Rattle.table.specs.SoundTree.{is_leaf}
use Rattle.tree_laws.specs.Inner.Weights.{SameWeights}
use Rattle.tree_laws.specs.Laws.Weights.{same_as, same_trans, same_length, sound_has, sound_head}
use Rattle.node.specs.Inner.Change.{without}
use Rattle.tree_laws.specs.Laws.Places.{at_weights, set_weights, append_weights}
use Rattle.tree_laws.specs.Laws.Moved.{down_node}
use Rattle.tree_laws.specs.Laws.Used.{free_unmet, sound_used}
use Rattle.tree_nodes.specs.Inner.EntryAfresh.{entry_above, CanRefresh}
use Rattle.tree_nodes.specs.Laws.EntryAfresh.{child_above, above_same, above_afresh, sound_in_range}
use Rattle.tree_nodes.specs.Laws.Kept.{ample_in, ample_low, kept_then, kept-capacity, kept_ample, changed_kept, changed_here, changed_others}
use Rattle.tree_laws.specs.Inner.PutIn.{PutIn}
use Rattle.tree_laws.specs.Laws.PutIn.{put_leaf, put_below}
use Rattle.tree_laws.specs.Laws.Enter.{enter_child}
use Rattle.tree_nodes.specs.Inner.PartChild.{child_at}
use Rattle.tree_nodes.specs.Laws.PartChild.{child_low, child_apart}
use Rattle.tree_nodes.specs.Inner.Way.{CanPutIn, Way}
use Rattle.tree_nodes.specs.Inner.Puts.{Puts}

pub puts_leaf : {w : List ℤ} {minute : ℤ} {i : ℕ} {x : Entry} {v : List ℤ} → CanPutIn w minute zero i → CellInRange (cell_of x) → Changed w i (entries_at w i ++ x ∷ []) v
    → Puts w minute zero i x v
puts_leaf {w} {minute} {i} {x} {v} can in_range changed = record {
  kept = changed_kept changed can.node_in;
  put = put_leaf (capacity w) minute (entries_at w) (entries_at v) i can.enter.once can.enter.sound in_range
      (same_trans (same_as (changed_here changed)) (append_weights (entries_at w i) x)) (changed_others changed);
}

module _ {w : List ℤ} {minute : ℤ} {h i k : ℕ} {v : List ℤ} (can : CanPutIn w minute (suc h) i) (way : Way w minute h i k v) {child : ℕ} (is : child ≡ child_at (entries_at v) i k) where
  same_cells : capacity v ≡ capacity w
  same_cells = kept-capacity way.kept

  has : SameWeights (entries_at v i) (get_or (entries_at v i) k [] ∷ without k (entries_at v i))
  has = at_weights (entries_at v i) k [] way.has

  pub low : child < nodes_for (capacity w)
  low = rw is (child_low (entries_at v) (capacity w) minute h i k way.enter.sound way.has)

  apart : child ≡ i → ⊥
  apart e = child_apart (entries_at v) (capacity w) minute h i k way.enter.sound way.has way.enter.once (sym is ∙ e)

  -- the child is entered
  pub can_below : CanPutIn v minute h child
  can_below = record {
    ample = kept_ample way.kept can.ample;
    is_minute = can.is_minute;
    node_in = rw same_cells low;
    enter = rw (same_cells, is) (enter_child way.enter has);
    room = rw is way.room;
    inner = λ some. rw is (omega (arith, filled));
  }
    where
      filled : 3 ≤ length (entries_at v (child_at (entries_at v) i k))
      filled = (sound_head (entries_at v) (capacity w) minute h (get_or (entries_at v i) k []) (without k (entries_at v i)) (sound_has (entries_at v) (capacity w) minute (suc h) i has way.enter.sound)).0.filled

  module _ {x : Entry} {u : List ℤ} (done : Puts v minute h child x u) where
    put : PutIn (capacity w) minute (entries_at v) (entries_at u) h (child_at (entries_at v) i k) x
    put = rw (same_cells, is) at done.put

    -- node i has its entries still
    node_same : entries_at u i ≡ entries_at v i
    node_same =
        let used = sound_used (entries_at v) (capacity w) minute (suc h) i way.enter.sound (omega (arith, same_length has)) in
        down_node i has way.enter.once (λ j some. free_unmet (entries_at v) (suc h) i j used (put.were_free j some)) put.mended.moved

    pub can_refresh : CanRefresh u i k child
    can_refresh =
        let kept = kept_then way.kept (rw same_cells at done.kept) in
        record {
          in_table = rw kept.same_length (ample_in can.ample i can.node_in);
          low = rw node_same way.has;
          child_in_table = rw kept.same_length (ample_in can.ample child low);
          child_low = ample_low can.ample child low;
        }

    pub child_in_range : InRangeAt (is_leaf h) minute (entries_at u child)
    child_in_range = sound_in_range (entries_at u) (capacity v) minute h child can.is_minute done.put.mended.sound

    pub puts_below : {z : List ℤ} → Changed u i (set (entries_at u i) k (entry_above (entries_at u) (is_leaf h) minute child)) z → Puts w minute (suc h) i x z
    puts_below {z} changed =
        let e = entry_above (entries_at u) (is_leaf h) minute child in
        let has' : SameWeights (entries_at z i) (e ∷ without k (entries_at v i)) = rw (changed_here changed, node_same) (set_weights (entries_at v i) k e way.has) in
        let beside : entries_at z child ≡ entries_at u child = changed_others changed child apart in
        record {
          kept = kept_then way.kept (kept_then (rw same_cells at done.kept) (changed_kept changed can.node_in));
          put = way.over_all (entries_at z) x
              (put_below (capacity w) minute (entries_at v) (entries_at z) h i has way.enter.once way.enter.sound put
              has'
              (child_above (entries_at u) (is_leaf h) minute child ∙ is)
              (changed_others changed)
              (λ filled. rw (← above_same (entries_at u) (entries_at z) (is_leaf h) minute child beside)
              (above_afresh (entries_at z) (capacity w) minute h child can.is_minute low (rw beside (rw (← is) at filled)))));
        }
