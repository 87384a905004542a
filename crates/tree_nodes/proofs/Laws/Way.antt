-- The way down: a child that is not full is taken as it is, a full one is parted first.
use Rattle.std.specs.Prelude.{◌≡◌, ◌⊎◌, List, [], ℕ, suc, ◌-◌, ◌<◌, ℤ, length}
use Rattle.std.proofs.Common.{⊎_elim, arith}
use Rattle.words.specs.Layout.{full_node}
use Rattle.table.specs.Header.{capacity, entries_at}
use Rattle.tree_laws.specs.Laws.Places.{at_weights}
use Rattle.tree_nodes.specs.Laws.Kept.{kept_all}
use Rattle.tree_laws.specs.Laws.Enter.{enter_free, enter_split, put_split}
use Rattle.tree_nodes.specs.Inner.PartChild.{child_at, CanPartChild, Parted}
use Rattle.tree_nodes.proofs.Laws.PartedTree.{news, child_kept, child_new, two, others, afresh_stay, afresh_go, many, first, last}
use Rattle.tree_nodes.specs.Inner.Way.{CanPutIn, Way}

module _ {w : List ℤ} {minute : ℤ} {h i : ℕ} (can : CanPutIn w minute (suc h) i) where
  -- a child with room is entered as it is
  pub way_straight : {k : ℕ} → k < length (entries_at w i) → length (entries_at w (child_at (entries_at w) i k)) < full_node → Way w minute h i k w
  way_straight has room = record { kept = kept_all (capacity w) w; enter = can.enter; has = has; room = room; over_all = λ N x p. p }

  -- a full one is parted
  pub can_part_child : {k : ℕ} → k < length (entries_at w i) → length (entries_at w (child_at (entries_at w) i k)) ≡ full_node → CanPartChild w minute h i k
  can_part_child has full = record {
    ample = can.ample;
    is_minute = can.is_minute;
    node_in = can.node_in;
    once = can.enter.once;
    sound = can.enter.sound;
    has = has;
    room = can.room;
    full = full;
    spare = enter_free can.enter;
  }

  -- either part is entered
  pub way_parted : {k r : ℕ} {v : List ℤ} → k < length (entries_at w i) → Parted w minute h i k v → (r ≡ k) ⊎ (r ≡ length (entries_at v i) - 1) → Way w minute h i r v
  way_parted {k} {r} {v} has p chosen = record {
    kept = p.child.kept;
    enter =
        enter_split can.enter (at_weights (entries_at w i) k [] has) p.node p.child.free p.child.low
        (news can.is_minute can.enter.sound has p) (child_kept can.is_minute can.enter.sound has p) (child_new can.is_minute can.enter.sound has p) (two can.is_minute can.enter.sound has p) (others can.is_minute can.enter.sound has p) (afresh_stay can.is_minute can.enter.sound has p) (afresh_go can.is_minute can.enter.sound has p);
    has = ⊎_elim (λ (e : r ≡ k). omega (arith, many can.is_minute can.enter.sound has p)) (λ (e : r ≡ length (entries_at v i) - 1). omega (arith, many can.is_minute can.enter.sound has p)) chosen;
    room =
        ⊎_elim
        (λ (e : r ≡ k). rw (e, first can.is_minute can.enter.sound has p) p.child.stay.room)
        (λ (e : r ≡ length (entries_at v i) - 1). rw (e, last can.is_minute can.enter.sound has p) p.child.go.room)
        chosen;
    over_all = λ N x q.
        put_split can.enter (at_weights (entries_at w i) k [] has) p.node p.child.free p.child.low
        (news can.is_minute can.enter.sound has p) (child_kept can.is_minute can.enter.sound has p) (child_new can.is_minute can.enter.sound has p) (two can.is_minute can.enter.sound has p) (others can.is_minute can.enter.sound has p) (afresh_stay can.is_minute can.enter.sound has p) (afresh_go can.is_minute can.enter.sound has p) q;
  }
