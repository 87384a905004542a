-- A cell put in below the root, which has grown first where it was full.
use Rattle.std.specs.Prelude.{◌≡◌, List, [], ◌∷◌, ◌<◌, ℤ, length}
use Rattle.std.proofs.Common.{ap, not-suc-le-zero, arith}
use Rattle.words.specs.Layout.{full_node}
use Rattle.words.specs.Words.{nat_of}
use Rattle.node.specs.Entry.{Entry}
use Rattle.table.specs.Header.{capacity, root, height, entries_at}
use Rattle.tree_laws.specs.Laws.Weights.{same_refl, same_trans, same_length, same_append}
use Rattle.tree_laws.specs.Laws.Moved.{moved-put}
use Rattle.tree_laws.specs.Laws.Wholeness.{whole_mended}
use Rattle.tree_laws.specs.Laws.Enter.{enter_root}
use Rattle.tree_nodes.specs.Inner.Way.{CanPutIn}
use Rattle.tree_nodes.specs.Inner.Puts.{Puts}
use Rattle.tree.specs.Inner.Holding.{leaves, Holding, Stands}
use Rattle.tree.specs.Laws.Holding.{stands_then, stands_capacity, stands_ample, kept_stands}
use Rattle.tree.specs.Inner.Grow.{Grown}
use Rattle.tree.specs.Inner.PutCell.{HasRoom, PutCell}

-- the root is entered where it has room
pub can_put : {w : List ℤ} {minute : ℤ} → HasRoom w minute → length (entries_at w (root w)) < full_node → CanPutIn w minute (height w) (root w)
can_put {w} can room = record {
  ample = can.holding.ample;
  is_minute = can.holding.is_minute;
  node_in = can.holding.whole.root_in;
  enter = enter_root can.holding.whole can.few can.holding.root_filled;
  room = room;
  inner = λ some. omega (arith, can.holding.root_filled some);
}

pub put_cell : {w : List ℤ} {minute : ℤ} {x : Entry} {v : List ℤ} → Holding w minute → Puts w minute (height w) (root w) x v → PutCell w minute x v
put_cell {w} {minute} {x} {v} h p = record {
  holding = record {
    ample = stands_ample stands h.ample;
    is_minute = h.is_minute;
    root_in = rw (stands_capacity stands, p.kept.same_header 2 (omega arith)) h.root_in;
    height_in = rw (p.kept.same_header 3 (omega arith)) h.height_in;
    whole = rw (stands_capacity stands, root_same, height_same) (whole_mended h.whole p.put.mended (λ j none. absurd (not-suc-le-zero none)));
    root_filled = λ inner. rw root_same (omega (arith, p.put.no_fewer, h.root_filled (rw height_same at inner)));
  };
  stands = stands;
  one_more = rw (root_same, height_same) (moved-put p.put.mended.moved);
  renews = rw (root_same, height_same) p.put.mended.renews;
}
  where
    stands : Stands (capacity w) w v
    stands = kept_stands p.kept

    root_same : root v ≡ root w
    root_same = ap nat_of (p.kept.same_header 2 (omega arith))

    height_same : height v ≡ height w
    height_same = ap nat_of (p.kept.same_header 3 (omega arith))

-- after the root has grown there is room still, and what is put in then is put in over all
module _ {w : List ℤ} {minute : ℤ} {v : List ℤ} (g : Grown w minute v) where
  pub grown_room : length (leaves w) < capacity w → HasRoom v minute
  grown_room few = record { holding = g.holding; few = rw (stands_capacity g.stands) (omega (arith, same_length g.same_leaves)) }

  pub put_grown : {x : Entry} {u : List ℤ} → PutCell v minute x u → PutCell w minute x u
  put_grown {x} p = record {
    holding = p.holding;
    stands = stands_then g.stands (rw (stands_capacity g.stands) at p.stands);
    one_more = same_trans p.one_more (same_append {l = x ∷ []} same_refl g.same_leaves);
    renews = λ S new all. p.renews S new (g.renews S new all);
  }
