-- Cells that go are cleared out one after the other, until none is left.
use Rattle.std.specs.Prelude.{◌≡◌, refl, Bool, true, false, List, [], ◌∷◌, ◌++◌, ◌<◌, ℤ, length}
use Rattle.std.proofs.Common.{sym, ap, subst, append_assoc, ⊎_elim, arith}
use mathlib.Core.List.Memᴰ
use Rattle.whole.specs.Laws.Tells.{true_not_false}
use Rattle.words.specs.Words.{nat_of}
use Rattle.node.specs.Entry.{Entry, cell_of}
use Rattle.table.specs.Header.{capacity, root, height, entries_at}
use Rattle.table.specs.Laws.Scan.{leaves_in_lem}
use Rattle.tree_laws.specs.Inner.Weights.{SameWeights}
use Rattle.tree_laws.specs.Laws.Weights.{same_refl, same_trans, same_sym, same_append, same_length}
use Rattle.tree_laws.specs.Laws.Moved.{moved_out}
use Rattle.tree_laws.specs.Laws.Wholeness.{whole_mended}
use Rattle.tree.specs.Inner.Holding.{leaves, Holding, RenewsAll, Stands}
use Rattle.tree.specs.Laws.Holding.{stands_all, stands_then, stands_capacity, stands_ample, kept_stands}
use Rattle.tree_laws.specs.Inner.Goes.{Goes}
use Rattle.tree_nodes.specs.Inner.Takes.{CanTake, Taken, Takes}
use Rattle.tree.specs.Inner.Settle.{Loose, Settled}
use Rattle.tree.specs.Inner.Clear.{AllStay, Clearing, ClearsOne}

pub clearing_none : {w : List ℤ} {minute id : ℤ} → Holding w minute → Clearing w minute id w
clearing_none {w} h = record { holding = h; stands = stands_all (capacity w) w; gone = []; all_go = λ x m. absurd (Memᴰ.not-nil m); parted = same_refl; renews = λ S new all. all }

pub clearing_then : {w v u : List ℤ} {minute id : ℤ} → Clearing w minute id v → Clearing v minute id u → Clearing w minute id u
clearing_then {u} a b = record {
  holding = b.holding;
  stands = stands_then a.stands (rw (stands_capacity a.stands) at b.stands);
  gone = a.gone ++ b.gone;
  all_go = λ x m. ⊎_elim (a.all_go x) (b.all_go x) (Memᴰ.append_cases a.gone m);
  parted = rw (append_assoc a.gone b.gone (leaves u)) (same_trans a.parted (same_append {l = a.gone} same_refl b.parted));
  renews = λ S new all. b.renews S new (a.renews S new all);
}

-- ---- from the root
pub can_take_root : {w : List ℤ} {minute : ℤ} → Holding w minute → CanTake w minute (height w) (root w)
can_take_root h = record { ample = h.ample; is_minute = h.is_minute; node_in = h.whole.root_in; once = h.whole.once; sound = h.whole.sound; inner = h.root_filled }

root_stays : {w : List ℤ} {minute id : ℤ} {v : List ℤ} → Takes w minute id (height w) (root w) 0 false v → (v ≡ w) × AllStay w minute id
root_stays {w} t = let n = t.none refl in (n.0, λ x m goes. n.1 x (rw (leaves_in_lem (entries_at w) (height w) (root w)) at m) goes)

pub clears_none : {w : List ℤ} {minute id : ℤ} {r : Bool} {v : List ℤ} → Takes w minute id (height w) (root w) 0 r v → r ≡ false → ClearsOne w minute id false v
clears_none {w} {minute} {id} {v} t none = record {
  none = λ e. root_stays (subst (λ (b : Bool). Takes w minute id (height w) (root w) 0 b v) none t);
  one = λ e. true_not_false (sym e);
}

pub clears_one : {w : List ℤ} {minute id : ℤ} {v : List ℤ} → Clearing w minute id v × (length (leaves v) < length (leaves w)) → ClearsOne w minute id true v
clears_one c = record { none = λ e. true_not_false e; one = λ e. c }

module _ {w : List ℤ} {minute id : ℤ} {v : List ℤ} (h : Holding w minute) (t : Taken w minute id (height w) (root w) v) where
  stands : Stands (capacity w) w v
  stands = kept_stands t.kept

  root_same : root v ≡ root w
  root_same = ap nat_of (t.kept.same_header 2 (omega arith))

  height_same : height v ≡ height w
  height_same = ap nat_of (t.kept.same_header 3 (omega arith))

  pub taken_loose : Loose v minute
  taken_loose = record {
    ample = stands_ample stands h.ample;
    is_minute = h.is_minute;
    root_in = rw (stands_capacity stands, t.kept.same_header 2 (omega arith)) h.root_in;
    height_in = rw (t.kept.same_header 3 (omega arith)) h.height_in;
    whole = rw (stands_capacity stands, root_same, height_same) (whole_mended h.whole t.out.mended t.out.are_free);
    some = λ inner. rw root_same (omega (arith, t.out.one_fewer, h.root_filled (rw height_same at inner)));
  }

  taken_leaves : SameWeights (leaves w) (t.entry ∷ leaves v)
  taken_leaves = rw (root_same, height_same) (moved_out t.out.mended.moved)

  taken_renews : RenewsAll minute w v
  taken_renews = rw (root_same, height_same) t.out.mended.renews

  pub cleared_one : {u : List ℤ} → Settled v minute u → Clearing w minute id u × (length (leaves u) < length (leaves w))
  cleared_one {u} s = (
    record {
      holding = s.holding;
      stands = stands_then stands (rw (stands_capacity stands) at s.stands);
      gone = t.entry ∷ [];
      all_go = λ x m. subst (λ (y : Entry). Goes minute id (cell_of y)) (sym (Memᴰ.eq_of_singleton m)) t.goes;
      parted = same_trans taken_leaves (same_append {l = t.entry ∷ []} same_refl (same_sym s.same_leaves));
      renews = λ S new all. s.renews S new (taken_renews S new all);
    },
    omega (arith, same_length taken_leaves, same_length s.same_leaves),
  )
