-- The numbers of a sound tree stay in range: at every minute from its stamp on an entry's edges are where a cell's can be, so its kept
-- edges lie within 2,311,840; and its greatest expiry is a minute.
use Rattle.std.specs.Prelude.{◌≡◌, Bool, true, false, List, [], ◌∷◌, map, ℤ, pos, nat_abs, length, ◌≤ℤ◌}
use Rattle.std.proofs.Common.{sym, subst, not-suc-le-zero, arith}
use mathlib.Core.List.Memᴰ
use Prim.Native.Nat.{ℕ, zero, suc, ◌≤◌}
use Rattle.std.specs.Int.Signed.{≤ℤ_refl}
use Rattle.whole.specs.Laws.Difference.{difs}
use Rattle.whole.specs.Lists.{◌∈◌}
use Rattle.whole.specs.Laws.Order.{≤ℤ_trans}
use Rattle.whole.specs.Laws.Within.{abs_positive}
use Rattle.track.specs.Numbers.{IsMinute}
use Rattle.track.specs.Inner.Small.{BoundsInRange}
use Rattle.track.proofs.Laws.Small.{cell_bounds_in}
use Rattle.track.specs.Laws.Hull.{Tight, hull_tight, greatest_in}
use Rattle.track.specs.Inner.HullRange.{RowInRangeAt, BoundsInRangeAt}
use Rattle.track.specs.Laws.HullRange.{row_later, row_at_zero, tight_in_range, cell_in_range}
use Rattle.node.specs.Entry.{Entry, cell_of, child_of, stamp_of, bounds_of, until_of}
use Rattle.node.specs.WorkedOut.{row_of, hull_on, latest_of, WorkedOut}
use Rattle.table.specs.SoundTree.{Nodes, EntrySound, TreeSound}

-- ---- one level: an entry worked out from others
hull_on_tight : (leaf : Bool) (axis : ℕ) (stamp : ℤ) (es : List Entry) → 3 ≤ length es → Tight stamp (hull_on leaf axis stamp es) (map (row_of leaf axis) es)
unfolding hull_on
hull_on_tight leaf axis stamp [] some = absurd (not-suc-le-zero some)
hull_on_tight leaf axis stamp (e ∷ es) some = hull_tight stamp _ _

latest_in : (leaf : Bool) (es : List Entry) → 3 ≤ length es → (f : Entry) × f ∈ es × (until_of leaf f ≡ latest_of leaf es)
unfolding latest_of
latest_in leaf [] some = absurd (not-suc-le-zero some)
latest_in leaf (e ∷ es) some = Memᴰ.of_map (until_of leaf) (e ∷ es) (greatest_in _ _)

-- a row worked out at a minute from rows that are in range then
hull_kept_in_range : (leaf : Bool) (axis : ℕ) {stamp : ℤ} {n : ℕ} (es : List Entry) → 3 ≤ length es → stamp ≡ pos n
    → ((f : Entry) → f ∈ es → RowInRangeAt n (row_of leaf axis f)) → RowInRangeAt n (hull_on leaf axis stamp es)
hull_kept_in_range leaf axis {stamp} {n} es some e each =
    rw e
    (tight_in_range (hull_on_tight leaf axis (pos n) es some)
    (λ s m. let f = Memᴰ.of_map (row_of leaf axis) es m in subst (RowInRangeAt n) f.2 (each f.0 f.1)))

pos_below : (m n : ℕ) → pos m ≤ℤ pos n → m ≤ n
pos_below m n = simp difs (omega arith)

-- the entry is in range from its stamp on, if its child's entries are
module _ {leaf : Bool} {e : Entry} {es : List Entry} (w : WorkedOut leaf e es) (some : 3 ≤ length es) where
  bounds_up : IsMinute (stamp_of e) → ((f : Entry) → f ∈ es → (m : ℕ) → stamp_of e ≤ℤ pos m → BoundsInRangeAt m (bounds_of leaf f))
      → (m : ℕ) → stamp_of e ≤ℤ pos m → BoundsInRangeAt m (bounds_of false e)
  bounds_up minute each m late =
      let n = nat_abs (stamp_of e) in
      let at_n : stamp_of e ≡ pos n = abs_positive (stamp_of e) minute.from in
      let now : stamp_of e ≤ℤ pos n = subst (λ (z : ℤ). stamp_of e ≤ℤ z) at_n (≤ℤ_refl (stamp_of e)) in
      let before = pos_below n m (subst (λ (z : ℤ). z ≤ℤ pos m) at_n late) in
      record {
        x_in = row_later before (subst (RowInRangeAt n) (sym w.on_x) (hull_kept_in_range leaf 0 es some at_n (λ f h. (each f h n now).x_in)));
        y_in = row_later before (subst (RowInRangeAt n) (sym w.on_y) (hull_kept_in_range leaf 1 es some at_n (λ f h. (each f h n now).y_in)));
      }

  until_up : ((f : Entry) → f ∈ es → IsMinute (until_of leaf f)) → IsMinute (until_of false e)
  until_up each = let f = latest_in leaf es some in rw w.until (subst IsMinute f.2 (each f.0 f.1))

-- ---- any number of levels
module _ (N : Nodes) (cells : ℕ) (clock : ℤ) where
  bounds_below : (h : ℕ) {e : Entry} → EntrySound N cells clock h e → TreeSound N cells clock h (child_of e) → (m : ℕ) → stamp_of e ≤ℤ pos m → BoundsInRangeAt m (bounds_of false e)
  unfolding TreeSound bounds_of
  bounds_below zero s tree = bounds_up s.worked_out s.filled s.stamp_in (λ f n m late. cell_in_range m (tree f n))
  bounds_below (suc h) s tree =
      bounds_up s.worked_out s.filled s.stamp_in
      (λ f n m late. let u = tree f n in bounds_below h u.0 u.1 m (≤ℤ_trans (s.not_before f n) late))

  until_below : (h : ℕ) {e : Entry} → EntrySound N cells clock h e → TreeSound N cells clock h (child_of e) → IsMinute (until_of false e)
  unfolding TreeSound until_of cell_of
  until_below zero s tree = until_up s.worked_out s.filled (λ f n. (tree f n).expiry_in)
  until_below (suc h) s tree = until_up s.worked_out s.filled (λ f n. let u = tree f n in until_below h u.0 u.1)

  module _ (h i : ℕ) {e : Entry} (tree : TreeSound N cells clock (suc h) i) (m : e ∈ N i) where
    -- at each whole minute from its stamp on an inner entry's edges lie within 837,280 + 512 m, and its velocities within 512
    pub edges_at : (m : ℕ) → stamp_of e ≤ℤ pos m → BoundsInRangeAt m (bounds_of false e)
    unfolding TreeSound
    edges_at = let u = tree e m in bounds_below h u.0 u.1

    -- its kept edges lie within 2,311,840
    pub edges_in : BoundsInRange (bounds_of false e)
    unfolding TreeSound
    edges_in =
        let b = edges_at 1440 (tree e m).0.stamp_in.to in
        record { x_in = row_at_zero (omega arith) b.x_in; y_in = row_at_zero (omega arith) b.y_in }

    -- the greatest expiry beneath it is a minute
    pub until_in : IsMinute (until_of false e)
    unfolding TreeSound
    until_in = let u = tree e m in until_below h u.0 u.1

  -- the same of a leaf entry
  module _ (i : ℕ) {e : Entry} (tree : TreeSound N cells clock zero i) (m : e ∈ N i) where
    pub leaf_edges_in : BoundsInRange (bounds_of true e)
    unfolding TreeSound bounds_of
    leaf_edges_in = cell_bounds_in (tree e m)

    pub leaf_until_in : IsMinute (until_of true e)
    unfolding TreeSound until_of cell_of
    leaf_until_in = (tree e m).expiry_in
