-- The pruning law: where a cell meets a query that does not start before the clock, every entry above the cell meets it at the same instant.
use Rattle.std.specs.Prelude.{refl, Bool, true, false, List, [], ◌∷◌, ℤ, pos, ◌*ℤ◌, ◌≤ℤ◌}
use mathlib.Core.List.Memᴰ
use Prim.Native.Nat.{ℕ, zero, suc}
use Rattle.std.specs.Int.Signed.{<ℤ-≤ℤ_trans}
use Rattle.whole.specs.Lists.{◌∈◌}
use Rattle.whole.specs.Laws.Order.{≤ℤ_trans, *ℤ_mono, positive}
use Rattle.track.specs.Meets.{Instant, Meets, MeetsAt, CellMeets}
use Rattle.track.specs.Laws.Hull.{Covers, hull_covers, covers_touches, greatest_above}
use Rattle.track.specs.declared.queries.Query.{Query}
use Rattle.node.specs.Entry.{Entry, cell_of, child_of, stamp_of, bounds_of, until_of}
use Rattle.node.specs.WorkedOut.{row_of, hull_on, latest_of, WorkedOut}
use Rattle.table.specs.SoundTree.{Nodes, leaves_of, EntrySound, TreeSound}
use Rattle.table.specs.Laws.Reach.{leaf_down}

-- ---- one level: an entry worked out from others
hull_on_covers : (leaf : Bool) (axis : ℕ) (stamp : ℤ) (es : List Entry) {f : Entry} → f ∈ es → Covers stamp (hull_on leaf axis stamp es) (row_of leaf axis f)
unfolding hull_on
hull_on_covers leaf axis stamp [] m = absurd (Memᴰ.not-nil m)
hull_on_covers leaf axis stamp (e ∷ es) m = hull_covers stamp _ _ (Memᴰ.map (row_of leaf axis) m)

latest_above : (leaf : Bool) (es : List Entry) {f : Entry} → f ∈ es → until_of leaf f ≤ℤ latest_of leaf es
unfolding latest_of
latest_above leaf [] m = absurd (Memᴰ.not-nil m)
latest_above leaf (e ∷ es) m = greatest_above _ _ (Memᴰ.map (until_of leaf) m)

-- at a minute not after the query's start it is not after any of the query's instants
from_start : (stamp start p q : ℤ) → pos 1 ≤ℤ q → stamp ≤ℤ start → (start *ℤ q) ≤ℤ p → (stamp *ℤ q) ≤ℤ p
from_start stamp start p q g h k = ≤ℤ_trans (*ℤ_mono stamp start q h (positive g)) k

-- where one of its child's entries meets a query that does not start before its stamp, it meets the query at the same instant
pub entry_covers : {leaf : Bool} {e f : Entry} {es : List Entry} {q : Query} {t : Instant} → WorkedOut leaf e es → f ∈ es → stamp_of e ≤ℤ q.start.at
    → MeetsAt (bounds_of leaf f) (until_of leaf f) q t → MeetsAt (bounds_of false e) (until_of false e) q t
entry_covers {leaf} {e} {f} {es} {q} w m early (met, at-t) =
    let t = met.at in
    let late = from_start (stamp_of e) q.start.at t.p t.q t.q_positive early met.in_query.from in
    let on_x : Covers (stamp_of e) (row_of false 0 e) (row_of leaf 0 f) = rw w.on_x (hull_on_covers leaf 0 (stamp_of e) es m) in
    let on_y : Covers (stamp_of e) (row_of false 1 e) (row_of leaf 1 f) = rw w.on_y (hull_on_covers leaf 1 (stamp_of e) es m) in
    let until : until_of leaf f ≤ℤ until_of false e = rw w.until (latest_above leaf es m) in (
      record {
        at = t;
        in_query = met.in_query;
        in_life = record { before = <ℤ-≤ℤ_trans met.in_life.before (*ℤ_mono _ _ t.q until (positive t.q_positive)) };
        on_x = covers_touches on_x q q.x t late met.on_x;
        on_y = covers_touches on_y q q.y t late met.on_y;
      },
      at-t,
    )

-- ---- any number of levels
module _ (N : Nodes) (cells : ℕ) (clock : ℤ) (q : Query) (due : clock ≤ℤ q.start.at) where
  -- an entry meets the query at the instant at which a leaf entry beneath it does
  below_covers : (h : ℕ) {e f : Entry} {t : Instant} → EntrySound N cells clock h e → TreeSound N cells clock h (child_of e) → f ∈ leaves_of N h (child_of e)
      → MeetsAt (bounds_of true f) (until_of true f) q t → MeetsAt (bounds_of false e) (until_of false e) q t
  unfolding leaves_of TreeSound
  below_covers zero s tree m met = entry_covers s.worked_out m (≤ℤ_trans s.stamped due) met
  below_covers (suc h) {e} s tree m met =
      let g = leaf_down N h (child_of e) m in
      let u = tree g.0 g.1 in
      entry_covers s.worked_out g.1 (≤ℤ_trans s.stamped due) (below_covers h u.0 u.1 g.2 met)

  -- the same of an entry of a sound inner node
  pub covers : (h i : ℕ) {e f : Entry} {t : Instant} → TreeSound N cells clock (suc h) i → e ∈ N i → f ∈ leaves_of N h (child_of e)
      → MeetsAt (bounds_of true f) (until_of true f) q t → MeetsAt (bounds_of false e) (until_of false e) q t
  unfolding TreeSound
  covers h i {e} tree m n met = let u = tree e m in below_covers h u.0 u.1 n met

  -- so a subtree whose entry does not meet the query holds no cell that does
  pub covers_cell : (h i : ℕ) {e f : Entry} → TreeSound N cells clock (suc h) i → e ∈ N i → f ∈ leaves_of N h (child_of e)
      → CellMeets (cell_of f) q → Meets (bounds_of false e) (until_of false e) q
  unfolding bounds_of until_of cell_of
  covers_cell h i tree m n met = (covers h i tree m n (met, refl)).0
