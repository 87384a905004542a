-- Laws of the entries that are put in: what they are read as, and that what a node comes to at a minute is in range.
use Rattle.std.specs.Prelude.{◌≡◌, Bool, true, false, List, [], ◌∷◌, ℕ, ℤ, pos, nat_abs, ◌+ℤ◌, ◌*ℤ◌, length, get_or, ◌≤ℤ◌}
use Rattle.std.proofs.Math.Path.{refl}
use Rattle.std.proofs.Common.{sym, subst, arith}
use mathlib.Core.List.Memᴰ
use Rattle.whole.specs.Lists.{◌∈◌}
use Rattle.whole.specs.Within.{Within}
use Rattle.whole.specs.Laws.Within.{abs_positive, add_in, mul_in, lit_in}
use Rattle.words.specs.Words.{row_at}
use Rattle.words.specs.Laws.Words.{row_at_whole}
use Rattle.track.specs.Numbers.{IsMinute}
use Rattle.track.specs.Laws.Numbers.{minute_in}
use Rattle.track.specs.Life.{CellInRange}
use Rattle.track.specs.Inner.Small.{RowInRange}
use Rattle.track.specs.Laws.Hull.{hull_tight}
use Rattle.track.specs.Inner.HullRange.{IsEdgeAt, RowInRangeAt, BoundsInRangeAt}
use Rattle.track.specs.Laws.HullRange.{row_at_zero, tight_in_range, cell_in_range}
use Rattle.track.specs.Meets.{Bounds}
use Rattle.track.specs.declared.cell.Cell.{Cell}
use Rattle.node.specs.Entry.{Entry, cell_of, child_word, stamp_of, bounds_of, until_of}
use Rattle.node.specs.WorkedOut.{row_of, hull_on, latest_of, WorkedOut}
use Rattle.node.specs.Inner.Made.{worked_out_bounds, InRangeAt, inner_entry, leaf_entry}

-- ---- what entries come to at a minute
pub length-hull_on : (leaf : Bool) (axis : ℕ) (minute : ℤ) (es : List Entry) → length (hull_on leaf axis minute es) ≡ 4
unfolding hull_on
length-hull_on leaf axis minute [] = refl
length-hull_on leaf axis minute (e ∷ es) = refl

nothing_in_range : (m : ℕ) → RowInRangeAt m (pos 0 ∷ pos 0 ∷ pos 0 ∷ pos 0 ∷ [])
nothing_in_range m =
    let still : Within 0 (pos 0) = lit_in 0 tt in
    let gone : Within m (pos m) = record { abs = omega arith } in
    let at : IsEdgeAt m (pos 0 +ℤ pos 0 *ℤ pos m) = record { abs = omega (arith, (add_in still (mul_in still gone)).abs) } in
    record { low_in = at; high_in = at; low_velocity_in = lit_in 0 tt; high_velocity_in = lit_in 0 tt }

-- where each row can be at the minute, there is their hull
pub hull_on_in_range : (leaf : Bool) (axis m : ℕ) (es : List Entry) → ((e : Entry) → e ∈ es → RowInRangeAt m (row_of leaf axis e))
    → RowInRangeAt m (hull_on leaf axis (pos m) es)
unfolding hull_on
hull_on_in_range leaf axis m [] each = nothing_in_range m
hull_on_in_range leaf axis m (e ∷ es) each =
    tight_in_range (hull_tight (pos m) _ _)
    (λ s n. let f = Memᴰ.of_map (row_of leaf axis) (e ∷ es) n in subst (RowInRangeAt m) f.2 (each f.0 f.1))

-- so its edges that are kept fit a word
pub hull_on_kept : (leaf : Bool) (axis : ℕ) {minute : ℤ} (es : List Entry) → IsMinute minute
    → ((e : Entry) → e ∈ es → RowInRangeAt (nat_abs minute) (row_of leaf axis e)) → RowInRange (hull_on leaf axis minute es)
hull_on_kept leaf axis {minute} es is each =
    let whole = abs_positive minute is.from in
    subst (λ (z : ℤ). RowInRange (hull_on leaf axis z es)) (sym whole)
    (row_at_zero (minute_in is).abs (hull_on_in_range leaf axis (nat_abs minute) es each))

-- cells can be at every minute where a kept cell can be
pub cells_in_range : (minute : ℤ) {es : List Entry} → ((e : Entry) → e ∈ es → CellInRange (cell_of e)) → InRangeAt true minute es
unfolding bounds_of
cells_in_range minute each = λ e m. cell_in_range (nat_abs minute) (each e m)

-- inner entries whose stamps are not after the minute, and which are in range at every minute from their stamp on
pub stamped_in_range : {minute : ℤ} {es : List Entry} → IsMinute minute → ((e : Entry) → e ∈ es → stamp_of e ≤ℤ minute)
    → ((e : Entry) → e ∈ es → (m : ℕ) → stamp_of e ≤ℤ pos m → BoundsInRangeAt m (bounds_of false e)) → InRangeAt false minute es
stamped_in_range {minute} is early each = λ e m. each e m (nat_abs minute) (rw (abs_positive minute is.from) at (early e m))

-- ---- an inner entry
module _ (child : ℕ) (b : Bounds) (until stamp : ℤ) where
  pub child_inner : child_word (inner_entry child b until stamp) ≡ pos child
  unfolding inner_entry
  child_inner = refl

  pub stamp_inner : stamp_of (inner_entry child b until stamp) ≡ stamp
  unfolding inner_entry row_at
  stamp_inner = refl

  pub bounds_inner : bounds_of false (inner_entry child b until stamp) ≡ row_at (get_or b 0 []) 0 ∷ row_at (get_or b 1 []) 0 ∷ []
  unfolding inner_entry bounds_of row_at
  bounds_inner = refl

  pub until_inner : until_of false (inner_entry child b until stamp) ≡ until
  unfolding inner_entry until_of row_at
  until_inner = refl

-- what is made of a child's entries at the stamp is worked out from them
pub inner_worked_out : (leaf : Bool) (child : ℕ) (stamp : ℤ) (es : List Entry) → WorkedOut leaf (inner_entry child (worked_out_bounds leaf stamp es) (latest_of leaf es) stamp) es
unfolding worked_out_bounds
inner_worked_out leaf child stamp es =
    let b = worked_out_bounds leaf stamp es in
    let until = latest_of leaf es in
    record {
      on_x = rw (bounds_inner child b until stamp, stamp_inner child b until stamp) (row_at_whole _ (length-hull_on leaf 0 stamp es));
      on_y = rw (bounds_inner child b until stamp, stamp_inner child b until stamp) (row_at_whole _ (length-hull_on leaf 1 stamp es));
      until = until_inner child b until stamp;
    }

-- ---- a leaf's entry
module _ (c : Cell) where
  pub cell_leaf : cell_of (leaf_entry c) ≡ c
  unfolding leaf_entry cell_of
  cell_leaf = refl
