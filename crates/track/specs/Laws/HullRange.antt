-- The edges of an entry keep their ranges, from the stamp on and taken back to minute 0.
use Rattle.std.specs.Prelude.{◌≡◌, List, [], ◌∷◌, ℕ, ◌+◌, ◌≤◌, ℤ, pos, ◌+ℤ◌, ◌*ℤ◌}
use Rattle.std.proofs.Common.{subst, arith}
use Rattle.std.proofs.Math.Nat.{le_dest}
use Rattle.std.proofs.Math.IntN.{+ℤ-neg_ℤ_cancel}
use Rattle.whole.specs.Laws.Difference.{all2, difs}
use Rattle.whole.specs.Lists.{◌∈◌}
use Rattle.whole.specs.Within.{Within}
use Rattle.whole.specs.Laws.Within.{add_in, sub_in, mul_in, lit_in}
use Rattle.track.specs.Numbers.{IsVelocity, IsEdge, IsKept}
use Rattle.track.specs.Meets.{Row, low, high, low_velocity, high_velocity, cell_bounds}
use Rattle.track.specs.Laws.Hull.{Tight}
use Rattle.track.specs.Life.{CellInRange}
use Rattle.track.specs.Inner.Small.{RowInRange}
use Rattle.track.specs.Inner.HullRange.{IsEdgeAt, RowInRangeAt, BoundsInRangeAt}
use Rattle.track.specs.declared.cell.Cell.{Cell}

-- ---- one edge
-- d minutes later
later : (m d : ℕ) (a v : ℤ) → (a +ℤ v *ℤ pos m) +ℤ v *ℤ pos d ≡ a +ℤ v *ℤ pos (m + d)
later m d = all2 _ λ _ _ _ _. simp difs (omega arith)

edge_later : {m n : ℕ} (a v : ℤ) → m ≤ n → IsVelocity v → IsEdgeAt m (a +ℤ v *ℤ pos m) → IsEdgeAt n (a +ℤ v *ℤ pos n)
edge_later {m} {n} a v le h k = by (le_dest le)
  where
    by : (d : ℕ) × (m + d ≡ n) → IsEdgeAt n (a +ℤ v *ℤ pos n)
    by (d, e) =
        let moved : Within d (pos d) = record { abs = omega arith } in
        rw (← e, ← later m d a v) (record { abs = omega (arith, (add_in k (mul_in h moved)).abs) })

edge_at_zero : {m : ℕ} (a v : ℤ) → m ≤ 1440 → IsVelocity v → IsEdgeAt m (a +ℤ v *ℤ pos m) → IsEdge a
edge_at_zero {m} a v le h k =
    let gone : Within m (pos m) = record { abs = omega arith } in
    rw (← +ℤ-neg_ℤ_cancel a (v *ℤ pos m)) (record { abs = omega (arith, (sub_in k (mul_in h gone)).abs) })

-- ---- a row
pub row_later : {m n : ℕ} {r : Row} → m ≤ n → RowInRangeAt m r → RowInRangeAt n r
row_later {r} le h = record {
  low_in = edge_later (low r) (low_velocity r) le h.low_velocity_in h.low_in;
  high_in = edge_later (high r) (high_velocity r) le h.high_velocity_in h.high_in;
  low_velocity_in = h.low_velocity_in;
  high_velocity_in = h.high_velocity_in;
}

-- the edges that are kept at minute 0
pub row_at_zero : {m : ℕ} {r : Row} → m ≤ 1440 → RowInRangeAt m r → RowInRange r
row_at_zero {r} le h = record {
  low_in = edge_at_zero (low r) (low_velocity r) le h.low_velocity_in h.low_in;
  high_in = edge_at_zero (high r) (high_velocity r) le h.high_velocity_in h.high_in;
  low_velocity_in = h.low_velocity_in;
  high_velocity_in = h.high_velocity_in;
}

-- a row whose numbers are those of rows in range
pub tight_in_range : {m : ℕ} {h : Row} {rows : List Row} → Tight (pos m) h rows → ((s : Row) → s ∈ rows → RowInRangeAt m s) → RowInRangeAt m h
tight_in_range {m} t each = record {
  low_in = let s = t.low_edge in subst (IsEdgeAt m) s.2 (each s.0 s.1).low_in;
  high_in = let s = t.high_edge in subst (IsEdgeAt m) s.2 (each s.0 s.1).high_in;
  low_velocity_in = let s = t.low_velocity_lem in subst IsVelocity s.2 (each s.0 s.1).low_velocity_in;
  high_velocity_in = let s = t.high_velocity_lem in subst IsVelocity s.2 (each s.0 s.1).high_velocity_in;
}

-- ---- a cell, at any minute
pub cell_in_range : (m : ℕ) {c : Cell} → CellInRange c → BoundsInRangeAt m (cell_bounds c)
cell_in_range m {c} h = record {
  x_in = row_later (omega arith) (point c.x c.vx h.x_in h.vx_in);
  y_in = row_later (omega arith) (point c.y c.vy h.y_in h.vy_in);
}
  where
    point : (x v : ℤ) → IsKept x → IsVelocity v → RowInRangeAt 0 (x ∷ x ∷ v ∷ v ∷ [])
    point x v h k =
        let at : IsEdgeAt 0 (x +ℤ v *ℤ pos 0) = record { abs = omega (arith, (add_in h (mul_in k (lit_in 0 {bound = 0} tt))).abs) } in
        record { low_in = at; high_in = at; low_velocity_in = k; high_velocity_in = k }
