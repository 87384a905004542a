-- How far out a row's edges can be: at minute m within 837,280 + 512 m, for a cell and for a hull of such rows; so a kept edge lies within 2,311,840.
use Rattle.std.specs.Prelude.{[], ℕ, ◌+◌, ◌*◌, ℤ, pos, get_or}
use Rattle.whole.specs.Within.{Within}
use Rattle.track.specs.Numbers.{IsVelocity}
use Rattle.track.specs.Meets.{Row, Bounds, low_velocity, high_velocity}
use Rattle.track.specs.Hull.{low_at, high_at}

-- where an edge can be at minute m: as far out as a kept position, and 512 more for each minute
abbrev pub IsEdgeAt : ℕ → ℤ → Type 0
IsEdgeAt m = Within (837280 + 512 * m)

pub record RowInRangeAt (m : ℕ) (r : Row) : Type 0 where
  pub low_in : IsEdgeAt m (low_at (pos m) r)
  pub high_in : IsEdgeAt m (high_at (pos m) r)
  pub low_velocity_in : IsVelocity (low_velocity r)
  pub high_velocity_in : IsVelocity (high_velocity r)

pub record BoundsInRangeAt (m : ℕ) (b : Bounds) : Type 0 where
  pub x_in : RowInRangeAt m (get_or b 0 [])
  pub y_in : RowInRangeAt m (get_or b 1 [])
