-- The ranges in which the products of the meeting test fit.
use Rattle.std.specs.Prelude.{[], ◌^◌, get_or}
use Rattle.whole.specs.Within.{Within}
use Rattle.track.specs.Numbers.{IsVelocity, IsEdge}
use Rattle.track.specs.Meets.{Row, Bounds, low, high, low_velocity, high_velocity}
use Rattle.track.specs.declared.interval.Interval.{Interval}
use Rattle.track.specs.declared.interval.Straight.{Straight}

pub record RowInRange (r : Row) : Type 0 where
  pub low_in : IsEdge (low r)
  pub high_in : IsEdge (high r)
  pub low_velocity_in : IsVelocity (low_velocity r)
  pub high_velocity_in : IsVelocity (high_velocity r)

pub record BoundsInRange (b : Bounds) : Type 0 where
  pub x_in : RowInRange (get_or b 0 [])
  pub y_in : RowInRange (get_or b 1 [])

-- ends that are fractions of numbers small enough for the products of a cut
pub record Small (i : Interval) : Type 0 where
  pub lo_in : Within (2 ^ 32) i.lo
  pub lod_in : Within (2 ^ 20) i.lod
  pub hi_in : Within (2 ^ 32) i.hi
  pub hid_in : Within (2 ^ 20) i.hid

pub record SmallStraight (l : Straight) : Type 0 where
  pub a_in : Within (2 ^ 32) l.a
  pub b_in : Within (2 ^ 20) l.b
