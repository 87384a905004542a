-- The numbers of a cell's point, which have a bound: eight digits at most for a position, four for a minute.
use Rattle.std.specs.Prelude.{ℕ}
use Rattle.whole.specs.Within.{Within}
use Rattle.track.specs.Numbers.{IsMinute}
use Rattle.wkt.specs.declared.point.Point.{Point}

-- how far out a cell can stand, in metres: ten times 837,280 + 512 × 1,440 units
abbrev pub farthest : ℕ
farthest = 15745600

-- the most bytes of a point: two positions of nine, a minute of four, two spaces
abbrev pub longest_point : ℕ
longest_point = 24

pub record PointInRange (p : Point) : Type 0 where
  pub x_in : Within farthest p.x
  pub y_in : Within farthest p.y
  pub minute_in : IsMinute p.minute
