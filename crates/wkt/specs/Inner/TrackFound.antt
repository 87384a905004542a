-- What is found on the way from a line to its cell.
use Rattle.std.specs.Prelude.{◌≡◌, List, ◌++◌, ℕ, ◌≤◌, ℤ, pos, ◌-ℤ◌, ◌*ℤ◌, Option, Some, None, length, drop, ◌<ℤ◌}
use Rattle.std.specs.Int.Signed.{quot_z}
use Rattle.track.specs.Numbers.{IsMinute}
use Rattle.track.specs.Life.{LivesAt, CellInRange}
use Rattle.track.specs.declared.cell.Cell.{Cell}
use Rattle.decimal.specs.Inner.DigitRuns.{Stops}
use Rattle.wkt.specs.TrackLine.{PointText, TrackForm}
use Rattle.wkt.specs.TrackRead.{GivesCell}
use Rattle.wkt.specs.Inner.PointPut.{PointInRange}
use Rattle.wkt.specs.declared.point.Point.{Point}

-- ---- the points of a line
-- the bytes from `at` on are this point in a cell's range, and then `rest`
pub record PointStands (line : List ℕ) (at : ℕ) (p : Point) (rest : List ℕ) : Type 0 where
  pub text : List ℕ
  pub spelt : PointText p text
  pub in_range : PointInRange p
  pub stops : Stops rest
  pub is : drop at line ≡ text ++ rest

-- where such a point stands it is found, and the cursor is past it. What is found where none stands is not said
abbrev pub PointRead : List ℕ → ℕ → Option (Point × ℕ) → Type 0
PointRead line at (Some (p, next)) = (next ≤ length line) × ((q : Point) (rest : List ℕ) → PointStands line at q rest → (p ≡ q) × (drop next line ≡ rest))
PointRead line at None = (q : Point) (rest : List ℕ) → PointStands line at q rest → ⊥

-- the line is a track between these points in a cell's range
pub record TrackStands (line : List ℕ) (first last : Point) : Type 0 where
  pub form : TrackForm first last line
  pub first_in : PointInRange first
  pub last_in : PointInRange last

abbrev pub PointsRead : List ℕ → Option (Point × Point) → Type 0
PointsRead line (Some (p, q)) = (first last : Point) → TrackStands line first last → (p ≡ first) × (q ≡ last)
PointsRead line None = (first last : Point) → TrackStands line first last → ⊥

-- ---- the cell through two points
pub record InOrder (first last : Point) : Type 0 where
  pub first_in : IsMinute first.minute
  pub last_in : IsMinute last.minute
  pub before : first.minute <ℤ last.minute

abbrev pub units_of : ℤ → ℤ
units_of a = quot_z a (pos 10)

-- whole units a minute, from `a` metres to `b` metres in so many minutes; rounded where it does not come out whole
abbrev pub velocity_of : ℤ → ℤ → ℤ → ℤ
velocity_of a b minutes = quot_z (units_of b -ℤ units_of a) minutes

abbrev pub kept_of : ℤ → ℤ → ℤ → ℤ
kept_of a v minute = units_of a -ℤ v *ℤ minute

-- what the code makes of two points, in order or not
abbrev pub through_points : ℤ → Point → Point → Cell
through_points id first last =
    let minutes = last.minute -ℤ first.minute in
    let vx = velocity_of first.x last.x minutes in
    let vy = velocity_of first.y last.y minutes in
    record { id = id; x = kept_of first.x vx first.minute; vx = vx; y = kept_of first.y vy first.minute; vy = vy; expiry = record { at = last.minute } }

-- a cell in range that lives at the first minute, and the only one that the points can give
pub record OnlyThrough (id : ℤ) (first last : Point) (c : Cell) : Type 0 where
  pub in_range : CellInRange c
  pub identifier_is : c.id ≡ id
  pub minute_in : IsMinute first.minute
  pub lives : LivesAt first.minute c
  pub only : (d : Cell) → GivesCell id first last d → c ≡ d

abbrev pub CellThrough : ℤ → Point → Point → Option Cell → Type 0
CellThrough id first last (Some c) = OnlyThrough id first last c
CellThrough id first last None = (d : Cell) → GivesCell id first last d → ⊥
