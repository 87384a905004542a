-- Reading a line with an identifier: when it gives a cell, and which.
use Rattle.std.specs.Prelude.{◌≡◌, List, [], ◌∷◌, ℕ, ℤ, pos, ◌-ℤ◌, ◌*ℤ◌, ◌<ℤ◌, Result, IfOk}
use Rattle.track.specs.Numbers.{IsMinute, IsIdentifier, IsVelocity, IsKept, kept}
use Rattle.track.specs.Refusals.{Reason, ◌when◌, First, number_of}
use Rattle.track.specs.declared.cell.Cell.{Cell}
use Rattle.wkt.specs.TrackLine.{TrackForm}
use Rattle.wkt.specs.declared.point.Point.{Point}
use Rattle.track.specs.declared.refusal.Refusal.{Refusal}

-- ---- the cell that two points give
-- on one axis: from `a` metres at the minute m to `b` metres at the minute n, kept at z units with velocity v
pub record AxisGives (m n a b z v : ℤ) : Type 0 where
  -- positions are whole units
  pub first_units : ℤ
  pub last_units : ℤ
  pub first_whole : a ≡ pos 10 *ℤ first_units
  pub last_whole : b ≡ pos 10 *ℤ last_units
  -- the velocity comes out whole
  pub velocity_whole : last_units -ℤ first_units ≡ v *ℤ (n -ℤ m)
  pub kept_is : z ≡ kept first_units v m
  -- in the scope's ranges. Where the cell stands at either minute is not tested
  pub velocity_in : IsVelocity v
  pub kept_in : IsKept z

pub record GivesCell (id : ℤ) (first last : Point) (c : Cell) : Type 0 where
  pub identifier_is : c.id ≡ id
  pub expiry_is : c.expiry.at ≡ last.minute
  pub on_x : AxisGives first.minute last.minute first.x last.x c.x c.vx
  pub on_y : AxisGives first.minute last.minute first.y last.y c.y c.vy
  pub in_order : first.minute <ℤ last.minute
  pub identifier_in : IsIdentifier id
  pub first_minute_in : IsMinute first.minute
  pub last_minute_in : IsMinute last.minute

-- the bytes have the form, and its numbers give the cell
pub record ReadsAs (id : ℤ) (line : List ℕ) (c : Cell) : Type 0 where
  pub first : Point
  pub last : Point
  pub form : TrackForm first last line
  pub gives : GivesCell id first last c

-- ---- why none is given, and the answer
abbrev pub track_reasons : ℤ → List ℕ → List Reason
track_reasons id line = 14 when ((c : Cell) → ReadsAs id line c → ⊥) ∷ []

pub record ReadsTrack (id : ℤ) (line : List ℕ) (r : Result Cell Refusal) : Type 0 where
  pub refusal : First (track_reasons id line) (number_of r)
  pub cell : IfOk r (λ c. ReadsAs id line c)
