-- The numbers of the trade: positions in units of 10 m, velocities in units a minute, minutes from 0 to 1,440.
use Rattle.std.specs.Prelude.{ℕ, ℤ, pos, ◌-ℤ◌, ◌*ℤ◌, ◌≤ℤ◌}
use Rattle.whole.specs.Within.{Within}

pub record IsMinute (m : ℤ) : Type 0 where
  pub from : pos 0 ≤ℤ m
  pub to : m ≤ℤ pos 1440

pub record IsIdentifier (id : ℤ) : Type 0 where
  pub from : pos 1 ≤ℤ id
  pub to : id ≤ℤ pos 2147483647

-- a reported position, and an edge of a query
abbrev pub IsPosition : ℤ → Type 0
IsPosition = Within 100000

abbrev pub IsVelocity : ℤ → Type 0
IsVelocity = Within 512

-- where a cell reported at `x` with velocity `v` at minute `t` stands at minute 0
abbrev pub kept : ℤ → ℤ → ℤ → ℤ
kept x v t = x -ℤ v *ℤ t

abbrev pub IsKept : ℤ → Type 0
IsKept = Within 837280

-- a kept edge of an entry
abbrev pub IsEdge : ℤ → Type 0
IsEdge = Within 2311840

-- the most cells that a table may be for
abbrev pub most_cells : ℕ
most_cells = 256
