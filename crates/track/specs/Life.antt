-- A cell by its identifier, its ranges and its life, which goes up to the expiry and does not include it.
use Rattle.std.specs.Prelude.{ℤ, pos, ◌<ℤ◌}
use Rattle.track.specs.Numbers.{IsVelocity, IsMinute, IsKept, IsIdentifier}
use Rattle.track.specs.declared.cell.Cell.{Cell}

abbrev pub identifier : Cell → ℤ
identifier c = c.id

-- all zeros: what stands beside a refusal's number, and where no cell is left
abbrev pub no_cell : Cell
no_cell = record { id = pos 0; x = pos 0; vx = pos 0; y = pos 0; vy = pos 0; expiry = record { at = pos 0 } }

-- the minute is before the cell's expiry; a life has no beginning. `life_is_one` (Laws/Life): this is `InLife` at a whole minute
abbrev pub LivesAt : ℤ → Cell → Type 0
LivesAt minute c = minute <ℤ c.expiry.at

-- the ranges of a kept cell
pub record CellInRange (c : Cell) : Type 0 where
  pub identifier : IsIdentifier c.id
  pub x_in : IsKept c.x
  pub vx_in : IsVelocity c.vx
  pub y_in : IsKept c.y
  pub vy_in : IsVelocity c.vy
  pub expiry_in : IsMinute c.expiry.at
