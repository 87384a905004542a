-- Where a cell stands at a minute, in whole metres. A unit is 10 m.
use Rattle.std.specs.Prelude.{ℤ, pos, ◌+ℤ◌, ◌*ℤ◌}
use Rattle.track.specs.declared.cell.Cell.{Cell}
use Rattle.wkt.specs.declared.point.Point.{Point}

-- on one axis: what is kept at z units and goes v units a minute, at the minute m
abbrev pub metres : ℤ → ℤ → ℤ → ℤ
metres z v m = pos 10 *ℤ (z +ℤ v *ℤ m)

-- the cell's point at the minute
abbrev pub stands_at : Cell → ℤ → Point
stands_at c m = record { x = metres c.x c.vx m; y = metres c.y c.vy m; minute = m }
