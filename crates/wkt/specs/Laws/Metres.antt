-- A cell's point at a minute: its numbers have a bound.
use Rattle.std.specs.Prelude.{ℤ}
use Rattle.whole.specs.Within.{Within}
use Rattle.whole.specs.Laws.Within.{add_in, mul_in, lit_in}
use Rattle.track.specs.Numbers.{IsMinute, IsVelocity, IsKept}
use Rattle.track.specs.Laws.Numbers.{minute_in}
use Rattle.track.specs.Life.{CellInRange}
use Rattle.track.specs.declared.cell.Cell.{Cell}
use Rattle.wkt.specs.Metres.{metres, stands_at}
use Rattle.wkt.specs.Inner.PointPut.{farthest, PointInRange}

-- 1,574,560 units at the most
pub metres_in : {z v m : ℤ} → IsKept z → IsVelocity v → IsMinute m → Within farthest (metres z v m)
metres_in h k l = mul_in (lit_in 10 {bound = 10} tt) (add_in h (mul_in k (minute_in l)))

pub stands_in : {c : Cell} {m : ℤ} → CellInRange c → IsMinute m → PointInRange (stands_at c m)
stands_in h m = record { x_in = metres_in h.x_in h.vx_in m; y_in = metres_in h.y_in h.vy_in m; minute_in = m }
