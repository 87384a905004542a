-- What the ranges of a report give: a kept position within its bound, an identifier that fits a word.
use Rattle.std.specs.Prelude.{ℤ}
use Rattle.std.specs.Int.Signed.{le_z_yes}
use Rattle.whole.specs.Laws.Order.{≤ℤ_trans}
use Rattle.whole.specs.Within.{Within}
use Rattle.whole.specs.Laws.Within.{mul_in, sub_in, from_zero}
use Rattle.track.specs.Numbers.{IsMinute, IsIdentifier, IsPosition, IsVelocity, kept, IsKept}

-- a report within its ranges is kept within 837,280 either side of 0
pub minute_in : {m : ℤ} → IsMinute m → Within 1440 m
minute_in h = from_zero h.from h.to

pub kept_in : {x v t : ℤ} → IsPosition x → IsVelocity v → IsMinute t → IsKept (kept x v t)
kept_in h k m = sub_in h (mul_in k (minute_in m))

-- an identifier fits a word
pub identifier_in : {id : ℤ} → IsIdentifier id → Within 2147483647 id
identifier_in h = from_zero (≤ℤ_trans (le_z_yes tt) h.from) h.to
