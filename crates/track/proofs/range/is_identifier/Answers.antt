use Prim.Native.Nat.{◌^◌}
use native.Mathlib.Omega.{arith}
use lib.IntN.{ℤ, pos}
use lib.Signed.{◌≤ℤ◌, ◌<ℤ◌, le_z_yes}
use Rattle.whole.specs.Laws.Difference.{each, difs}
use Rattle.whole.specs.Laws.Within.{back, fits_below}
use Rattle.track.proofs.range.is_identifier.Goals as goal

-- the greatest i32 is the greatest identifier
one_less : (z : ℤ) → z <ℤ pos (2 ^ 31) → z ≤ℤ pos 2147483647
one_less = each _ λ _ _. simp difs (omega arith)

pub returns : goal.returns
returns c =
    simp (back c.ranges.id)
    (record { sure = λ h. record { from = le_z_yes h; to = one_less _ (fits_below c.ranges.id) }; seen = λ m. m.from.le })
