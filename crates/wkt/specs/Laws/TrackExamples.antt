-- Bytes held to the definitions: the line that the first cell of the manual's example gives at minute 10, when it is reported; and the one point that it would be at
-- its expiry, at which it does not live.
use Rattle.std.specs.Prelude.{◌≡◌, refl, [], ◌∷◌, ℕ, pos, neg_ℤ, nat_abs}
use Rattle.std.proofs.Common.{ap, arith}
use Rattle.track.specs.Report.{kept_cell, report_from}
use Rattle.track.specs.declared.cell.Cell.{Cell}
use Rattle.decimal.specs.Decimal.{one_digit, and_digit, SignedDecimal, without_sign}
use Rattle.wkt.specs.Metres.{stands_at}
use Rattle.wkt.specs.TrackLine.{PointText, LineOf, at_one_point, from_to}

-- reported at (100, 200) with velocity (5, -3) at minute 10, with expiry 40
abbrev cell7 : Cell
cell7 = kept_cell (report_from (pos 7) (pos 100) (pos 200) (pos 5) (neg_ℤ (pos 3)) (pos 10) (pos 40))

spelt_1000 : SignedDecimal (pos 1000) (49 ∷ 48 ∷ 48 ∷ 48 ∷ [])
spelt_1000 = without_sign (and_digit {n = 100} {d = 0} (and_digit {n = 10} {d = 0} (and_digit {n = 1} {d = 0} (one_digit {d = 1} (omega arith)) (omega arith) (omega arith)) (omega arith) (omega arith)) (omega arith) (omega arith))

spelt_2000 : SignedDecimal (pos 2000) (50 ∷ 48 ∷ 48 ∷ 48 ∷ [])
spelt_2000 = without_sign (and_digit {n = 200} {d = 0} (and_digit {n = 20} {d = 0} (and_digit {n = 2} {d = 0} (one_digit {d = 2} (omega arith)) (omega arith) (omega arith)) (omega arith) (omega arith)) (omega arith) (omega arith))

spelt_10 : SignedDecimal (pos 10) (49 ∷ 48 ∷ [])
spelt_10 = without_sign (and_digit {n = 1} {d = 0} (one_digit {d = 1} (omega arith)) (omega arith) (omega arith))

spelt_2500 : SignedDecimal (pos 2500) (50 ∷ 53 ∷ 48 ∷ 48 ∷ [])
spelt_2500 = without_sign (and_digit {n = 250} {d = 0} (and_digit {n = 25} {d = 0} (and_digit {n = 2} {d = 5} (one_digit {d = 2} (omega arith)) (omega arith) (omega arith)) (omega arith) (omega arith)) (omega arith) (omega arith))

spelt_1100 : SignedDecimal (pos 1100) (49 ∷ 49 ∷ 48 ∷ 48 ∷ [])
spelt_1100 = without_sign (and_digit {n = 110} {d = 0} (and_digit {n = 11} {d = 0} (and_digit {n = 1} {d = 1} (one_digit {d = 1} (omega arith)) (omega arith) (omega arith)) (omega arith) (omega arith)) (omega arith) (omega arith))

spelt_40 : SignedDecimal (pos 40) (52 ∷ 48 ∷ [])
spelt_40 = without_sign (and_digit {n = 4} {d = 0} (one_digit {d = 4} (omega arith)) (omega arith) (omega arith))

-- `1000 2000 10` and `2500 1100 40`
at_10 : PointText (stands_at cell7 (pos 10)) (49 ∷ 48 ∷ 48 ∷ 48 ∷ 32 ∷ 50 ∷ 48 ∷ 48 ∷ 48 ∷ 32 ∷ 49 ∷ 48 ∷ [])
at_10 = record { x_text = 49 ∷ 48 ∷ 48 ∷ 48 ∷ []; y_text = 50 ∷ 48 ∷ 48 ∷ 48 ∷ []; m_text = 49 ∷ 48 ∷ []; x_spelt = spelt_1000; y_spelt = spelt_2000; m_spelt = spelt_10; is = refl }

at_40 : PointText (stands_at cell7 (pos 40)) (50 ∷ 53 ∷ 48 ∷ 48 ∷ 32 ∷ 49 ∷ 49 ∷ 48 ∷ 48 ∷ 32 ∷ 52 ∷ 48 ∷ [])
at_40 = record { x_text = 50 ∷ 53 ∷ 48 ∷ 48 ∷ []; y_text = 49 ∷ 49 ∷ 48 ∷ 48 ∷ []; m_text = 52 ∷ 48 ∷ []; x_spelt = spelt_2500; y_spelt = spelt_1100; m_spelt = spelt_40; is = refl }

apart : ◌≡◌ {A = ℕ} 40 10 → ⊥
apart e = omega arith

-- `LINESTRING M (1000 2000 10, 2500 1100 40)` and a line feed
track_line : LineOf (pos 10) cell7 (76 ∷ 73 ∷ 78 ∷ 69 ∷ 83 ∷ 84 ∷ 82 ∷ 73 ∷ 78 ∷ 71 ∷ 32 ∷ 77 ∷ 32 ∷ 40 ∷ 49 ∷ 48 ∷ 48 ∷ 48 ∷ 32 ∷ 50 ∷ 48 ∷ 48 ∷ 48 ∷ 32 ∷ 49 ∷ 48 ∷ 44 ∷ 32 ∷ 50 ∷ 53 ∷ 48 ∷ 48 ∷ 32 ∷ 49 ∷ 49 ∷ 48 ∷ 48 ∷ 32 ∷ 52 ∷ 48 ∷ 41 ∷ 10 ∷ [])
track_line = from_to (λ e. apart (ap nat_abs e)) (record { from = 49 ∷ 48 ∷ 48 ∷ 48 ∷ 32 ∷ 50 ∷ 48 ∷ 48 ∷ 48 ∷ 32 ∷ 49 ∷ 48 ∷ []; to = 50 ∷ 53 ∷ 48 ∷ 48 ∷ 32 ∷ 49 ∷ 49 ∷ 48 ∷ 48 ∷ 32 ∷ 52 ∷ 48 ∷ []; from_spelt = at_10; to_spelt = at_40; is = refl })

-- `POINT M (2500 1100 40)` and a line feed
point_line : LineOf (pos 40) cell7 (80 ∷ 79 ∷ 73 ∷ 78 ∷ 84 ∷ 32 ∷ 77 ∷ 32 ∷ 40 ∷ 50 ∷ 53 ∷ 48 ∷ 48 ∷ 32 ∷ 49 ∷ 49 ∷ 48 ∷ 48 ∷ 32 ∷ 52 ∷ 48 ∷ 41 ∷ 10 ∷ [])
point_line = at_one_point refl (record { point = 50 ∷ 53 ∷ 48 ∷ 48 ∷ 32 ∷ 49 ∷ 49 ∷ 48 ∷ 48 ∷ 32 ∷ 52 ∷ 48 ∷ []; spelt = at_40; is = refl })
