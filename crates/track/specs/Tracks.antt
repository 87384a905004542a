-- The tracks P1 to P9 as one table, and what a row says. `tracks_hold` (TracksHold) is the one statement over it.
use Rattle.std.specs.Prelude.{◌≡◌, ◌↔◌, List, [], ◌∷◌, ℕ, T, ℤ, pos, neg_ℤ, get_or}
use Rattle.std.specs.Int.Signed.{le_z, le_z_yes}
use Rattle.track.specs.Numbers.{kept}
use Rattle.track.specs.Report.{kept_cell, report_from}
use Rattle.track.specs.Query.{query_from, window_from}
use Rattle.track.specs.Meets.{Instant, at_minute, NotAfter, InQuery, Row, Touches, MeetsAt, CellMeets, cell_bounds}
use Rattle.track.specs.Hull.{hull, low_at, high_at}
use Rattle.track.specs.declared.cell.Cell.{Cell}
use Rattle.track.specs.declared.queries.Edges.{Edges}
use Rattle.track.specs.declared.queries.Query.{Query}

-- ---- a stretch of time: `first to last`, both counted
infix 70 ◌to◌
pub data Stretch : Type 0 where
  ◌to◌ : Instant → Instant → Stretch

abbrev pub During : Stretch → Instant → Type 0
During (first to last) t = NotAfter first t × NotAfter t last

-- a fact of instants holds at every instant of the stretch, and at no other
abbrev pub Throughout : Stretch → (Instant → Type 0) → Type 0
Throughout s Fact = (t : Instant) → Fact t ↔ During s t

-- ---- what is said of a track
pub data Claim : Type 0 where
  -- a cell that meets a query, and one that does not
  meets : Cell → Query → Claim
  misses : Cell → Query → Claim
  -- one that meets it throughout a stretch and at no other instant
  meets_from : Cell → Query → Stretch → Claim
  -- one that misses it though x is inside throughout one stretch of the query, and y throughout another
  misses_though : Cell → Query → Stretch → Stretch → Claim
  -- reported position, velocity, minute; kept position: the sum alone, whether or not such a report is accepted
  keeps : ℤ → ℤ → ℤ → ℤ → Claim
  -- two rows, the stamp, and the row worked out from them; a minute, and the edges then
  spans : Row → Row → ℤ → Row → ℤ → ℤ → ℤ → Claim

-- on one axis the row lies within the query's edges, at an instant of the query
abbrev pub InsideOn : Query → Edges → Row → Instant → Type 0
InsideOn q e row t = InQuery q t × Touches q e row t

abbrev pub Holds : Claim → Type 0
Holds (meets c q) = CellMeets c q
Holds (misses c q) = CellMeets c q → ⊥
Holds (meets_from c q s) = CellMeets c q × Throughout s (MeetsAt (cell_bounds c) c.expiry.at q)
Holds (misses_though c q x y) =
    (CellMeets c q → ⊥) ×
    Throughout x (InsideOn q q.x (get_or (cell_bounds c) 0 [])) ×
    Throughout y (InsideOn q q.y (get_or (cell_bounds c) 1 []))
Holds (keeps x v t z) = kept x v t ≡ z
Holds (spans r s stamp h minute lo hi) = (hull stamp r (s ∷ []) ≡ h) × (low_at minute h ≡ lo) × (high_at minute h ≡ hi)

-- ---- the table
-- `P n ..`: the track with the number n
pub data Track : Type 0 where
  P : ℕ → Claim → Track

abbrev instant : (p q : ℤ) → T (le_z (pos 1) q) → Instant
instant p q positive = record { p = p; q = q; q_positive = le_z_yes positive }

abbrev third : Instant
third = instant (pos 1) (pos 3) tt

abbrev one_and_a_half : Instant
one_and_a_half = instant (pos 3) (pos 2) tt

-- a cell reported at (x, y) with velocity (vx, vy) at minute 0, with expiry 40
abbrev from : ℤ → ℤ → ℤ → ℤ → Cell
from x y vx vy = kept_cell (report_from (pos 1) x y vx vy (pos 0) (pos 40))

abbrev cell7 : Cell
cell7 = kept_cell (report_from (pos 7) (pos 100) (pos 200) (pos 5) (neg_ℤ (pos 3)) (pos 10) (pos 40))

abbrev point : ℤ → ℤ → ℤ → ℤ → Query
point start end x y = window_from start end x x y y

-- from minute 0 to 10: x 0 to 2, then 20 to 22; y 0
abbrev moving : Query
moving = query_from (pos 0) (pos 10) (pos 0) (pos 2) (pos 0) (pos 0) (pos 20) (pos 22) (pos 0) (pos 0)

unfoldable pub tracks : List Track
tracks =
    P 1 (meets_from (from (pos 0) (pos 0) (pos 3) (pos 3)) (point (pos 0) (pos 1) (pos 1) (pos 1)) (third to third)) ∷
    P 2 (misses_though (from (pos 0) (pos 0) (pos 1) (pos 2)) (window_from (pos 0) (pos 5) (pos 2) (pos 3) (pos 2) (pos 3)) (at_minute (pos 2) to at_minute (pos 3)) (at_minute (pos 1) to one_and_a_half)) ∷
    P 3 (misses_though cell7 (point (pos 40) (pos 40) (pos 250) (pos 110)) (at_minute (pos 40) to at_minute (pos 40)) (at_minute (pos 40) to at_minute (pos 40))) ∷
    P 4 (misses cell7 (point (pos 41) (pos 41) (pos 255) (pos 107))) ∷
    P 5 (meets (from (pos 1) (pos 0) (pos 2) (pos 0)) moving) ∷
    P 6 (misses (from (pos 3) (pos 0) (pos 2) (pos 0)) moving) ∷
    P 7 (meets_from (from (pos 3) (pos 0) (pos 1) (pos 0)) moving (at_minute (pos 1) to at_minute (pos 3))) ∷
    P 8 (keeps (pos 100000) (neg_ℤ (pos 512)) (pos 1440) (pos 837280)) ∷
    P 9 (spans (pos 0 ∷ pos 0 ∷ pos 1 ∷ pos 1 ∷ []) (pos 10 ∷ pos 10 ∷ neg_ℤ (pos 1) ∷ neg_ℤ (pos 1) ∷ []) (pos 0) (pos 0 ∷ pos 10 ∷ neg_ℤ (pos 1) ∷ pos 1 ∷ []) (pos 3) (neg_ℤ (pos 3)) (pos 13)) ∷
    []

abbrev pub AllHold : List Track → Type 0
AllHold [] = Unit {0}
AllHold (P n claim ∷ ts) = Holds claim × AllHold ts
