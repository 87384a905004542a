-- The meeting test on numbers of any size, and the law that it tells `Meets`, proved once for any axis.
use Rattle.std.specs.Prelude.{ℤ, neg_ℤ, ◌-ℤ◌, ◌*ℤ◌}
use Rattle.track.specs.Meets.{Row, low, high, low_velocity, high_velocity, span}
use Rattle.track.specs.Inner.Cut.{cut_to}
use Rattle.track.specs.declared.interval.Interval.{Interval}
use Rattle.track.specs.declared.interval.Straight.{Straight}
use Rattle.track.specs.declared.queries.Edges.{Edges}

-- ---- the test
-- By how much a query's edge, which goes from `a` at the start to `b` at the end, is above what is at `at` and goes by `v`:
-- the line gap_at + gap_by τ, multiplied by the span
abbrev pub gap_at : ℤ → ℤ → ℤ → ℤ → ℤ → ℤ
gap_at start span a b at = span *ℤ (a -ℤ at) -ℤ (b -ℤ a) *ℤ start

abbrev pub gap_by : ℤ → ℤ → ℤ → ℤ → ℤ
gap_by span a b v = (b -ℤ a) -ℤ span *ℤ v

abbrev pub gap_line : ℤ → ℤ → ℤ → ℤ → ℤ → ℤ → Straight
gap_line start span a b at v = record { a = gap_at start span a b at; b = gap_by span a b v }

abbrev pub turned_line : Straight → Straight
turned_line l = record { a = neg_ℤ l.a; b = neg_ℤ l.b }

-- the instants of i at which the row touches the edges: the high edge above the row's low one, the low edge not above its high one
unfoldable pub along_to : ℤ → ℤ → Edges → Row → Interval → Interval
along_to start span e r i =
    cut_to
    (cut_to i (gap_at start span e.high e.high2 (low r)) (gap_by span e.high e.high2 (low_velocity r)))
    (neg_ℤ (gap_at start span e.low e.low2 (high r)))
    (neg_ℤ (gap_by span e.low e.low2 (high_velocity r)))
