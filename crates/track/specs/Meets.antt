-- When a track meets a query: at one instant, on both axes, within the query's times and the life.
-- Every comparison is multiplied through, so that it is one of whole numbers.
use Rattle.std.specs.Prelude.{◌≡◌, cond, List, [], ◌∷◌, ℤ, pos, ◌+ℤ◌, ◌-ℤ◌, ◌*ℤ◌, ◌≤ℤ◌, ◌<ℤ◌, get_or}
use Rattle.std.specs.Int.Signed.{lt_z, le_z_yes}
use Rattle.track.specs.declared.cell.Cell.{Cell}
use Rattle.track.specs.declared.queries.Edges.{Edges}
use Rattle.track.specs.declared.queries.Query.{Query}

-- an instant: the fraction p/q of a minute, q at least 1
pub record Instant : Type 0 where
  pub p : ℤ
  pub q : ℤ
  pub q_positive : pos 1 ≤ℤ q

abbrev pub at_minute : ℤ → Instant
at_minute m = record { p = m; q = pos 1; q_positive = le_z_yes tt }

-- multiplied through
abbrev pub NotAfter : Instant → Instant → Type 0
NotAfter s t = (s.p *ℤ t.q) ≤ℤ (t.p *ℤ s.q)

-- ---- what the instant has to lie in
pub record InQuery (q : Query) (t : Instant) : Type 0 where
  pub from : (q.start.at *ℤ t.q) ≤ℤ t.p
  pub to : t.p ≤ℤ (q.end.at *ℤ t.q)

-- before the expiry
pub record InLife (expiry : ℤ) (t : Instant) : Type 0 where
  pub before : t.p <ℤ (expiry *ℤ t.q)

-- ---- one axis
-- a row: low and high edge at minute 0, low and high velocity
abbrev pub Row : Type 0
Row = List ℤ

abbrev pub low : Row → ℤ
low r = get_or r 0 (pos 0)

abbrev pub high : Row → ℤ
high r = get_or r 1 (pos 0)

abbrev pub low_velocity : Row → ℤ
low_velocity r = get_or r 2 (pos 0)

abbrev pub high_velocity : Row → ℤ
high_velocity r = get_or r 3 (pos 0)

-- the minutes over which a query's rectangle moves: from start to end, and 1 where they are one minute, as in a timeslice, which stands still
unfoldable pub span : Query → ℤ
span q = cond (lt_z (q.end.at -ℤ q.start.at) (pos 1)) (pos 1) (q.end.at -ℤ q.start.at)

-- where an edge is at the instant that goes straight from `a` at the start to `b` at the end, multiplied by the span and by the instant's q
abbrev pub edge_at : Query → ℤ → ℤ → Instant → ℤ
edge_at q a b t = a *ℤ span q *ℤ t.q +ℤ (b -ℤ a) *ℤ (t.p -ℤ q.start.at *ℤ t.q)

-- where that is at the instant which is at `a` at minute 0 and goes by `v` a minute, multiplied by the span and by the instant's q
abbrev pub moved_at : Query → ℤ → ℤ → Instant → ℤ
moved_at q a v t = span q *ℤ (a *ℤ t.q +ℤ v *ℤ t.p)

-- a row touches the query's edges at the instant; edges count
pub record Touches (q : Query) (e : Edges) (r : Row) (t : Instant) : Type 0 where
  pub below : moved_at q (low r) (low_velocity r) t ≤ℤ edge_at q e.high e.high2 t
  pub above : edge_at q e.low e.low2 t ≤ℤ moved_at q (high r) (high_velocity r) t

-- ---- both axes
-- the bounds of a cell or an entry: a row for x and a row for y
abbrev pub Bounds : Type 0
Bounds = List Row

-- what has these bounds and lives until `expiry` meets the query
pub record Meets (b : Bounds) (expiry : ℤ) (q : Query) : Type 0 where
  pub at : Instant
  pub in_query : InQuery q at
  pub in_life : InLife expiry at
  pub on_x : Touches q q.x (get_or b 0 []) at
  pub on_y : Touches q q.y (get_or b 1 []) at

-- and does so at the instant t
abbrev pub MeetsAt : Bounds → ℤ → Query → Instant → Type 0
MeetsAt b expiry q t = (m : Meets b expiry q) × (m.at ≡ t)

-- a cell is a point: on each axis one edge and one velocity
abbrev pub cell_bounds : Cell → Bounds
cell_bounds c = (c.x ∷ c.x ∷ c.vx ∷ c.vx ∷ []) ∷ (c.y ∷ c.y ∷ c.vy ∷ c.vy ∷ []) ∷ []

abbrev pub CellMeets : Cell → Query → Type 0
CellMeets c q = Meets (cell_bounds c) c.expiry.at q
