-- The numbers of the meeting test stay in their ranges, however many cuts follow one another.
use Rattle.std.specs.Prelude.{Bool, true, false, cond, ◌≡◌, refl, ◌^◌, ℤ, pos, ◌+ℤ◌, ◌-ℤ◌, ◌*ℤ◌, ◌≤ℤ◌}
use Rattle.std.specs.Int.Signed.{lt_z, le_z_yes}
use Rattle.std.proofs.Common.{arith}
use Rattle.whole.specs.Laws.Difference.{all2, difs}
use Rattle.whole.specs.Laws.Order.{lt_z_false, ≤ℤ_trans}
use Rattle.whole.specs.Within.{Within}
use Rattle.whole.specs.Laws.Within.{neg_in, sub_in, mul_in, lit_in, widen, from_zero}
use Rattle.track.specs.Numbers.{IsPosition, IsVelocity, IsEdge}
use Rattle.track.specs.Laws.Numbers.{minute_in}
use Rattle.track.specs.Query.{EdgesInRange, QueryInRange}
use Rattle.track.specs.Meets.{Row, Bounds, span, cell_bounds}
use Rattle.track.specs.Inner.Cut.{cut_to}
use Rattle.track.specs.Inner.Decides.{gap_at, gap_by, gap_line, turned_line, along_to}
use Rattle.track.proofs.Laws.Decides.{whole_of, meeting_of}
use Rattle.track.specs.Life.{CellInRange}
use Rattle.track.specs.Inner.Small.{RowInRange, BoundsInRange, Small, SmallStraight}
use Rattle.track.specs.declared.interval.Interval.{Interval}
use Rattle.track.specs.declared.interval.Straight.{Straight}
use Rattle.track.specs.declared.cell.Cell.{Cell}
use Rattle.track.specs.declared.queries.Edges.{Edges}
use Rattle.track.specs.declared.queries.Query.{Query}

pub cell_bounds_in : {c : Cell} → CellInRange c → BoundsInRange (cell_bounds c)
cell_bounds_in h = record {
  x_in = record { low_in = widen tt h.x_in; high_in = widen tt h.x_in; low_velocity_in = h.vx_in; high_velocity_in = h.vx_in };
  y_in = record { low_in = widen tt h.y_in; high_in = widen tt h.y_in; low_velocity_in = h.vy_in; high_velocity_in = h.vy_in };
}

small_if : (f : Bool) {i j : Interval} → Small i → Small j → Small (cond f i j)
small_if true h k = h
small_if false h k = k

-- a cut's new end is the line's own numbers, so however many cuts follow the ends stay small
pub cut_small : (i : Interval) (a b : ℤ) → Small i → Within (2 ^ 32) a → Within (2 ^ 20) b → Small (cut_to i a b)
unfolding cut_to
cut_small i a b s ha hb =
    small_if (lt_z (pos 0) b)
    (small_if (lt_z (i.lo *ℤ b +ℤ a *ℤ i.lod) (pos 0))
    (record { lo_in = neg_in ha; lod_in = hb; hi_in = s.hi_in; hid_in = s.hid_in })
    s)
    (small_if (lt_z b (pos 0))
    (small_if (lt_z (a *ℤ i.hid +ℤ b *ℤ i.hi) (pos 0))
    (record { lo_in = s.lo_in; lod_in = s.lod_in; hi_in = ha; hid_in = neg_in hb })
    s)
    (small_if (lt_z a (pos 0))
    (record { lo_in = lit_in 1 tt; lod_in = lit_in 1 tt; hi_in = lit_in 0 tt; hid_in = lit_in 1 tt })
    s))

pub gap_at_in : {start span a b at : ℤ} → Within 1440 start → Within 1440 span → IsPosition a → IsPosition b → IsEdge at → Within (2 ^ 32) (gap_at start span a b at)
gap_at_in s d ha hb h = widen tt (sub_in (mul_in d (sub_in ha h)) (mul_in (sub_in hb ha) s))

pub gap_by_in : {span a b v : ℤ} → Within 1440 span → IsPosition a → IsPosition b → IsVelocity v → Within (2 ^ 20) (gap_by span a b v)
gap_by_in d ha hb h = widen tt (sub_in (sub_in hb ha) (mul_in d h))

pub gap_small : {start span a b at v : ℤ} → Within 1440 start → Within 1440 span → IsPosition a → IsPosition b → IsEdge at → IsVelocity v → SmallStraight (gap_line start span a b at v)
gap_small s d ha hb h k = record { a_in = gap_at_in s d ha hb h; b_in = gap_by_in d ha hb k }

pub turned_small : {l : Straight} → SmallStraight l → SmallStraight (turned_line l)
turned_small h = record { a_in = neg_in h.a_in; b_in = neg_in h.b_in }

pub along_small : (start span : ℤ) (e : Edges) (r : Row) (i : Interval) → Within 1440 start → Within 1440 span → EdgesInRange e → RowInRange r → Small i → Small (along_to start span e r i)
unfolding along_to
along_small start span e r i s d he hr hi =
    let under = gap_small s d he.high_in he.high2_in hr.low_in hr.low_velocity_in in
    let over = turned_small (gap_small s d he.low_in he.low2_in hr.high_in hr.high_velocity_in) in
    cut_small _ _ _ (cut_small i _ _ hi under.a_in under.b_in) over.a_in over.b_in

pub whole_small : {q : Query} → QueryInRange q → Small (whole_of q)
whole_small h = record { lo_in = widen tt (minute_in h.start_in); lod_in = lit_in 1 tt; hi_in = widen tt (minute_in h.end_in); hid_in = lit_in 1 tt }

-- between two minutes there are at most 1,440
apart_below : (a b : ℤ) → pos 0 ≤ℤ a → b ≤ℤ pos 1440 → (b -ℤ a) ≤ℤ pos 1440
apart_below = all2 _ λ _ _ _ _. simp difs (omega arith)

pub span_in : {q : Query} → QueryInRange q → Within 1440 (span q)
unfolding span
span_in {q} h = by (lt_z (q.end.at -ℤ q.start.at) (pos 1)) refl
  where
    by : (f : Bool) → lt_z (q.end.at -ℤ q.start.at) (pos 1) ≡ f → Within 1440 (cond f (pos 1) (q.end.at -ℤ q.start.at))
    by true e = lit_in 1 tt
    by false e = from_zero (≤ℤ_trans (le_z_yes tt) (lt_z_false e)) (apart_below q.start.at q.end.at h.start_in.from h.end_in.to)

pub meeting_small : {b : Bounds} {q : Query} → BoundsInRange b → QueryInRange q → Small (meeting_of b q)
unfolding meeting_of
meeting_small hb hk =
    let s = minute_in hk.start_in in
    let d = span_in hk in
    along_small _ _ _ _ _ s d hk.y_in hb.y_in (along_small _ _ _ _ _ s d hk.x_in hb.x_in (whole_small hk))
