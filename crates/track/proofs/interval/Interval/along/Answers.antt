use mathlib.Core.Path.{◌≡◌}
use lib.IntN.{ℤ, pos}
use lib.ListN.{get_or}
use mir.Syntax.{w32, w64}
use mir.Val.{to_z, of_z}
use Rattle.whole.specs.Within.{Within}
use Rattle.whole.specs.Laws.Within.{read32, read64}
use Rattle.track.specs.Meets.{Row, low, high, low_velocity, high_velocity}
use Rattle.track.specs.Query.{EdgesInRange}
use Rattle.track.specs.Inner.Decides.{gap_line, along_to}
use Rattle.track.specs.Inner.Small.{SmallStraight, RowInRange}
use Rattle.track.proofs.Laws.Small.{gap_small, turned_small, cut_small}
use Rattle.track.specs.declared.queries.Edges.{Edges}
use Rattle.track.proofs.interval.Interval.along.Goals as goal

r_minutes : {m : ℤ} → Within 1440 m → to_z w64 (of_z w64 m) ≡ m
r_minutes h = read64 tt h

module _ {e : Edges} (h : EdgesInRange e) where
  r_low : to_z w32 (of_z w32 e.low) ≡ e.low
  r_low = read32 tt h.low_in

  r_high : to_z w32 (of_z w32 e.high) ≡ e.high
  r_high = read32 tt h.high_in

  r_low2 : to_z w32 (of_z w32 e.low2) ≡ e.low2
  r_low2 = read32 tt h.low2_in

  r_high2 : to_z w32 (of_z w32 e.high2) ≡ e.high2
  r_high2 = read32 tt h.high2_in

module _ {r : Row} (h : RowInRange r) where
  r_row_low : to_z w32 (of_z w32 (get_or r 0 (pos 0))) ≡ get_or r 0 (pos 0)
  r_row_low = read32 tt h.low_in

  r_row_high : to_z w32 (of_z w32 (get_or r 1 (pos 0))) ≡ get_or r 1 (pos 0)
  r_row_high = read32 tt h.high_in

  r_row_low_velocity : to_z w32 (of_z w32 (get_or r 2 (pos 0))) ≡ get_or r 2 (pos 0)
  r_row_low_velocity = read32 tt h.low_velocity_in

  r_row_high_velocity : to_z w32 (of_z w32 (get_or r 3 (pos 0))) ≡ get_or r 3 (pos 0)
  r_row_high_velocity = read32 tt h.high_velocity_in

ruleset reads = (r_minutes, r_low, r_high, r_low2, r_high2, r_row_low, r_row_high, r_row_low_velocity, r_row_high_velocity)

-- the two lines are small
module _ {start span : ℤ} {e : Edges} {r : Row} (s : Within 1440 start) (d : Within 1440 span) (edges : EdgesInRange e) (row : RowInRange r) where
  under_small : SmallStraight (gap_line start span e.high e.high2 (low r) (low_velocity r))
  under_small = gap_small s d edges.high_in edges.high2_in row.low_in row.low_velocity_in

  over_small : SmallStraight (gap_line start span e.low e.low2 (high r) (high_velocity r))
  over_small = gap_small s d edges.low_in edges.low2_in row.high_in row.high_velocity_in

pub cut-requires : goal.cut-requires
cut-requires c =
    let edges = c.requires.1 in
    let row = c.requires.2 in
    let s = c.requires.3 in
    let d = c.requires.4 in
    (c.requires.0, rw (simp reads at c.gap-under.ensures) (under_small s d edges row))

pub turned-requires : goal.turned-requires
turned-requires c =
    let edges = c.requires.1 in
    let row = c.requires.2 in
    let s = c.requires.3 in
    let d = c.requires.4 in
    rw (simp reads at c.gap-over.ensures) (over_small s d edges row)

pub cut-requires-2 : goal.cut-requires-2
cut-requires-2 c =
    let edges = c.requires.1 in
    let row = c.requires.2 in
    let s = c.requires.3 in
    let d = c.requires.4 in
    let under = under_small s d edges row in
    rw (c.cut.ensures, c.turned.ensures, simp reads at c.gap-under.ensures, simp reads at c.gap-over.ensures)
    (cut_small _ _ _ c.requires.0 under.a_in under.b_in, turned_small (over_small s d edges row))

pub returns : goal.returns
unfolding along_to
returns c =
    let edges = c.requires.1 in
    let row = c.requires.2 in
    let s = c.requires.3 in
    let d = c.requires.4 in
    rw (c.cut-2.ensures, c.cut.ensures, c.turned.ensures, simp reads at c.gap-under.ensures, simp reads at c.gap-over.ensures)
