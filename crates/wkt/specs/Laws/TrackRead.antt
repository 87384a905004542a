-- The cell that a line gives: it is one, its line is the one that was read, and the line of a cell gives the cell back.
use Rattle.std.specs.Prelude.{◌≡◌, refl, List, ℕ, ℤ, pos, ◌+ℤ◌, ◌-ℤ◌, ◌*ℤ◌, ◌≤ℤ◌, ◌<ℤ◌, Result, Ok, Err}
use Rattle.std.proofs.Common.{sym, ap, ap₂, ◌∙◌, subst, inl, inr, arith}
use Rattle.std.proofs.Math.IntN.{*ℤ_comm}
use Rattle.std.specs.Int.Signed.{quot_z, le_z_yes}
use Rattle.whole.specs.Laws.Quotients.{quot_exact}
use Rattle.whole.specs.Laws.Difference.{difs, all2, all3, all4}
use Rattle.track.specs.Numbers.{IsMinute, IsVelocity, IsKept}
use Rattle.track.specs.Life.{LivesAt, CellInRange}
use Rattle.track.specs.Laws.Refusals.{first_fixed, same_answer}
use Rattle.track.specs.declared.cell.Cell.{Cell}
use Rattle.track.specs.declared.refusal.Refusal.TheVariants.{NoTrack}
use Rattle.wkt.specs.Metres.{metres, stands_at}
use Rattle.wkt.specs.TrackLine.{PointForm, TrackForm, LineOf}
use Rattle.wkt.specs.TrackRead.{AxisGives, GivesCell, ReadsAs, track_reasons, ReadsTrack}
use Rattle.wkt.specs.Laws.TrackLine.{live_line, line_of_live, form_fixed, same_point}
use Rattle.wkt.specs.Inner.TrackFound.{units_of, velocity_of, kept_of, through_points}
use Rattle.wkt.specs.declared.point.Point.{Point}
use Rattle.track.specs.declared.refusal.Refusal.{Refusal}
use Rattle.track.specs.Refusals.{number_of}

-- ---- on one axis: kept at z with velocity v, a cell stands at z + v m at the minute m
stands_there : (z u v m : ℤ) → z ≡ u -ℤ v *ℤ m → u ≡ z +ℤ v *ℤ m
stands_there = all4 _ λ _ _ _ _ _ _ _ _. simp difs (λ h. omega (arith, h))

kept_back : (z v m : ℤ) → z ≡ (z +ℤ v *ℤ m) -ℤ v *ℤ m
kept_back = all3 _ λ _ _ _ _ _ _. simp difs (omega arith)

gone_between : (z v m n : ℤ) → (z +ℤ v *ℤ n) -ℤ (z +ℤ v *ℤ m) ≡ v *ℤ (n -ℤ m)
gone_between = all4 _ λ _ _ _ _ _ _ _ _. simp difs (omega arith)

less_and_more : (t u : ℤ) → t ≡ (t -ℤ u) +ℤ u
less_and_more = all2 _ λ _ _ _ _. simp difs (omega arith)

from_there : (z v m n : ℤ) → v *ℤ (n -ℤ m) +ℤ (z +ℤ v *ℤ m) ≡ z +ℤ v *ℤ n
from_there = all4 _ λ _ _ _ _ _ _ _ _. simp difs (omega arith)

pub some_minutes : (m n : ℤ) → m <ℤ n → pos 1 ≤ℤ (n -ℤ m)
some_minutes = all2 _ λ _ _ _ _. simp difs (λ h. omega (arith, h))

-- ---- metres that are whole units
units_exact : (u : ℤ) → units_of (pos 10 *ℤ u) ≡ u
units_exact u = ap units_of (*ℤ_comm (pos 10) u) ∙ quot_exact u (pos 10) (le_z_yes tt)

-- ---- what the two positions say, and where the cell stands
module _ {m n a b z v : ℤ} (g : AxisGives m n a b z v) where
  first_there : g.first_units ≡ z +ℤ v *ℤ m
  first_there = stands_there z g.first_units v m g.kept_is

  last_there : g.last_units ≡ z +ℤ v *ℤ n
  last_there = less_and_more g.last_units g.first_units ∙ ap₂ ◌+ℤ◌ g.velocity_whole first_there ∙ from_there z v m n

  first_metres : a ≡ metres z v m
  first_metres = g.first_whole ∙ ap (λ (u : ℤ). pos 10 *ℤ u) first_there

  last_metres : b ≡ metres z v n
  last_metres = g.last_whole ∙ ap (λ (u : ℤ). pos 10 *ℤ u) last_there

  -- worked out again
  pub velocity_again : m <ℤ n → velocity_of a b (n -ℤ m) ≡ v
  velocity_again order =
      let from = ap units_of first_metres ∙ units_exact (z +ℤ v *ℤ m) in
      let to = ap units_of last_metres ∙ units_exact (z +ℤ v *ℤ n) in
      ap₂ (λ x y. quot_z (x -ℤ y) (n -ℤ m)) to from ∙ ap (λ (d : ℤ). quot_z d (n -ℤ m)) (gone_between z v m n) ∙ quot_exact v (n -ℤ m) (some_minutes m n order)

  pub kept_again : kept_of a v m ≡ z
  kept_again = ap (λ (u : ℤ). u -ℤ v *ℤ m) (ap units_of first_metres ∙ units_exact (z +ℤ v *ℤ m)) ∙ sym (kept_back z v m)

axis_stands : (z v m n : ℤ) → IsKept z → IsVelocity v → AxisGives m n (metres z v m) (metres z v n) z v
axis_stands z v m n h k = record {
  first_units = z +ℤ v *ℤ m;
  last_units = z +ℤ v *ℤ n;
  first_whole = refl;
  last_whole = refl;
  velocity_whole = gone_between z v m n;
  kept_is = kept_back z v m;
  velocity_in = k;
  kept_in = h;
}

-- ---- two points and their cell
module _ {id : ℤ} {first last : Point} {c : Cell} (g : GivesCell id first last c) where
  pub gives_first : first ≡ stands_at c first.minute
  gives_first = same_point (first_metres g.on_x) (first_metres g.on_y) refl

  pub gives_last : last ≡ stands_at c c.expiry.at
  gives_last =
      let m = g.expiry_is in
      same_point (last_metres g.on_x ∙ ap (metres c.x c.vx) (sym m)) (last_metres g.on_y ∙ ap (metres c.y c.vy) (sym m)) (sym m)

  pub gives_in_range : CellInRange c
  gives_in_range = record {
    identifier = rw g.identifier_is g.identifier_in;
    x_in = g.on_x.kept_in;
    vx_in = g.on_x.velocity_in;
    y_in = g.on_y.kept_in;
    vy_in = g.on_y.velocity_in;
    expiry_in = rw g.expiry_is g.last_minute_in;
  }

  -- and it is the only one
  pub gives_only : through_points id first last ≡ c
  gives_only =
      let vx = velocity_again g.on_x g.in_order in
      let vy = velocity_again g.on_y g.in_order in
      let x = ap (λ (v : ℤ). kept_of first.x v first.minute) vx ∙ kept_again g.on_x in
      let y = ap (λ (v : ℤ). kept_of first.y v first.minute) vy ∙ kept_again g.on_y in
      all (sym g.identifier_is) x vx y vy (sym g.expiry_is)
    where
      all : id ≡ c.id → kept_of first.x (velocity_of first.x last.x (last.minute -ℤ first.minute)) first.minute ≡ c.x
          → velocity_of first.x last.x (last.minute -ℤ first.minute) ≡ c.vx
          → kept_of first.y (velocity_of first.y last.y (last.minute -ℤ first.minute)) first.minute ≡ c.y
          → velocity_of first.y last.y (last.minute -ℤ first.minute) ≡ c.vy → last.minute ≡ c.expiry.at → through_points id first last ≡ c
      all e0 e1 e2 e3 e4 e5 i = record { id = e0 i; x = e1 i; vx = e2 i; y = e3 i; vy = e4 i; expiry = record { at = e5 i } }

-- ---- there and back
-- the line of a cell in range that lives at the clock, read with its identifier, gives the cell
pub track_back : {clock : ℤ} {c : Cell} {line : List ℕ} → CellInRange c → IsMinute clock → LivesAt clock c → LineOf clock c line → ReadsAs c.id line c
track_back {clock} {c} h m lives line = record {
  first = stands_at c clock;
  last = stands_at c c.expiry.at;
  form = live_line lives line;
  gives = record {
    identifier_is = refl;
    expiry_is = refl;
    on_x = axis_stands c.x c.vx clock c.expiry.at h.x_in h.vx_in;
    on_y = axis_stands c.y c.vy clock c.expiry.at h.y_in h.vy_in;
    in_order = lives;
    identifier_in = h.identifier;
    first_minute_in = m;
    last_minute_in = h.expiry_in;
  };
}

-- an accepted line is the line, at its first minute, of the cell that it gives, byte for byte
pub line_back : {id : ℤ} {line : List ℕ} {c : Cell} (r : ReadsAs id line c) → LineOf r.first.minute c line
line_back {line} {c} r =
    let g = r.gives in
    line_of_live (subst (λ (t : ℤ). r.first.minute <ℤ t) (sym g.expiry_is) g.in_order)
    (subst (λ (p : Point). TrackForm (stands_at c r.first.minute) p line) (gives_last g) (subst (λ (p : Point). TrackForm p r.last line) (gives_first g) r.form))

-- a line of one point gives none
pub point_not_read : {id : ℤ} {line : List ℕ} {p : Point} {c : Cell} → PointForm p line → ReadsAs id line c → ⊥
point_not_read form r =
    let e = sym form.is ∙ r.form.is in
    let first : ◌≡◌ {A = ℕ} 80 76 = cc in
    omega arith

-- ---- one cell, and one answer
pub reads_same : {id : ℤ} {line : List ℕ} {c d : Cell} → ReadsAs id line c → ReadsAs id line d → c ≡ d
reads_same {id} r s =
    let same = form_fixed r.form s.form in
    sym (gives_only r.gives) ∙ ap₂ (through_points id) same.0 same.1 ∙ gives_only s.gives

pub read_accepted : {id : ℤ} {line : List ℕ} {c : Cell} → ReadsAs id line c → ReadsTrack id line (Ok c)
read_accepted {c} r = record { refusal = inr (λ none. none c r, refl); cell = r }

pub none_read : {id : ℤ} {line : List ℕ} → ((c : Cell) → ReadsAs id line c → ⊥) → ReadsTrack id line (Err NoTrack)
none_read n = record { refusal = inl (n, refl); cell = tt }

pub read_track_fixed : {id : ℤ} {line : List ℕ} (r s : Result Cell Refusal) → ReadsTrack id line r → ReadsTrack id line s → r ≡ s
read_track_fixed {id} {line} r s p q =
    same_answer r s (first_fixed (track_reasons id line) (number_of r) (number_of s) p.refusal q.refusal)
    (λ c d e f. reads_same (rw e at p.cell) (rw f at q.cell))
