-- A law for each way through the code that reads a line: its numbers, its points, the cell through them.
use Rattle.std.specs.Prelude.{◌≡◌, List, ◌∷◌, ◌++◌, ℕ, suc, ◌+◌, ◌/◌, ◌^◌, ◌<◌, ℤ, pos, negsuc, nat_abs, ◌-ℤ◌, Ok, Err, Some, None, drop, ◌≤ℤ◌, ◌<ℤ◌}
use Rattle.std.proofs.Common.{sym, ap, ◌∙◌, subst, arith, leb→le, drop-drop, of_z}
use Rattle.std.specs.Int.{w32}
use Rattle.whole.specs.Within.{Within}
use Rattle.whole.specs.Laws.Within.{abs_neg}
use Rattle.whole.specs.Laws.Difference.{difs, all2}
use Rattle.track.specs.Numbers.{IsVelocity}
use Rattle.track.specs.Laws.Numbers.{minute_in}
use Rattle.track.specs.Life.{CellInRange}
use Rattle.track.specs.declared.cell.Cell.{Cell}
use Rattle.track.specs.declared.refusal.Refusal.TheVariants.{NoTrack}
use Rattle.decimal.specs.Decimal.{SignedDecimal}
use Rattle.decimal.specs.Inner.DigitRuns.{Stops}
use Rattle.decimal.specs.Inner.NumberRead.{NumberRead}
use Rattle.decimal.specs.Laws.Spells.{no_digit, spells_signed, same_signed}
use Rattle.decimal.specs.Laws.SignedDecimal.{signed_digits, signed_read_back}
use Rattle.wkt.specs.TrackLine.{comma, closing, LineOf}
use Rattle.wkt.specs.TrackRead.{GivesCell, ReadsAs, ReadsTrack}
use Rattle.wkt.specs.Laws.Metres.{stands_in}
use Rattle.wkt.specs.Laws.TrackLine.{one_line, point_spread, same_point}
use Rattle.wkt.specs.Laws.TrackRead.{some_minutes, velocity_again, gives_first, gives_last, gives_only, gives_in_range, track_back, line_back, read_accepted, none_read}
use Rattle.wkt.specs.Inner.PointPut.{PointInRange}
use Rattle.wkt.specs.Inner.TrackFound.{units_of, PointStands, PointRead, TrackStands, PointsRead, velocity_of, through_points, InOrder, OnlyThrough, CellThrough}
use Rattle.wkt.specs.declared.point.Point.{Point}

-- ---- a number, where a spelling as it is written stands
module _ (line : List ℕ) (at : ℕ) {y : ℤ} {s : List ℕ} (rest : List ℕ) (g : SignedDecimal y s) (stops : Stops rest) (stands : drop at line ≡ s ++ rest) where
  number_follows : {z : ℤ} (next : ℕ) → NumberRead line at (Some (z, next)) → (z ≡ y) × (drop next line ≡ rest)
  number_follows next (inside, b) = same_signed (spells_signed b.spells) (signed_digits g) b.stops stops (sym b.is ∙ stands)

  number_there : nat_abs y < 10 ^ 9 → NumberRead line at None → ⊥
  number_there small none = none y rest (record { spelling = s; spells = signed_read_back g small; stops = stops; is = stands })

-- past a byte
past_byte : (line : List ℕ) (at : ℕ) {b : ℕ} {l : List ℕ} → drop at line ≡ b ∷ l → drop (at + 1) line ≡ l
past_byte line at e = sym (drop-drop 1 at line) ∙ ap (drop 1) e

-- ---- a point: where each of its numbers stands
module _ {line : List ℕ} {at : ℕ} {q : Point} {rest : List ℕ} (st : PointStands line at q rest) where
  at_x : drop at line ≡ st.spelt.x_text ++ (32 ∷ (st.spelt.y_text ++ (32 ∷ (st.spelt.m_text ++ rest))))
  at_x = st.is ∙ point_spread st.spelt rest

  module _ {x : ℤ} (after-x : ℕ) (rx : NumberRead line at (Some (x, after-x))) where
    x_found : (x ≡ q.x) × (drop after-x line ≡ 32 ∷ (st.spelt.y_text ++ (32 ∷ (st.spelt.m_text ++ rest))))
    x_found = number_follows line at _ st.spelt.x_spelt (no_digit (omega arith)) at_x after-x rx

    at_y : drop (after-x + 1) line ≡ st.spelt.y_text ++ (32 ∷ (st.spelt.m_text ++ rest))
    at_y = past_byte line after-x x_found.1

    module _ {y : ℤ} (after-y : ℕ) (ry : NumberRead line (after-x + 1) (Some (y, after-y))) where
      y_found : (y ≡ q.y) × (drop after-y line ≡ 32 ∷ (st.spelt.m_text ++ rest))
      y_found = number_follows line (after-x + 1) _ st.spelt.y_spelt (no_digit (omega arith)) at_y after-y ry

      at_m : drop (after-y + 1) line ≡ st.spelt.m_text ++ rest
      at_m = past_byte line after-y y_found.1

-- the ways through the code
module _ (line : List ℕ) (at : ℕ) where
  pub point_no_x : NumberRead line at None → PointRead line at None
  point_no_x none = λ q rest st. number_there line at _ st.spelt.x_spelt (no_digit (omega arith)) (at_x st) (omega (arith, st.in_range.x_in.abs)) none

  module _ {x : ℤ} (after-x : ℕ) (rx : NumberRead line at (Some (x, after-x))) where
    pub point_no_y : NumberRead line (after-x + 1) None → PointRead line at None
    point_no_y none = λ q rest st. number_there line (after-x + 1) _ st.spelt.y_spelt (no_digit (omega arith)) (at_y st after-x rx) (omega (arith, st.in_range.y_in.abs)) none

    module _ {y : ℤ} (after-y : ℕ) (ry : NumberRead line (after-x + 1) (Some (y, after-y))) where
      pub point_no_minute : NumberRead line (after-y + 1) None → PointRead line at None
      point_no_minute none = λ q rest st. number_there line (after-y + 1) rest st.spelt.m_spelt st.stops (at_m st after-x rx after-y ry) (omega (arith, (minute_in st.in_range.minute_in).abs)) none

      pub point_found : {m : ℤ} (end : ℕ) → NumberRead line (after-y + 1) (Some (m, end)) → PointRead line at (Some (record { x = x; y = y; minute = m }, end))
      point_found end rm = (
        rm.0,
        λ q rest st.
            let last = number_follows line (after-y + 1) rest st.spelt.m_spelt st.stops (at_m st after-x rx after-y ry) end rm in
            (same_point (x_found st after-x rx).0 (y_found st after-x rx after-y ry).0 last.0, last.1),
      )

-- ---- two points
module _ {line : List ℕ} {first last : Point} (t : TrackStands line first last) where
  first_stands : PointStands line 14 first (comma ++ (t.form.to ++ closing))
  first_stands = record {
    text = t.form.from;
    spelt = t.form.from_spelt;
    in_range = t.first_in;
    stops = no_digit (omega arith);
    is = ap (drop 14) t.form.is;
  }

  module _ {p : Point} (next : ℕ) (r : PointRead line 14 (Some (p, next))) where
    last_stands : PointStands line (next + 2) last closing
    last_stands =
        let past = (r.1 first (comma ++ (t.form.to ++ closing)) first_stands).1 in
        record {
          text = t.form.to;
          spelt = t.form.to_spelt;
          in_range = t.last_in;
          stops = no_digit (omega arith);
          is = sym (drop-drop 2 next line) ∙ ap (drop 2) past;
        }

module _ (line : List ℕ) where
  pub points_no_first : PointRead line 14 None → PointsRead line None
  points_no_first none = λ first last t. none first _ (first_stands t)

  module _ {p : Point} (next : ℕ) (r : PointRead line 14 (Some (p, next))) where
    pub points_no_last : PointRead line (next + 2) None → PointsRead line None
    points_no_last none = λ first last t. none last _ (last_stands t next r)

    pub points_found : {q : Point} (end : ℕ) → PointRead line (next + 2) (Some (q, end)) → PointsRead line (Some (p, q))
    points_found end s = λ first last t. ((r.1 first _ (first_stands t)).0, (s.1 last _ (last_stands t next r)).0)

-- ---- the cell through them
pub units_in : {a : ℤ} → Within (2 ^ 31) a → Within 214748364 (units_of a)
units_in {a = pos n} h = record { abs = omega (arith, h.abs) }
units_in {a = negsuc n} h = record { abs = omega (arith, h.abs, abs_neg (pos (suc n / 10))) }

pub some_bits : (d : ℤ) → pos 1 ≤ℤ d → 0 < of_z w32 d
some_bits (pos n) h = leb→le 1 n h.le
some_bits (negsuc n) h = absurd h.le

pub minutes_between : {first last : Point} → InOrder first last → (pos 1 ≤ℤ (last.minute -ℤ first.minute)) × ((last.minute -ℤ first.minute) ≤ℤ pos 1440)
minutes_between {first} {last} o = (some_minutes first.minute last.minute o.before, no_more first.minute last.minute o.first_in.from o.last_in.to)
  where
    no_more : (m n : ℤ) → pos 0 ≤ℤ m → n ≤ℤ pos 1440 → (n -ℤ m) ≤ℤ pos 1440
    no_more = all2 _ λ _ _ _ _. simp difs (λ h k. omega (arith, h, k))

module _ {id : ℤ} {first last : Point} where
  pub through_backward : (InOrder first last → ⊥) → CellThrough id first last None
  through_backward n = λ d g. n (record { first_in = g.first_minute_in; last_in = g.last_minute_in; before = g.in_order })

  pub through_fast : {vx vy : ℤ} → vx ≡ velocity_of first.x last.x (last.minute -ℤ first.minute) → vy ≡ velocity_of first.y last.y (last.minute -ℤ first.minute)
      → (IsVelocity vx × IsVelocity vy → ⊥) → CellThrough id first last None
  through_fast e f n = λ d g. n (
    subst IsVelocity (sym (e ∙ velocity_again g.on_x g.in_order)) g.on_x.velocity_in,
    subst IsVelocity (sym (f ∙ velocity_again g.on_y g.in_order)) g.on_y.velocity_in,
  )

  module _ {c : Cell} (is : c ≡ through_points id first last) where
    pub through_outside : (CellInRange c → ⊥) → CellThrough id first last None
    through_outside n = λ d g. n (subst CellInRange (sym (is ∙ gives_only g)) (gives_in_range g))

    pub through_found : CellInRange c → InOrder first last → CellThrough id first last (Some c)
    through_found h order = record {
      in_range = h;
      identifier_is = ap (λ (d : Cell). d.id) is;
      minute_in = order.first_in;
      lives = subst (λ (t : ℤ). first.minute <ℤ t) (sym (ap (λ (d : Cell). d.expiry.at) is)) order.before;
      only = λ d g. is ∙ gives_only g;
    }

-- ---- the answer
-- what is read stands there, in a cell's range
reads_stands : {id : ℤ} {line : List ℕ} {c : Cell} (r : ReadsAs id line c) → TrackStands line r.first r.last
reads_stands r =
    let g = r.gives in
    let h = gives_in_range g in
    record {
      form = r.form;
      first_in = subst PointInRange (sym (gives_first g)) (stands_in h g.first_minute_in);
      last_in = subst PointInRange (sym (gives_last g)) (stands_in h h.expiry_in);
    }

module _ {id : ℤ} {line : List ℕ} where
  pub read_no_points : PointsRead line None → ReadsTrack id line (Err NoTrack)
  read_no_points none = none_read (λ c r. none r.first r.last (reads_stands r))

  module _ {first last : Point} (both : PointsRead line (Some (first, last))) where
    -- a cell that is read goes through the points that were found
    goes_through : {c : Cell} → ReadsAs id line c → GivesCell id first last c
    goes_through {c} r =
        let same = both r.first r.last (reads_stands r) in
        subst (λ (p : Point). GivesCell id p last c) (sym same.0) (subst (λ (q : Point). GivesCell id r.first q c) (sym same.1) r.gives)

    pub read_no_cell : ((c : Cell) → GivesCell id first last c → ⊥) → ReadsTrack id line (Err NoTrack)
    read_no_cell none = none_read (λ c r. none c (goes_through r))

    module _ {c : Cell} (through : OnlyThrough id first last c) {own : List ℕ} (is : LineOf first.minute c own) where
      pub read_other : (line ≡ own → ⊥) → ReadsTrack id line (Err NoTrack)
      read_other n = none_read (λ d r.
          let minute = ap (λ (p : Point). p.minute) (both r.first r.last (reads_stands r)).0 in
          let same = through.only d (goes_through r) in
          n (one_line (line_back r) (subst (λ (m : ℤ). LineOf m d own) minute (subst (λ (k : Cell). LineOf first.minute k own) same is))))

      pub read_same : line ≡ own → ReadsTrack id line (Ok c)
      read_same e =
          let back = track_back through.in_range through.minute_in through.lives (subst (LineOf first.minute c) (sym e) is) in
          let read = subst (λ (k : ℤ). ReadsAs k line c) through.identifier_is back in
          read_accepted read
