-- The interval of the test holds the instants of the rule: on one axis, on both, in life. So whether bounds meet a query is decided.
use Rattle.std.specs.Prelude.{◌≡◌, ◌↔◌, Bool, true, false, [], ℤ, pos, neg_ℤ, ◌+ℤ◌, ◌-ℤ◌, ◌*ℤ◌, ◌≤ℤ◌, get_or}
use Rattle.std.proofs.Common.{ap, ◌∙◌, arith}
use Rattle.std.specs.Int.Signed.{lt_z, le_z_yes}
use Rattle.whole.specs.Laws.Difference.{all2, all4, difs}
use Rattle.whole.specs.Laws.Order.{of_gap, gap_of, ring, *ℤ_one}
use Rattle.whole.specs.Tells.{Tells}
use Rattle.whole.specs.Laws.Tells.{tells_as, failed, decided}
use Rattle.track.specs.Meets.{Instant, InQuery, Row, low, high, low_velocity, high_velocity, span, edge_at, moved_at, Touches, Bounds, Meets}
use Rattle.track.specs.Inner.Cut.{cut_to, lives_in}
use Rattle.track.proofs.Laws.Cut.{Inside, Proper, Above, cut_law, lives_law}
use Rattle.track.specs.Inner.Decides.{gap_at, gap_by, along_to}
use Rattle.track.specs.declared.interval.Interval.{Interval}
use Rattle.track.specs.declared.queries.Edges.{Edges}
use Rattle.track.specs.declared.queries.Query.{Query}

abbrev pub whole_of : Query → Interval
whole_of q = record { lo = q.start.at; lod = pos 1; hi = q.end.at; hid = pos 1 }

-- the instants of the query at which the bounds touch its rectangle on x, and those at which they do on y as well
abbrev pub interval_on_x : Bounds → Query → Interval
interval_on_x b q = along_to q.start.at (span q) q.x (get_or b 0 []) (whole_of q)

unfoldable pub meeting_of : Bounds → Query → Interval
meeting_of b q = along_to q.start.at (span q) q.y (get_or b 1 []) (interval_on_x b q)

unfoldable pub meets_in : Bounds → ℤ → Query → Bool
meets_in b expiry q = lives_in (meeting_of b q) expiry

-- ---- the ways through the span's code
pub span_one : (q : Query) → lt_z (q.end.at -ℤ q.start.at) (pos 1) ≡ true → pos 1 ≡ span q
unfolding span
span_one q e = rw e

pub span_minutes : (q : Query) → lt_z (q.end.at -ℤ q.start.at) (pos 1) ≡ false → q.end.at -ℤ q.start.at ≡ span q
unfolding span
span_minutes q e = rw e

-- ---- one axis
gap_line_lem : (s start a b at v p q : ℤ) → (a *ℤ s *ℤ q +ℤ (b -ℤ a) *ℤ (p -ℤ start *ℤ q)) -ℤ s *ℤ (at *ℤ q +ℤ v *ℤ p) ≡ gap_at start s a b at *ℤ q +ℤ gap_by s a b v *ℤ p
gap_line_lem s start a b at v p q = simp ring

turned : (a b p q : ℤ) → neg_ℤ (a *ℤ q +ℤ b *ℤ p) ≡ neg_ℤ a *ℤ q +ℤ neg_ℤ b *ℤ p
turned = all4 _ λ _ _ _ _ _ _ _ _. simp difs (omega arith)

gap_turned : (x y : ℤ) → y -ℤ x ≡ neg_ℤ (x -ℤ y)
gap_turned = all2 _ λ _ _ _ _. simp difs (omega arith)

module _ (q : Query) (a b at v : ℤ) (t : Instant) where
  edge_gap : edge_at q a b t -ℤ moved_at q at v t ≡ gap_at q.start.at (span q) a b at *ℤ t.q +ℤ gap_by (span q) a b v *ℤ t.p
  edge_gap = gap_line_lem (span q) q.start.at a b at v t.p t.q

  under : moved_at q at v t ≤ℤ edge_at q a b t → Above (gap_at q.start.at (span q) a b at) (gap_by (span q) a b v) t
  under h = rw (← edge_gap) (gap_of _ _ h)

  under_back : Above (gap_at q.start.at (span q) a b at) (gap_by (span q) a b v) t → moved_at q at v t ≤ℤ edge_at q a b t
  under_back h = of_gap _ _ (rw edge_gap h)

  moved_gap : moved_at q at v t -ℤ edge_at q a b t ≡ neg_ℤ (gap_at q.start.at (span q) a b at) *ℤ t.q +ℤ neg_ℤ (gap_by (span q) a b v) *ℤ t.p
  moved_gap = gap_turned (edge_at q a b t) (moved_at q at v t) ∙ ap neg_ℤ edge_gap ∙ turned (gap_at q.start.at (span q) a b at) (gap_by (span q) a b v) t.p t.q

  over : edge_at q a b t ≤ℤ moved_at q at v t → Above (neg_ℤ (gap_at q.start.at (span q) a b at)) (neg_ℤ (gap_by (span q) a b v)) t
  over h = rw (← moved_gap) (gap_of _ _ h)

  over_back : Above (neg_ℤ (gap_at q.start.at (span q) a b at)) (neg_ℤ (gap_by (span q) a b v)) t → edge_at q a b t ≤ℤ moved_at q at v t
  over_back h = of_gap _ _ (rw moved_gap h)

-- r holds the instants of i at which the row touches the edges
pub record Along (q : Query) (e : Edges) (row : Row) (i r : Interval) : Type 0 where
  pub proper : Proper r
  pub into : (t : Instant) → Inside i t → Touches q e row t → Inside r t
  pub back : (t : Instant) → Inside r t → Inside i t × Touches q e row t

pub along_law : (q : Query) (e : Edges) (row : Row) (i : Interval) → Proper i → Along q e row i (along_to q.start.at (span q) e row i)
unfolding along_to
along_law q e row i s =
    let first = cut_law i (gap_at q.start.at (span q) e.high e.high2 (low row)) (gap_by (span q) e.high e.high2 (low_velocity row)) s in
    let second = cut_law (cut_to i (gap_at q.start.at (span q) e.high e.high2 (low row)) (gap_by (span q) e.high e.high2 (low_velocity row))) (neg_ℤ (gap_at q.start.at (span q) e.low e.low2 (high row))) (neg_ℤ (gap_by (span q) e.low e.low2 (high_velocity row))) first.proper in
    record {
      proper = second.proper;
      into = λ t m n.
          second.into t
          (first.into t m (under q e.high e.high2 (low row) (low_velocity row) t n.below))
          (over q e.low e.low2 (high row) (high_velocity row) t n.above);
      back = λ t m.
          let n = second.back t m in
          let o = first.back t n.0 in
          (o.0, record { below = under_back q e.high e.high2 (low row) (low_velocity row) t o.1; above = over_back q e.low e.low2 (high row) (high_velocity row) t n.1 });
    }

-- ---- the query's own times
pub whole_proper : (q : Query) → Proper (whole_of q)
whole_proper q = record { lod_positive = le_z_yes tt; hid_positive = le_z_yes tt }

pub whole_law : (q : Query) (t : Instant) → Inside (whole_of q) t ↔ InQuery q t
whole_law q t = (
  λ m. record { from = rw *ℤ_one at m.after; to = rw *ℤ_one at m.until },
  λ m. record { after = rw *ℤ_one m.from; until = rw *ℤ_one m.to },
)

-- ---- both axes
-- r holds the instants of the query at which the bounds touch its rectangle
pub record Meeting (b : Bounds) (q : Query) (r : Interval) : Type 0 where
  pub proper : Proper r
  pub into : (t : Instant) → InQuery q t → Touches q q.x (get_or b 0 []) t → Touches q q.y (get_or b 1 []) t → Inside r t
  pub back : (t : Instant) → Inside r t → InQuery q t × Touches q q.x (get_or b 0 []) t × Touches q q.y (get_or b 1 []) t

pub meeting_law : (b : Bounds) (q : Query) → Meeting b q (meeting_of b q)
unfolding meeting_of
meeting_law b q =
    let x = along_law q q.x (get_or b 0 []) (whole_of q) (whole_proper q) in
    let y = along_law q q.y (get_or b 1 []) (interval_on_x b q) x.proper in
    record {
      proper = y.proper;
      into = λ t m on_x on_y. y.into t (x.into t ((whole_law q t).1 m) on_x) on_y;
      back = λ t m.
          let n = y.back t m in
          let o = x.back t n.0 in
          ((whole_law q t).0 o.0, o.1, n.1);
    }

pub meets_law : (b : Bounds) (expiry : ℤ) (q : Query) → Tells (meets_in b expiry q) (Meets b expiry q)
unfolding meets_in
meets_law b expiry q =
    let during = meeting_law b q in
    tells_as (lives_law (meeting_of b q) expiry during.proper)
    (λ m.
    let n = during.back m.at m.inside in
    record { at = m.at; in_query = n.0; in_life = m.in_life; on_x = n.1; on_y = n.2 })
    (λ m. record { at = m.at; inside = during.into m.at m.in_query m.on_x m.on_y; in_life = m.in_life })

-- what is on x at no instant in life meets nothing
pub never_on_x : (b : Bounds) (expiry : ℤ) (q : Query) → lives_in (interval_on_x b q) expiry ≡ false → Meets b expiry q → ⊥
never_on_x b expiry q e m =
    let x = along_law q q.x (get_or b 0 []) (whole_of q) (whole_proper q) in
    failed (lives_law (interval_on_x b q) expiry x.proper) e
    (record { at = m.at; inside = x.into m.at ((whole_law q m.at).1 m.in_query) m.on_x; in_life = m.in_life })

-- so whether bounds meet a query is decided
pub meets? : (b : Bounds) (expiry : ℤ) (q : Query) → Dec (Meets b expiry q)
meets? b expiry q = decided (meets_law b expiry q)
