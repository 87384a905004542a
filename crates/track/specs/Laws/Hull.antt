-- The conservative rule's law: a hull covers each of its rows from the stamp on, so it touches a query wherever one of them does.
use Rattle.std.specs.Prelude.{◌≡◌, refl, ◌⊎◌, Bool, true, false, cond, List, [], ◌∷◌, map, ℤ, pos, ◌+ℤ◌, ◌-ℤ◌, ◌*ℤ◌, ◌≤ℤ◌}
use Rattle.std.proofs.Common.{inl, inr, ⊎_elim, arith}
use mathlib.Core.List.Memᴰ
use Rattle.std.proofs.Math.IntN.{*ℤ_comm, -ℤ-+ℤ_cancel}
use Rattle.std.specs.Int.Signed.{lt_z, ≤ℤ_refl}
use Rattle.whole.specs.Laws.Difference.{all5, difs}
use Rattle.whole.specs.Lists.{◌∈◌}
use Rattle.whole.specs.Laws.Order.{lt_z_true, lt_z_false, <ℤ→≤ℤ, ≤ℤ_trans, +ℤ_mono, *ℤ_mono, gap_of, positive}
use Rattle.track.specs.Meets.{Instant, Row, low, high, low_velocity, high_velocity, span, Touches}
use Rattle.track.specs.Hull.{low_at, high_at, lesser, greater, picked, least_of, greatest_of, hull}
use Rattle.track.specs.declared.queries.Edges.{Edges}
use Rattle.track.specs.declared.queries.Query.{Query}

-- ---- the lesser and the greater of two
lesser_law : (a b : ℤ) → (lesser a b ≤ℤ a) × (lesser a b ≤ℤ b) × ((lesser a b ≡ a) ⊎ (lesser a b ≡ b))
unfolding lesser
lesser_law a b = by (lt_z b a) refl
  where
    by : (f : Bool) → lt_z b a ≡ f → (cond f b a ≤ℤ a) × (cond f b a ≤ℤ b) × ((cond f b a ≡ a) ⊎ (cond f b a ≡ b))
    by true e = (<ℤ→≤ℤ (lt_z_true e), ≤ℤ_refl b, inr refl)
    by false e = (≤ℤ_refl a, lt_z_false e, inl refl)

greater_law : (a b : ℤ) → (a ≤ℤ greater a b) × (b ≤ℤ greater a b) × ((greater a b ≡ a) ⊎ (greater a b ≡ b))
unfolding greater
greater_law a b = by (lt_z a b) refl
  where
    by : (f : Bool) → lt_z a b ≡ f → (a ≤ℤ cond f b a) × (b ≤ℤ cond f b a) × ((cond f b a ≡ a) ⊎ (cond f b a ≡ b))
    by true e = (<ℤ→≤ℤ (lt_z_true e), ≤ℤ_refl b, inr refl)
    by false e = (≤ℤ_refl a, lt_z_false e, inl refl)

-- what stands in m ∷ ys, where m is one of z and y, stands in z ∷ y ∷ ys
one_of : {x m z y : ℤ} {ys : List ℤ} → (m ≡ z) ⊎ (m ≡ y) → x ∈ m ∷ ys → x ∈ z ∷ y ∷ ys
one_of {x} {m} {z} {y} {ys} c h = by c (Memᴰ.cases_cons h)
  where
    by : (m ≡ z) ⊎ (m ≡ y) → (x ≡ m) ⊎ x ∈ ys → x ∈ z ∷ y ∷ ys
    by (inl d) (inl e) = let f : x ≡ z = cc in Memᴰ.head f
    by (inr d) (inl e) = let f : x ≡ y = cc in Memᴰ.tail (Memᴰ.head f)
    by d (inr n) = Memᴰ.tail (Memᴰ.tail n)

-- ---- the least and the greatest of several
-- the least is below each of them
pub least_below : (z : ℤ) (ys : List ℤ) {x : ℤ} → x ∈ z ∷ ys → least_of z ys ≤ℤ x
unfolding picked
least_below z [] m = rw (Memᴰ.eq_of_singleton m) (≤ℤ_refl z)
least_below z (y ∷ ys) {x} m = by (λ x. least_below (lesser z y) ys {x = x}) (Memᴰ.cases_cons m)
  where
    by : ((x : ℤ) → x ∈ lesser z y ∷ ys → least_of (lesser z y) ys ≤ℤ x) → (x ≡ z) ⊎ x ∈ y ∷ ys → least_of (lesser z y) ys ≤ℤ x
    by below (inl e) = rw e (≤ℤ_trans (below (lesser z y) (Memᴰ.head refl)) (lesser_law z y).0)
    by below (inr n) =
        ⊎_elim (λ (e : x ≡ y). rw e (≤ℤ_trans (below (lesser z y) (Memᴰ.head refl)) (lesser_law z y).1)) (λ k. below x (Memᴰ.tail k)) (Memᴰ.cases_cons n)

-- and is one of them
pub least_in : (z : ℤ) (ys : List ℤ) → least_of z ys ∈ z ∷ ys
unfolding picked
least_in z [] = Memᴰ.head refl
least_in z (y ∷ ys) = one_of (lesser_law z y).2 (least_in (lesser z y) ys)

-- the greatest is above each of them
pub greatest_above : (z : ℤ) (ys : List ℤ) {x : ℤ} → x ∈ z ∷ ys → x ≤ℤ greatest_of z ys
unfolding picked
greatest_above z [] m = rw (Memᴰ.eq_of_singleton m) (≤ℤ_refl z)
greatest_above z (y ∷ ys) {x} m = by (λ x. greatest_above (greater z y) ys {x = x}) (Memᴰ.cases_cons m)
  where
    by : ((x : ℤ) → x ∈ greater z y ∷ ys → x ≤ℤ greatest_of (greater z y) ys) → (x ≡ z) ⊎ x ∈ y ∷ ys → x ≤ℤ greatest_of (greater z y) ys
    by above (inl e) = rw e (≤ℤ_trans (greater_law z y).0 (above (greater z y) (Memᴰ.head refl)))
    by above (inr n) =
        ⊎_elim (λ (e : x ≡ y). rw e (≤ℤ_trans (greater_law z y).1 (above (greater z y) (Memᴰ.head refl)))) (λ k. above x (Memᴰ.tail k)) (Memᴰ.cases_cons n)

-- and is one of them
pub greatest_in : (z : ℤ) (ys : List ℤ) → greatest_of z ys ∈ z ∷ ys
unfolding picked
greatest_in z [] = Memᴰ.head refl
greatest_in z (y ∷ ys) = one_of (greater_law z y).2 (greatest_in (greater z y) ys)

-- ---- a hull and its rows
-- the row h covers the row s from the stamp on: it holds it at the stamp, and its edges part no slower
pub record Covers (stamp : ℤ) (h s : Row) : Type 0 where
  pub low_velocity_lem : low_velocity h ≤ℤ low_velocity s
  pub high_velocity_lem : high_velocity s ≤ℤ high_velocity h
  pub low_edge : low_at stamp h ≤ℤ low_at stamp s
  pub high_edge : high_at stamp s ≤ℤ high_at stamp h

-- each of its four numbers, the edges taken at the stamp, is that of one of the rows
pub record Tight (stamp : ℤ) (h : Row) (rows : List Row) : Type 0 where
  pub low_velocity_lem : (s : Row) × s ∈ rows × (low_velocity s ≡ low_velocity h)
  pub high_velocity_lem : (s : Row) × s ∈ rows × (high_velocity s ≡ high_velocity h)
  pub low_edge : (s : Row) × s ∈ rows × (low_at stamp s ≡ low_at stamp h)
  pub high_edge : (s : Row) × s ∈ rows × (high_at stamp s ≡ high_at stamp h)

module _ (stamp : ℤ) (r : Row) (rs : List Row) where
  -- the edges at the stamp, found again from those at minute 0
  low_again : low_at stamp (hull stamp r rs) ≡ least_of (low_at stamp r) (map (low_at stamp) rs)
  low_again = -ℤ-+ℤ_cancel _ (least_of (low_velocity r) (map low_velocity rs) *ℤ stamp)

  high_again : high_at stamp (hull stamp r rs) ≡ greatest_of (high_at stamp r) (map (high_at stamp) rs)
  high_again = -ℤ-+ℤ_cancel _ (greatest_of (high_velocity r) (map high_velocity rs) *ℤ stamp)

  pub hull_covers : {s : Row} → s ∈ r ∷ rs → Covers stamp (hull stamp r rs) s
  hull_covers m = record {
    low_velocity_lem = least_below _ _ (Memᴰ.map low_velocity m);
    high_velocity_lem = greatest_above _ _ (Memᴰ.map high_velocity m);
    low_edge = rw low_again (least_below _ _ (Memᴰ.map (low_at stamp) m));
    high_edge = rw high_again (greatest_above _ _ (Memᴰ.map (high_at stamp) m));
  }

  pub hull_tight : Tight stamp (hull stamp r rs) (r ∷ rs)
  hull_tight = record {
    low_velocity_lem = Memᴰ.of_map low_velocity (r ∷ rs) (least_in _ _);
    high_velocity_lem = Memᴰ.of_map high_velocity (r ∷ rs) (greatest_in _ _);
    low_edge = rw low_again (Memᴰ.of_map (low_at stamp) (r ∷ rs) (least_in _ _));
    high_edge = rw high_again (Memᴰ.of_map (high_at stamp) (r ∷ rs) (greatest_in _ _));
  }

-- ---- at every instant from the stamp on
-- where it is at the instant, told from where it is at the stamp
from_stamp : (a v stamp p q : ℤ) → (a +ℤ v *ℤ stamp) *ℤ q +ℤ v *ℤ (p -ℤ stamp *ℤ q) ≡ a *ℤ q +ℤ v *ℤ p
from_stamp = all5 _ λ _ _ _ _ _ _ _ _ _ _. simp difs (omega arith)

-- what is at a and goes by v is below what is at b and goes by w at the instant p/q, if it is so at the stamp and v is not above w
stays_below : (a v b w stamp p q : ℤ) → pos 0 ≤ℤ q → (a +ℤ v *ℤ stamp) ≤ℤ (b +ℤ w *ℤ stamp) → v ≤ℤ w → (stamp *ℤ q) ≤ℤ p → (a *ℤ q +ℤ v *ℤ p) ≤ℤ (b *ℤ q +ℤ w *ℤ p)
stays_below a v b w stamp p q g h k m =
    rw (← from_stamp a v stamp p q, ← from_stamp b w stamp p q) (+ℤ_mono _ _ _ _ (*ℤ_mono _ _ q h g) (*ℤ_mono _ _ (p -ℤ stamp *ℤ q) k (gap_of p (stamp *ℤ q) m)))

module _ {stamp : ℤ} {h s : Row} (c : Covers stamp h s) (t : Instant) (late : (stamp *ℤ t.q) ≤ℤ t.p) where
  pub low_covers : (low h *ℤ t.q +ℤ low_velocity h *ℤ t.p) ≤ℤ (low s *ℤ t.q +ℤ low_velocity s *ℤ t.p)
  low_covers = stays_below (low h) (low_velocity h) (low s) (low_velocity s) stamp t.p t.q (positive t.q_positive) c.low_edge c.low_velocity_lem late

  pub high_covers : (high s *ℤ t.q +ℤ high_velocity s *ℤ t.p) ≤ℤ (high h *ℤ t.q +ℤ high_velocity h *ℤ t.p)
  high_covers = stays_below (high s) (high_velocity s) (high h) (high_velocity h) stamp t.p t.q (positive t.q_positive) c.high_edge c.high_velocity_lem late

-- ---- in a query's words
pub span_positive : (q : Query) → pos 1 ≤ℤ span q
unfolding span
span_positive q = by (lt_z (q.end.at -ℤ q.start.at) (pos 1)) refl
  where
    by : (f : Bool) → lt_z (q.end.at -ℤ q.start.at) (pos 1) ≡ f → pos 1 ≤ℤ cond f (pos 1) (q.end.at -ℤ q.start.at)
    by true e = ≤ℤ_refl (pos 1)
    by false e = lt_z_false e

scaled : (d a b : ℤ) → pos 1 ≤ℤ d → a ≤ℤ b → (d *ℤ a) ≤ℤ (d *ℤ b)
scaled d a b h k = rw (*ℤ_comm d a, *ℤ_comm d b) (*ℤ_mono a b d k (positive h))

-- where a row touches, so does any that covers it
pub covers_touches : {stamp : ℤ} {h s : Row} → Covers stamp h s → (q : Query) (e : Edges) (t : Instant) → (stamp *ℤ t.q) ≤ℤ t.p → Touches q e s t → Touches q e h t
covers_touches c q e t late m = record {
  below = ≤ℤ_trans (scaled (span q) _ _ (span_positive q) (low_covers c t late)) m.below;
  above = ≤ℤ_trans m.above (scaled (span q) _ _ (span_positive q) (high_covers c t late));
}
