-- P1 to P9 hold: by a test that is computed over the table, and a law for each kind of claim that turns the test into it.
use Rattle.std.specs.Prelude.{◌≡◌, refl, ◌↔◌, Bool, true, false, not, cond, List, [], ◌∷◌, T, ℤ, pos, ◌-ℤ◌, ◌*ℤ◌, get_or, ◌≤ℤ◌}
use Rattle.std.proofs.Common.{sym, ap₂, subst, ◌∙◌, arith}
use Rattle.std.specs.Int.Signed.{le_z, lt_z, le_z_yes, lt_z_yes}
use Rattle.whole.specs.Laws.Difference.{all2, difs, cross}
use Rattle.whole.specs.Laws.Order.{≤ℤ_antisym, of_gap, gap_of, positive, cancel, ring}
use Rattle.whole.specs.Tells.{Tells}
use Rattle.track.specs.Numbers.{kept}
use Rattle.track.specs.Meets.{Instant, InLife, Row, Bounds, MeetsAt, CellMeets, cell_bounds, span}
use Rattle.track.specs.Hull.{hull, low_at, high_at, picked, lesser, greater}
use Rattle.track.specs.Inner.Cut.{cut_to, lives_in}
use Rattle.track.specs.Laws.Life.{earlier_lives}
use Rattle.track.proofs.Laws.Cut.{Inside, Proper}
use Rattle.track.specs.Inner.Decides.{along_to}
use Rattle.track.proofs.Laws.Decides.{whole_of, meets_in, meeting_of, along_law, whole_proper, whole_law, meeting_law, meets_law}
use Rattle.track.specs.Tracks.{Stretch, ◌to◌, During, Throughout, Claim, meets, misses, meets_from, misses_though, keeps, spans, InsideOn, Holds, Track, P, tracks, AllHold}
use Rattle.track.specs.declared.interval.Interval.{Interval}
use Rattle.track.specs.declared.queries.Edges.{Edges}
use Rattle.track.specs.declared.queries.Query.{Query}

-- ---- tests of two at once, and of equal numbers and rows
abbrev both : Bool → Bool → Bool
both a b = cond a b false

both_split : (a b : Bool) → T (both a b) → T a × T b
both_split true b t = (tt, t)
both_split false b t = absurd t

abbrev same_number_test : ℤ → ℤ → Bool
same_number_test a b = both (le_z a b) (le_z b a)

same_eq : (a b : ℤ) → T (same_number_test a b) → a ≡ b
same_eq a b t = let h = both_split (le_z a b) (le_z b a) t in ≤ℤ_antisym a b (le_z_yes h.0) (le_z_yes h.1)

abbrev same_row : Row → Row → Bool
same_row [] [] = true
same_row [] (b ∷ bs) = false
same_row (a ∷ as') [] = false
same_row (a ∷ as') (b ∷ bs) = both (same_number_test a b) (same_row as' bs)

same_row_eq : (r s : Row) → T (same_row r s) → r ≡ s
same_row_eq [] [] t = refl
same_row_eq [] (b ∷ bs) t = absurd t
same_row_eq (a ∷ as') [] t = absurd t
same_row_eq (a ∷ as') (b ∷ bs) t =
    let h = both_split (same_number_test a b) (same_row as' bs) t in
    ap₂ (λ (z : ℤ) (zs : Row). z ∷ zs) (same_eq a b h.0) (same_row_eq as' bs h.1)

-- ---- an interval and a stretch whose ends are the same fractions
times_not_negative : (a b : ℤ) → pos 0 ≤ℤ a → pos 0 ≤ℤ b → pos 0 ≤ℤ (a *ℤ b)
times_not_negative = all2 _ λ _ _ _ _. simp difs (λ h k. omega (arith, cross h k))

-- two differences of which one is the other by a fraction above 0
scaled : (d e x y : ℤ) → pos 1 ≤ℤ d → pos 1 ≤ℤ e → d *ℤ y ≡ e *ℤ x → pos 0 ≤ℤ x → pos 0 ≤ℤ y
scaled d e x y h k eq n = cancel d y h (rw eq (times_not_negative e x (positive k) n))

-- n/d and m/e are the same: what is not before the one is not before the other, and what is not after it neither
module _ (n d m e : ℤ) (h : pos 1 ≤ℤ d) (k : pos 1 ≤ℤ e) (eq : n *ℤ e ≡ m *ℤ d) (p q : ℤ) where
  low_end : (n *ℤ q) ≤ℤ (p *ℤ d) → (m *ℤ q) ≤ℤ (p *ℤ e)
  low_end l = of_gap _ _ (scaled d e (p *ℤ d -ℤ n *ℤ q) (p *ℤ e -ℤ m *ℤ q) h k (left ∙ rw (← eq) (sym right)) (gap_of _ _ l))
    where
      left : d *ℤ (p *ℤ e -ℤ m *ℤ q) ≡ d *ℤ (p *ℤ e) -ℤ m *ℤ d *ℤ q
      left = simp ring

      right : e *ℤ (p *ℤ d -ℤ n *ℤ q) ≡ d *ℤ (p *ℤ e) -ℤ n *ℤ e *ℤ q
      right = simp ring

  high_end : (p *ℤ d) ≤ℤ (n *ℤ q) → (p *ℤ e) ≤ℤ (m *ℤ q)
  high_end l = of_gap _ _ (scaled d e (n *ℤ q -ℤ p *ℤ d) (m *ℤ q -ℤ p *ℤ e) h k (left ∙ rw (← eq) (sym right)) (gap_of _ _ l))
    where
      left : d *ℤ (m *ℤ q -ℤ p *ℤ e) ≡ m *ℤ d *ℤ q -ℤ d *ℤ (p *ℤ e)
      left = simp ring

      right : e *ℤ (n *ℤ q -ℤ p *ℤ d) ≡ n *ℤ e *ℤ q -ℤ d *ℤ (p *ℤ e)
      right = simp ring

abbrev same_ends : Interval → Stretch → Bool
same_ends i (first to last) = both (same_number_test (i.lo *ℤ first.q) (first.p *ℤ i.lod)) (same_number_test (i.hi *ℤ last.q) (last.p *ℤ i.hid))

stretch_law : (i : Interval) (s : Stretch) → Proper i → T (same_ends i s) → (t : Instant) → Inside i t ↔ During s t
stretch_law i (first to last) proper same_ends t =
    let split = both_split (same_number_test (i.lo *ℤ first.q) (first.p *ℤ i.lod)) (same_number_test (i.hi *ℤ last.q) (last.p *ℤ i.hid)) same_ends in
    let low = same_eq (i.lo *ℤ first.q) (first.p *ℤ i.lod) split.0 in
    let high = same_eq (i.hi *ℤ last.q) (last.p *ℤ i.hid) split.1 in (
      λ m. (
        low_end i.lo i.lod first.p first.q proper.lod_positive first.q_positive low t.p t.q m.after,
        high_end i.hi i.hid last.p last.q proper.hid_positive last.q_positive high t.p t.q m.until,
      ),
      λ m. record {
        after = low_end first.p first.q i.lo i.lod first.q_positive proper.lod_positive (sym low) t.p t.q m.0;
        until = high_end last.p last.q i.hi i.hid last.q_positive proper.hid_positive (sym high) t.p t.q m.1;
      },
    )

-- ---- a law for each kind of claim
-- the stretch's last instant is in life
abbrev lives_on : ℤ → Stretch → Bool
lives_on expiry (first to last) = lt_z last.p (expiry *ℤ last.q)

in_life : (expiry : ℤ) (s : Stretch) (t : Instant) → T (lives_on expiry s) → During s t → InLife expiry t
in_life expiry (first to last) t lives m = earlier_lives t last m.1 (record { before = lt_z_yes lives })

meets_throughout : (b : Bounds) (expiry : ℤ) (q : Query) (s : Stretch) → T (same_ends (meeting_of b q) s) → T (lives_on expiry s) → Throughout s (MeetsAt b expiry q)
meets_throughout b expiry q s same_ends lives t =
    let during = meeting_law b q in
    let ends = stretch_law (meeting_of b q) s during.proper same_ends in (
      λ m.
          let at = m.0 in
          subst (During s) m.1 ((ends at.at).0 (during.into at.at at.in_query at.on_x at.on_y)),
      λ m.
          let n = during.back t ((ends t).1 m) in
          (record { at = t; in_query = n.0; in_life = in_life expiry s t lives m; on_x = n.1; on_y = n.2 }, refl),
    )

abbrev inside_test : Query → Edges → Row → Stretch → Bool
inside_test q e row s = same_ends (along_to q.start.at (span q) e row (whole_of q)) s

inside_throughout : (q : Query) (e : Edges) (row : Row) (s : Stretch) → T (inside_test q e row s) → Throughout s (InsideOn q e row)
inside_throughout q e row s same_ends t =
    let along = along_law q e row (whole_of q) (whole_proper q) in
    let ends = stretch_law (along_to q.start.at (span q) e row (whole_of q)) s along.proper same_ends t in (
      λ m. ends.0 (along.into t ((whole_law q t).1 m.0) m.1),
      λ m. let n = along.back t (ends.1 m) in ((whole_law q t).0 n.0, n.1),
    )

missed : (b : Bool) (A : Type 0) → Tells b A → T (not b) → A → ⊥
missed true A h t a = t
missed false A h t a = h.seen a

-- ---- the test of a claim
abbrev test : Claim → Bool
test (meets c q) = meets_in (cell_bounds c) c.expiry.at q
test (misses c q) = not (meets_in (cell_bounds c) c.expiry.at q)
test (meets_from c q s) =
    both (meets_in (cell_bounds c) c.expiry.at q) (both (same_ends (meeting_of (cell_bounds c) q) s) (lives_on c.expiry.at s))
test (misses_though c q x y) =
    both (not (meets_in (cell_bounds c) c.expiry.at q))
    (both (inside_test q q.x (get_or (cell_bounds c) 0 []) x) (inside_test q q.y (get_or (cell_bounds c) 1 []) y))
test (keeps x v t z) = same_number_test (kept x v t) z
test (spans r s stamp h minute lo hi) =
    both (same_row (hull stamp r (s ∷ [])) h) (both (same_number_test (low_at minute h) lo) (same_number_test (high_at minute h) hi))

test_holds : (claim : Claim) → T (test claim) → Holds claim
test_holds (meets c q) h = (meets_law (cell_bounds c) c.expiry.at q).sure h
test_holds (misses c q) h = missed (meets_in (cell_bounds c) c.expiry.at q) (CellMeets c q) (meets_law (cell_bounds c) c.expiry.at q) h
test_holds (meets_from c q s) h =
    let f = both_split (meets_in (cell_bounds c) c.expiry.at q) (both (same_ends (meeting_of (cell_bounds c) q) s) (lives_on c.expiry.at s)) h in
    let g = both_split (same_ends (meeting_of (cell_bounds c) q) s) (lives_on c.expiry.at s) f.1 in
    ((meets_law (cell_bounds c) c.expiry.at q).sure f.0, meets_throughout (cell_bounds c) c.expiry.at q s g.0 g.1)
test_holds (misses_though c q x y) h =
    let f = both_split (not (meets_in (cell_bounds c) c.expiry.at q)) (both (inside_test q q.x (get_or (cell_bounds c) 0 []) x) (inside_test q q.y (get_or (cell_bounds c) 1 []) y)) h in
    let g = both_split (inside_test q q.x (get_or (cell_bounds c) 0 []) x) (inside_test q q.y (get_or (cell_bounds c) 1 []) y) f.1 in (
      missed (meets_in (cell_bounds c) c.expiry.at q) (CellMeets c q) (meets_law (cell_bounds c) c.expiry.at q) f.0,
      inside_throughout q q.x (get_or (cell_bounds c) 0 []) x g.0,
      inside_throughout q q.y (get_or (cell_bounds c) 1 []) y g.1,
    )
test_holds (keeps x v t z) h = same_eq (kept x v t) z h
test_holds (spans r s stamp h minute lo hi) t =
    let f = both_split (same_row (hull stamp r (s ∷ [])) h) (both (same_number_test (low_at minute h) lo) (same_number_test (high_at minute h) hi)) t in
    let g = both_split (same_number_test (low_at minute h) lo) (same_number_test (high_at minute h) hi) f.1 in
    (same_row_eq (hull stamp r (s ∷ [])) h f.0, same_eq (low_at minute h) lo g.0, same_eq (high_at minute h) hi g.1)

-- ---- the whole table
abbrev all_tests : List Track → Bool
all_tests [] = true
all_tests (P n claim ∷ ts) = both (test claim) (all_tests ts)

all_hold : (ts : List Track) → T (all_tests ts) → AllHold ts
all_hold [] t = tt
all_hold (P n claim ∷ ts) h = let f = both_split (test claim) (all_tests ts) h in (test_holds claim f.0, all_hold ts f.1)

pub tracks_hold : AllHold tracks
unfolding tracks meets_in meeting_of along_to cut_to lives_in span picked lesser greater
tracks_hold = all_hold tracks tt
