-- An interval cut by a straight line holds the instants at which the line is not negative, and no others.
use Rattle.std.specs.Prelude.{◌≡◌, Bool, cond, ℤ, pos, neg_ℤ, ◌+ℤ◌, ◌-ℤ◌, ◌*ℤ◌, ◌≤ℤ◌, ◌<ℤ◌}
use Rattle.std.proofs.Math.Path.{refl}
use Rattle.std.proofs.Math.Bool.{true, false}
use Rattle.std.proofs.Common.{mul-le-mul_right, arith}
use Rattle.std.specs.Int.Signed.{lt_z, le_z, le_z_yes, lt_z_yes, ≤ℤ_refl, clash_ℤ}
use Rattle.whole.specs.Laws.Difference.{each, nat, all2, all3, all4, difs, cross}
use Rattle.whole.specs.Laws.Order.{lt_z_true, lt_z_false, le_z_true, le_z_false, <ℤ→≤ℤ, ≤ℤ_antisym, of_gap, positive, cancel}
use Rattle.whole.specs.Tells.{Tells}
use Rattle.whole.specs.Laws.Tells.{tells_false}
use Rattle.track.specs.Meets.{Instant, InLife}
use Rattle.track.specs.Laws.Life.{in_order, earlier_lives}
use Rattle.track.specs.Inner.Cut.{starts_at, ends_at, never, cut_to, lives_in}
use Rattle.track.specs.declared.interval.Interval.{Interval}

-- ---- what an interval means
-- lo/lod ≤ p/q ≤ hi/hid, multiplied through
pub record Inside (i : Interval) (t : Instant) : Type 0 where
  pub after : (i.lo *ℤ t.q) ≤ℤ (t.p *ℤ i.lod)
  pub until : (t.p *ℤ i.hid) ≤ℤ (i.hi *ℤ t.q)

-- the ends are fractions
pub record Proper (i : Interval) : Type 0 where
  pub lod_positive : pos 1 ≤ℤ i.lod
  pub hid_positive : pos 1 ≤ℤ i.hid

-- a + b τ is not negative at the instant, multiplied by q
abbrev pub Above : ℤ → ℤ → Instant → Type 0
Above a b t = pos 0 ≤ℤ (a *ℤ t.q +ℤ b *ℤ t.p)

-- r holds the instants of i at which a + b τ is not negative
pub record Cuts (i : Interval) (a b : ℤ) (r : Interval) : Type 0 where
  pub proper : Proper r
  pub into : (t : Instant) → Inside i t → Above a b t → Inside r t
  pub back : (t : Instant) → Inside r t → Inside i t × Above a b t

-- ---- laws of ends: l/d is the lower one, u/e the upper one
-- where the line is not negative at the lower end and goes up, it is not negative from there on
low_stays_d : (l a b p d : ℤ) → pos 0 ≤ℤ d → (q : ℤ) → pos 0 ≤ℤ q → pos 0 ≤ℤ b → pos 0 ≤ℤ (l *ℤ b +ℤ a *ℤ d) → (l *ℤ q) ≤ℤ (p *ℤ d) → pos 0 ≤ℤ (d *ℤ (a *ℤ q +ℤ b *ℤ p))
low_stays_d = all4 _ λ _ _ _ _ _ _ _ _. nat _ λ d. nat _ λ q. simp difs (λ h k m. omega (arith, mul-le-mul_right q k, cross h m))

-- where it is negative there, the part begins later, at −a/b
low_moves_b : (l a b p d : ℤ) → pos 0 ≤ℤ d → (q : ℤ) → pos 0 ≤ℤ q → (l *ℤ b +ℤ a *ℤ d) <ℤ pos 0 → (neg_ℤ a *ℤ q) ≤ℤ (p *ℤ b) → pos 0 ≤ℤ (b *ℤ (p *ℤ d -ℤ l *ℤ q))
low_moves_b = all4 _ λ _ _ _ _ _ _ _ _. nat _ λ d. nat _ λ q. simp difs (λ k m. omega (arith, mul-le-mul_right q k, mul-le-mul_right d m))

low_line : (a b p q : ℤ) → pos 0 ≤ℤ (a *ℤ q +ℤ b *ℤ p) → (neg_ℤ a *ℤ q) ≤ℤ (p *ℤ b)
low_line = all4 _ λ _ _ _ _ _ _ _ _. simp difs (omega arith)

line_low : (a b p q : ℤ) → (neg_ℤ a *ℤ q) ≤ℤ (p *ℤ b) → pos 0 ≤ℤ (a *ℤ q +ℤ b *ℤ p)
line_low = all4 _ λ _ _ _ _ _ _ _ _. simp difs (omega arith)

-- the same at the upper end, where the line goes down
high_stays_e : (u a b p e : ℤ) → pos 0 ≤ℤ e → (q : ℤ) → pos 0 ≤ℤ q → b ≤ℤ pos 0 → pos 0 ≤ℤ (a *ℤ e +ℤ b *ℤ u) → (p *ℤ e) ≤ℤ (u *ℤ q) → pos 0 ≤ℤ (e *ℤ (a *ℤ q +ℤ b *ℤ p))
high_stays_e = all4 _ λ _ _ _ _ _ _ _ _. nat _ λ e. nat _ λ q. simp difs (λ h k m. omega (arith, mul-le-mul_right q k, cross h m))

high_moves_b : (u a b p e : ℤ) → pos 0 ≤ℤ e → (q : ℤ) → pos 0 ≤ℤ q → (a *ℤ e +ℤ b *ℤ u) <ℤ pos 0 → (p *ℤ neg_ℤ b) ≤ℤ (a *ℤ q) → pos 0 ≤ℤ (neg_ℤ b *ℤ (u *ℤ q -ℤ p *ℤ e))
high_moves_b = all4 _ λ _ _ _ _ _ _ _ _. nat _ λ e. nat _ λ q. simp difs (λ k m. omega (arith, mul-le-mul_right q k, mul-le-mul_right e m))

high_line : (a b p q : ℤ) → pos 0 ≤ℤ (a *ℤ q +ℤ b *ℤ p) → (p *ℤ neg_ℤ b) ≤ℤ (a *ℤ q)
high_line = all4 _ λ _ _ _ _ _ _ _ _. simp difs (omega arith)

line_high : (a b p q : ℤ) → (p *ℤ neg_ℤ b) ≤ℤ (a *ℤ q) → pos 0 ≤ℤ (a *ℤ q +ℤ b *ℤ p)
line_high = all4 _ λ _ _ _ _ _ _ _ _. simp difs (omega arith)

-- a line that stays level
level : (a b p q : ℤ) → pos 0 ≤ℤ q → b ≡ pos 0 → pos 0 ≤ℤ a → pos 0 ≤ℤ (a *ℤ q +ℤ b *ℤ p)
level a b p q h e k = rw e (from_zero_line a p q h k)
  where
    from_zero_line : (a p q : ℤ) → pos 0 ≤ℤ q → pos 0 ≤ℤ a → pos 0 ≤ℤ (a *ℤ q +ℤ pos 0 *ℤ p)
    from_zero_line = all3 _ λ _ _ _ _ _ _. simp difs (λ h k. omega (arith, cross h k))

sunk : (a b p q : ℤ) → pos 1 ≤ℤ q → b ≡ pos 0 → a <ℤ pos 0 → pos 0 ≤ℤ (a *ℤ q +ℤ b *ℤ p) → ⊥
sunk a b p q h e k m = below_zero a p q h k (rw e at m)
  where
    below_zero : (a p q : ℤ) → pos 1 ≤ℤ q → a <ℤ pos 0 → pos 0 ≤ℤ (a *ℤ q +ℤ pos 0 *ℤ p) → ⊥
    below_zero = all3 _ λ _ _ _ _ _ _. simp difs (λ h k m. omega (arith, cross h k))

empty : (p q : ℤ) → pos 1 ≤ℤ q → (pos 1 *ℤ q) ≤ℤ (p *ℤ pos 1) → (p *ℤ pos 1) ≤ℤ (pos 0 *ℤ q) → ⊥
empty = all2 _ λ _ _ _ _. simp difs (omega arith)

one_le : (b : ℤ) → pos 0 <ℤ b → pos 1 ≤ℤ b
one_le = each _ λ _ _. simp difs (omega arith)

one_le_neg : (b : ℤ) → b <ℤ pos 0 → pos 1 ≤ℤ neg_ℤ b
one_le_neg = each _ λ _ _. simp difs (omega arith)

-- ---- one law for each way through the cut
module _ (i : Interval) (a b : ℤ) (s : Proper i) where
  unchanged : ((t : Instant) → Inside i t → Above a b t) → Cuts i a b i
  unchanged f = record { proper = s; into = λ t m n. m; back = λ t m. (m, f t m) }

  low_stays : pos 0 <ℤ b → pos 0 ≤ℤ (i.lo *ℤ b +ℤ a *ℤ i.lod) → Cuts i a b i
  low_stays h k =
      unchanged λ t m.
      cancel i.lod _ s.lod_positive
      (low_stays_d i.lo a b t.p i.lod (positive s.lod_positive) t.q (positive t.q_positive) (<ℤ→≤ℤ h) k m.after)

  low_moves : pos 0 <ℤ b → (i.lo *ℤ b +ℤ a *ℤ i.lod) <ℤ pos 0 → Cuts i a b (starts_at i (neg_ℤ a) b)
  low_moves h k = record {
    proper = record { lod_positive = one_le b h; hid_positive = s.hid_positive };
    into = λ t m n. record { after = low_line a b t.p t.q n; until = m.until };
    back = λ t m. (
      record {
        after =
            of_gap _ _
            (cancel b _ (one_le b h)
            (low_moves_b i.lo a b t.p i.lod (positive s.lod_positive) t.q (positive t.q_positive) k m.after));
        until = m.until;
      },
      line_low a b t.p t.q m.after,
    );
  }

  high_stays : b <ℤ pos 0 → pos 0 ≤ℤ (a *ℤ i.hid +ℤ b *ℤ i.hi) → Cuts i a b i
  high_stays h k =
      unchanged λ t m.
      cancel i.hid _ s.hid_positive
      (high_stays_e i.hi a b t.p i.hid (positive s.hid_positive) t.q (positive t.q_positive) (<ℤ→≤ℤ h) k m.until)

  high_moves : b <ℤ pos 0 → (a *ℤ i.hid +ℤ b *ℤ i.hi) <ℤ pos 0 → Cuts i a b (ends_at i a (neg_ℤ b))
  high_moves h k = record {
    proper = record { lod_positive = s.lod_positive; hid_positive = one_le_neg b h };
    into = λ t m n. record { after = m.after; until = high_line a b t.p t.q n };
    back = λ t m. (
      record {
        after = m.after;
        until =
            of_gap _ _
            (cancel (neg_ℤ b) _ (one_le_neg b h)
            (high_moves_b i.hi a b t.p i.hid (positive s.hid_positive) t.q (positive t.q_positive) k m.until));
      },
      line_high a b t.p t.q m.until,
    );
  }

  level_stays : b ≡ pos 0 → pos 0 ≤ℤ a → Cuts i a b i
  level_stays e k = unchanged λ t m. level a b t.p t.q (positive t.q_positive) e k

  none_stays : b ≡ pos 0 → a <ℤ pos 0 → Cuts i a b never
  none_stays e k = record {
    proper = record { lod_positive = le_z_yes tt; hid_positive = le_z_yes tt };
    into = λ t m n. absurd (sunk a b t.p t.q t.q_positive e k n);
    back = λ t m. absurd (empty t.p t.q t.q_positive m.after m.until);
  }

  rising : pos 0 <ℤ b → (f : Bool) → lt_z (i.lo *ℤ b +ℤ a *ℤ i.lod) (pos 0) ≡ f → Cuts i a b (cond f (starts_at i (neg_ℤ a) b) i)
  rising h true e = low_moves h (lt_z_true e)
  rising h false e = low_stays h (lt_z_false e)

  falling : b <ℤ pos 0 → (f : Bool) → lt_z (a *ℤ i.hid +ℤ b *ℤ i.hi) (pos 0) ≡ f → Cuts i a b (cond f (ends_at i a (neg_ℤ b)) i)
  falling h true e = high_moves h (lt_z_true e)
  falling h false e = high_stays h (lt_z_false e)

  staying : b ≡ pos 0 → (f : Bool) → lt_z a (pos 0) ≡ f → Cuts i a b (cond f never i)
  staying h true e = none_stays h (lt_z_true e)
  staying h false e = level_stays h (lt_z_false e)

  not_rising : b ≤ℤ pos 0 → (f : Bool) → lt_z b (pos 0) ≡ f
      → Cuts i a b (cond f (cond (lt_z (a *ℤ i.hid +ℤ b *ℤ i.hi) (pos 0)) (ends_at i a (neg_ℤ b)) i) (cond (lt_z a (pos 0)) never i))
  not_rising h true e = falling (lt_z_true e) _ refl
  not_rising h false e = staying (≤ℤ_antisym _ _ h (lt_z_false e)) _ refl

  pub cut_law : Cuts i a b (cut_to i a b)
  unfolding cut_to
  cut_law = by (lt_z (pos 0) b) refl
    where
      by : (f : Bool) → lt_z (pos 0) b ≡ f
          → Cuts i a b
          (cond f
          (cond (lt_z (i.lo *ℤ b +ℤ a *ℤ i.lod) (pos 0)) (starts_at i (neg_ℤ a) b) i)
          (cond (lt_z b (pos 0)) (cond (lt_z (a *ℤ i.hid +ℤ b *ℤ i.hi) (pos 0)) (ends_at i a (neg_ℤ b)) i) (cond (lt_z a (pos 0)) never i)))
      by true e = rising (lt_z_true e) _ refl
      by false e = not_rising (lt_z_false e) _ refl

-- ---- the ways through the code
module _ (i : Interval) (a b : ℤ) where
  pub rising_later : lt_z (pos 0) b ≡ true → lt_z (i.lo *ℤ b +ℤ a *ℤ i.lod) (pos 0) ≡ true → starts_at i (neg_ℤ a) b ≡ cut_to i a b
  unfolding cut_to
  rising_later e f = rw (e, f)

  pub rising_same : lt_z (pos 0) b ≡ true → lt_z (i.lo *ℤ b +ℤ a *ℤ i.lod) (pos 0) ≡ false → i ≡ cut_to i a b
  unfolding cut_to
  rising_same e f = rw (e, f)

  pub falling_earlier : lt_z (pos 0) b ≡ false → lt_z b (pos 0) ≡ true → lt_z (a *ℤ i.hid +ℤ b *ℤ i.hi) (pos 0) ≡ true → ends_at i a (neg_ℤ b) ≡ cut_to i a b
  unfolding cut_to
  falling_earlier e f g = rw (e, f, g)

  pub falling_same : lt_z (pos 0) b ≡ false → lt_z b (pos 0) ≡ true → lt_z (a *ℤ i.hid +ℤ b *ℤ i.hi) (pos 0) ≡ false → i ≡ cut_to i a b
  unfolding cut_to
  falling_same e f g = rw (e, f, g)

  pub level_never : lt_z (pos 0) b ≡ false → lt_z b (pos 0) ≡ false → lt_z a (pos 0) ≡ true → never ≡ cut_to i a b
  unfolding cut_to
  level_never e f g = rw (e, f, g)

  pub level_same : lt_z (pos 0) b ≡ false → lt_z b (pos 0) ≡ false → lt_z a (pos 0) ≡ false → i ≡ cut_to i a b
  unfolding cut_to
  level_same e f g = rw (e, f, g)

pub record SomeIn (i : Interval) (expiry : ℤ) : Type 0 where
  pub at : Instant
  pub inside : Inside i at
  pub in_life : InLife expiry at

in_order_lives : (i : Interval) (expiry : ℤ) → Proper i → (i.lo *ℤ i.hid) ≤ℤ (i.hi *ℤ i.lod) → Tells (lt_z i.lo (expiry *ℤ i.lod)) (SomeIn i expiry)
in_order_lives i expiry s h = record {
  sure = λ k. record { at = low_end; inside = record { after = ≤ℤ_refl (i.lo *ℤ i.lod); until = h }; in_life = record { before = lt_z_yes k } };
  seen = λ x. (earlier_lives low_end x.at x.inside.after x.in_life).before.lt;
}
  where
    low_end : Instant
    low_end = record { p = i.lo; q = i.lod; q_positive = s.lod_positive }

pub lives_law : (i : Interval) (expiry : ℤ) → Proper i → Tells (lives_in i expiry) (SomeIn i expiry)
unfolding lives_in
lives_law i expiry s = by (le_z (i.lo *ℤ i.hid) (i.hi *ℤ i.lod)) refl
  where
    by : (f : Bool) → le_z (i.lo *ℤ i.hid) (i.hi *ℤ i.lod) ≡ f → Tells (cond f (lt_z i.lo (expiry *ℤ i.lod)) false) (SomeIn i expiry)
    by true e = in_order_lives i expiry s (le_z_true e)
    by false e =
        tells_false λ x.
        clash_ℤ (le_z_false e) (in_order i.lo i.lod i.hi i.hid x.at s.lod_positive s.hid_positive x.inside.after x.inside.until)

pub lives_in_order : (i : Interval) (expiry : ℤ) → le_z (i.lo *ℤ i.hid) (i.hi *ℤ i.lod) ≡ true → lt_z i.lo (expiry *ℤ i.lod) ≡ lives_in i expiry
unfolding lives_in
lives_in_order i expiry e = rw e

pub lives_never : (i : Interval) (expiry : ℤ) → le_z (i.lo *ℤ i.hid) (i.hi *ℤ i.lod) ≡ false → false ≡ lives_in i expiry
unfolding lives_in
lives_never i expiry e = rw e
