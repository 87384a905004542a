-- Laws of ℤ that the kit lacks: the ring, the order, and what a test's flag says of the order.
use Rattle.std.specs.Prelude.{◌≡◌, refl, ◌⊎◌, Bool, true, false, not, T, ℤ, pos, negsuc, neg_ℤ, ◌+ℤ◌, ◌-ℤ◌, ◌*ℤ◌, ◌≤ℤ◌, ◌<ℤ◌}
use Rattle.std.proofs.Common.{sym, subst, inl, inr, ⊎_elim, arith, lt→ltb}
use Rattle.std.proofs.Math.Dec.{nleb→lt}
use Rattle.std.proofs.Math.IntN.{*ℤ_comm, +ℤ_assoc, +ℤ_comm, neg_ℤ-+ℤ, neg_ℤ-neg_ℤ, ℤ_discrete}
use Rattle.std.specs.Int.Signed.{le_z, lt_z, le_z_yes, lt_z_yes, lt_z_no}
use Rattle.whole.specs.Laws.Difference.{each, all2, all3, all4, difs, cross}
use Rattle.whole.specs.Tells.{Tells}
use Rattle.whole.specs.Laws.Tells.{dec_stable, stable}

-- ---- the ring
pub *ℤ_assoc : (a b c : ℤ) → a *ℤ b *ℤ c ≡ a *ℤ (b *ℤ c)
*ℤ_assoc = all3 _ λ _ _ _ _ _ _. simp difs (omega arith)

pub *ℤ-+ℤ : (a b c : ℤ) → a *ℤ (b +ℤ c) ≡ a *ℤ b +ℤ a *ℤ c
*ℤ-+ℤ = all3 _ λ _ _ _ _ _ _. simp difs (omega arith)

pub +ℤ-*ℤ : (a b c : ℤ) → (a +ℤ b) *ℤ c ≡ a *ℤ c +ℤ b *ℤ c
+ℤ-*ℤ = all3 _ λ _ _ _ _ _ _. simp difs (omega arith)

pub *ℤ_left_comm : (a b c : ℤ) → a *ℤ (b *ℤ c) ≡ b *ℤ (a *ℤ c)
*ℤ_left_comm = all3 _ λ _ _ _ _ _ _. simp difs (omega arith)

pub +ℤ_left_comm : (a b c : ℤ) → a +ℤ (b +ℤ c) ≡ b +ℤ (a +ℤ c)
+ℤ_left_comm = all3 _ λ _ _ _ _ _ _. simp difs (omega arith)

pub neg-*ℤ : (a b : ℤ) → neg_ℤ a *ℤ b ≡ neg_ℤ (a *ℤ b)
neg-*ℤ = all2 _ λ _ _ _ _. simp difs (omega arith)

pub *ℤ-neg : (a b : ℤ) → a *ℤ neg_ℤ b ≡ neg_ℤ (a *ℤ b)
*ℤ-neg = all2 _ λ _ _ _ _. simp difs (omega arith)

pub *ℤ_one : (a : ℤ) → a *ℤ pos 1 ≡ a
*ℤ_one = each _ λ _ _. simp difs (omega arith)

-- sorts both sides of an equation of sums of products, at any size: `simp ring`. It cancels nothing
pub ruleset ring = (*ℤ-+ℤ, +ℤ-*ℤ, *ℤ_assoc, *ℤ_comm, *ℤ_left_comm, +ℤ_assoc, +ℤ_comm, +ℤ_left_comm, neg-*ℤ, *ℤ-neg, neg_ℤ-+ℤ, neg_ℤ-neg_ℤ)

-- ---- the order
pub ≤ℤ_trans : {a b c : ℤ} → a ≤ℤ b → b ≤ℤ c → a ≤ℤ c
≤ℤ_trans {a} {b} {c} = all a b c
  where
    all : (a b c : ℤ) → a ≤ℤ b → b ≤ℤ c → a ≤ℤ c
    all = all3 _ λ _ _ _ _ _ _. simp difs (omega arith)

pub <ℤ_trans : {a b c : ℤ} → a <ℤ b → b <ℤ c → a <ℤ c
<ℤ_trans {a} {b} {c} = all a b c
  where
    all : (a b c : ℤ) → a <ℤ b → b <ℤ c → a <ℤ c
    all = all3 _ λ _ _ _ _ _ _. simp difs (omega arith)

pub ≤ℤ-<ℤ_trans : {a b c : ℤ} → a ≤ℤ b → b <ℤ c → a <ℤ c
≤ℤ-<ℤ_trans {a} {b} {c} = all a b c
  where
    all : (a b c : ℤ) → a ≤ℤ b → b <ℤ c → a <ℤ c
    all = all3 _ λ _ _ _ _ _ _. simp difs (omega arith)

pub ≤ℤ_antisym : (a b : ℤ) → a ≤ℤ b → b ≤ℤ a → a ≡ b
≤ℤ_antisym = all2 _ λ _ _ _ _. simp difs (omega arith)

pub <ℤ→≤ℤ : {a b : ℤ} → a <ℤ b → a ≤ℤ b
<ℤ→≤ℤ {a} {b} = all a b
  where
    all : (a b : ℤ) → a <ℤ b → a ≤ℤ b
    all = all2 _ λ _ _ _ _. simp difs (omega arith)

pub +ℤ_mono : (a b c d : ℤ) → a ≤ℤ b → c ≤ℤ d → (a +ℤ c) ≤ℤ (b +ℤ d)
+ℤ_mono = all4 _ λ _ _ _ _ _ _ _ _. simp difs (omega arith)

pub *ℤ_mono : (a b t : ℤ) → a ≤ℤ b → pos 0 ≤ℤ t → (a *ℤ t) ≤ℤ (b *ℤ t)
*ℤ_mono = all3 _ λ _ _ _ _ _ _. simp difs (λ h k. omega (arith, cross h k))

-- a difference that is not negative is an order
pub of_gap : (x y : ℤ) → pos 0 ≤ℤ (x -ℤ y) → y ≤ℤ x
of_gap = all2 _ λ _ _ _ _. simp difs (omega arith)

pub gap_of : (x y : ℤ) → y ≤ℤ x → pos 0 ≤ℤ (x -ℤ y)
gap_of = all2 _ λ _ _ _ _. simp difs (omega arith)

-- ---- a test's flag: what it says of the order, and back
pub lt_z_true : {a b : ℤ} → lt_z a b ≡ true → a <ℤ b
lt_z_true e = lt_z_yes (subst T (sym e) tt)

pub lt_z_false : {a b : ℤ} → lt_z a b ≡ false → b ≤ℤ a
lt_z_false e = lt_z_no (subst (λ (t : Bool). T (not t)) (sym e) tt)

-- a test tells its order
pub le_z_tells : {a b : ℤ} → Tells (le_z a b) (a ≤ℤ b)
le_z_tells = record { sure = λ t. le_z_yes t; seen = λ h. h.le }

pub lt_z_tells : {a b : ℤ} → Tells (lt_z a b) (a <ℤ b)
lt_z_tells = record { sure = λ t. lt_z_yes t; seen = λ h. h.lt }

-- an order or an equation that cannot be denied holds
pub ≤ℤ_stable : {a b : ℤ} → ((a ≤ℤ b → ⊥) → ⊥) → a ≤ℤ b
≤ℤ_stable {a} {b} = stable {b = le_z a b} le_z_tells

pub <ℤ_stable : {a b : ℤ} → ((a <ℤ b → ⊥) → ⊥) → a <ℤ b
<ℤ_stable {a} {b} = stable {b = lt_z a b} lt_z_tells

pub ≡ℤ_stable : {a b : ℤ} → ((a ≡ b → ⊥) → ⊥) → a ≡ b
≡ℤ_stable {a} {b} = dec_stable (ℤ_discrete a b)

pub le_z_true : {a b : ℤ} → le_z a b ≡ true → a ≤ℤ b
le_z_true e = le_z_yes (subst T (sym e) tt)

nle : (a b : ℤ) → T (not (le_z a b)) → T (lt_z b a)
nle (pos a) (pos b) t = lt→ltb b a (nleb→lt a b t)
nle (pos a) (negsuc b) t = tt
nle (negsuc a) (pos b) t = t
nle (negsuc a) (negsuc b) t = lt→ltb a b (nleb→lt b a t)

pub le_z_false : {a b : ℤ} → le_z a b ≡ false → b <ℤ a
le_z_false {a} {b} e = lt_z_yes (nle a b (subst (λ (t : Bool). T (not t)) (sym e) tt))

pub ≤ℤ-or-<ℤ : (a b : ℤ) → (a ≤ℤ b) ⊎ (b <ℤ a)
≤ℤ-or-<ℤ a b = by (le_z a b) refl
  where
    by : (t : Bool) → le_z a b ≡ t → (a ≤ℤ b) ⊎ (b <ℤ a)
    by true e = inl (le_z_true e)
    by false e = inr (le_z_false e)

pub not_before : {a b : ℤ} → (a <ℤ b → ⊥) → b ≤ℤ a
not_before {a} {b} h = ⊎_elim (λ le. le) (λ lt. absurd (h lt)) (≤ℤ-or-<ℤ b a)

pub is_after : {a b : ℤ} → (a ≤ℤ b → ⊥) → b <ℤ a
is_after {a} {b} h = ⊎_elim (λ le. absurd (h le)) (λ lt. lt) (≤ℤ-or-<ℤ a b)

-- ---- a positive factor is taken off
pub positive : {z : ℤ} → pos 1 ≤ℤ z → pos 0 ≤ℤ z
positive h = ≤ℤ_trans (le_z_yes tt) h

off : (d x : ℤ) → pos 1 ≤ℤ d → x <ℤ pos 0 → pos 0 ≤ℤ (d *ℤ x) → ⊥
off = all2 _ λ _ _ _ _. simp difs (λ h k l. omega (arith, cross h k))

pub cancel : (d x : ℤ) → pos 1 ≤ℤ d → pos 0 ≤ℤ (d *ℤ x) → pos 0 ≤ℤ x
cancel d x h k = ⊎_elim (λ y. y) (λ y. absurd (off d x h y k)) (≤ℤ-or-<ℤ (pos 0) x)
