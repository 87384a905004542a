-- Laws of ranges: those of sums and products, what fits a machine's number, and how a signed need of the code is answered.
use Rattle.std.specs.Prelude.{◌≡◌, refl, ℕ, suc, ◌+◌, ◌*◌, ◌^◌, ◌≤◌, ◌<◌, List, get_or, T, ltb, leb, eqb, ℤ, pos, negsuc, neg_ℤ, nat_abs, ◌+ℤ◌, ◌-ℤ◌, ◌*ℤ◌, ◌≤ℤ◌, ◌<ℤ◌}
use Rattle.std.proofs.Common.{sym, ap, ◌∙◌, subst, mul-le-mul, lt_of_le_of_lt, le_trans, arith, ltb→lt, leb→le, lt→ltb}
use Rattle.std.proofs.Math.IntN.{+ℤ_idl}
use Rattle.std.specs.Int.Signed.{mag, nat_abs-le}
use Rattle.std.specs.Int.{Width, w32, w64}
use mir.Val.{SFits, hbits, to_z, of_z}
use mir.ValLaws as ValLaws
use Rattle.whole.specs.Laws.Difference.{each, all2, difs}
use Rattle.whole.specs.Laws.Order.{≤ℤ_trans}
use Rattle.whole.specs.Tells.{Tells}
use Rattle.whole.specs.Laws.Tells.{stable, tells_as, leb_tells, eqb_tells}
use Rattle.whole.specs.Within.{Within}

-- ---- the absolute value
pub abs_neg : (a : ℤ) → nat_abs (neg_ℤ a) ≡ nat_abs a
abs_neg = each _ λ _ _. simp difs (omega arith)

pub abs-*ℤ : (a b : ℤ) → nat_abs (a *ℤ b) ≡ nat_abs a * nat_abs b
abs-*ℤ (pos a) (pos b) = refl
abs-*ℤ (pos a) (negsuc b) = abs_neg (pos (a * suc b))
abs-*ℤ (negsuc a) (pos b) = abs_neg (pos (suc a * b))
abs-*ℤ (negsuc a) (negsuc b) = refl

abs-+ℤ : (a b : ℤ) → nat_abs (a +ℤ b) ≤ nat_abs a + nat_abs b
abs-+ℤ = all2 _ λ _ _ _ _. simp difs (omega arith)

pub abs_positive : (z : ℤ) → pos 0 ≤ℤ z → z ≡ pos (nat_abs z)
abs_positive = each _ λ _ _. simp difs (omega arith)

-- ---- ranges of results: at numerals the new bound computes
pub add_in : {a b : ℤ} {m n : ℕ} → Within m a → Within n b → Within (m + n) (a +ℤ b)
add_in {a} {b} h k = record { abs = omega (arith, abs-+ℤ a b, h.abs, k.abs) }

pub neg_in : {a : ℤ} {m : ℕ} → Within m a → Within m (neg_ℤ a)
neg_in {a} h = record { abs = omega (arith, abs_neg a, h.abs) }

pub sub_in : {a b : ℤ} {m n : ℕ} → Within m a → Within n b → Within (m + n) (a -ℤ b)
sub_in h k = add_in h (neg_in k)

pub mul_in : {a b : ℤ} {m n : ℕ} → Within m a → Within n b → Within (m * n) (a *ℤ b)
mul_in {a} {b} {m} {n} h k = record { abs = subst (λ (x : ℕ). x ≤ m * n) (sym (abs-*ℤ a b)) (mul-le-mul h.abs k.abs) }

pub widen : {z : ℤ} {m n : ℕ} → T (leb m n) → Within m z → Within n z
widen {m} {n} t h = record { abs = le_trans h.abs (leb→le m n t) }

pub lit_in : (n : ℕ) {bound : ℕ} → T (leb n bound) → Within bound (pos n)
lit_in n {bound} t = record { abs = leb→le n bound t }

-- ---- a range and two orders
in_of : (bound : ℕ) (z : ℤ) → neg_ℤ (pos bound) ≤ℤ z → z ≤ℤ pos bound → nat_abs z ≤ bound
in_of bound = each _ λ _ _. simp difs (omega arith)

in_up : (bound : ℕ) (z : ℤ) → nat_abs z ≤ bound → z ≤ℤ pos bound
in_up bound = each _ λ _ _. simp difs (omega arith)

in_dn : (bound : ℕ) (z : ℤ) → nat_abs z ≤ bound → neg_ℤ (pos bound) ≤ℤ z
in_dn bound = each _ λ _ _. simp difs (omega arith)

pub between : {bound : ℕ} {z : ℤ} → neg_ℤ (pos bound) ≤ℤ z → z ≤ℤ pos bound → Within bound z
between {bound} {z} h k = record { abs = in_of bound z h k }

pub at_most : {bound : ℕ} {z : ℤ} → Within bound z → z ≤ℤ pos bound
at_most {bound} {z} h = in_up bound z h.abs

pub at_least : {bound : ℕ} {z : ℤ} → Within bound z → neg_ℤ (pos bound) ≤ℤ z
at_least {bound} {z} h = in_dn bound z h.abs

pub from_zero : {bound : ℕ} {z : ℤ} → pos 0 ≤ℤ z → z ≤ℤ pos bound → Within bound z
from_zero {bound} h k = between (≤ℤ_trans (neg_le bound) h) k
  where
    neg_le : (bound : ℕ) → neg_ℤ (pos bound) ≤ℤ pos 0
    neg_le bound = simp difs (omega arith)

-- a range that cannot be denied holds
pub within_stable : {bound : ℕ} {z : ℤ} → ((Within bound z → ⊥) → ⊥) → Within bound z
within_stable {bound} {z} = stable {b = leb (nat_abs z) bound} (tells_as leb_tells (λ h. record { abs = h }) (λ h. h.abs))

-- ---- what fits a width: `fits tt (mul_in h k)`
mag_abs : (z : ℤ) → mag z ≤ nat_abs z
mag_abs (pos n) = omega arith
mag_abs (negsuc n) = omega arith

pub fits : {w : Width} {z : ℤ} {bound : ℕ} → T (ltb bound (2 ^ hbits w)) → Within bound z → SFits w z
fits {w} {z} {bound} t h = record { sfits = lt_of_le_of_lt (le_trans (mag_abs z) h.abs) (ltb→lt bound (2 ^ hbits w) t) }

-- a number of a width is below half the width's power
pub fits_below : {w : Width} {z : ℤ} → SFits w z → z <ℤ pos (2 ^ hbits w)
fits_below {w} {z} f = below z (2 ^ hbits w) f.sfits
  where
    below : (z : ℤ) (n : ℕ) → mag z < n → z <ℤ pos n
    below (pos k) n h = record { lt = lt→ltb k n h }
    below (negsuc k) n h = record { lt = tt }

-- any number of a width
pub any_in : {w : Width} {z : ℤ} → SFits w z → Within (2 ^ hbits w) z
any_in {w} {z} f = record { abs = nat_abs-le z f.sfits }

-- ---- a local holds bits: what is read back is the number that fits
pub back : {w : Width} {z : ℤ} → SFits w z → to_z w (of_z w z) ≡ z
back {w} {z} f = ValLaws.to_z-of_z w z f

pub read32 : {z : ℤ} {bound : ℕ} → T (ltb bound (2 ^ 31)) → Within bound z → to_z w32 (of_z w32 z) ≡ z
read32 t h = back {w = w32} (fits t h)

pub read64 : {z : ℤ} {bound : ℕ} → T (ltb bound (2 ^ 63)) → Within bound z → to_z w64 (of_z w64 z) ≡ z
read64 t h = back {w = w64} (fits t h)

-- a call's result z, and `c.call.type_inv` is the fact that it fits
pub word_back : (z : ℤ) → mag z < 2 ^ hbits w32 → to_z w32 (of_z w32 z) ≡ z
word_back z small = back {w = w32} (record { sfits = small })

-- `-x` in the code is 0 − x
pub neg_read32 : {z : ℤ} {bound : ℕ} → T (ltb bound (2 ^ 31)) → Within bound z → to_z w32 (of_z w32 (pos 0 -ℤ z)) ≡ neg_ℤ z
neg_read32 {z} t h = ap (λ (y : ℤ). to_z w32 (of_z w32 y)) (+ℤ_idl (neg_ℤ z)) ∙ read32 t (neg_in h)

pub neg_read64 : {z : ℤ} {bound : ℕ} → T (ltb bound (2 ^ 63)) → Within bound z → to_z w64 (of_z w64 (pos 0 -ℤ z)) ≡ neg_ℤ z
neg_read64 {z} t h = ap (λ (y : ℤ). to_z w64 (of_z w64 y)) (+ℤ_idl (neg_ℤ z)) ∙ read64 t (neg_in h)

-- an element of a slice or an array, read out; `g` is that what is read fits
pub read_at : (w : Width) (xs : List ℤ) (i : ℕ) → mag (get_or xs i (pos 0)) < 2 ^ hbits w → to_z w (of_z w (get_or xs i (pos 0))) ≡ get_or xs i (pos 0)
read_at w xs i g = ValLaws.to_z-of_z w (get_or xs i (pos 0)) (record { sfits = g })

-- `==` of two signed numbers is an equation of their bits
pub bits_eq : (w : Width) (a b : ℤ) → SFits w a → SFits w b → of_z w a ≡ of_z w b → a ≡ b
bits_eq w a b f g e = sym (ValLaws.to_z-of_z w a f) ∙ ap (to_z w) e ∙ ValLaws.to_z-of_z w b g

pub equal_tells : (w : Width) (a b : ℤ) → SFits w a → SFits w b → Tells (eqb (of_z w a) (of_z w b)) (a ≡ b)
equal_tells w a b f g = tells_as eqb_tells (bits_eq w a b f g) (ap (of_z w))

-- a count, as a signed number
pub read_nat : (w : Width) (n : ℕ) → n < 2 ^ hbits w → to_z w n ≡ pos n
read_nat w n h = ValLaws.to_z_pos w n h
