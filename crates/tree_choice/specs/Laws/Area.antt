-- The area integral is the area's, and the ranges of what it is made of, so that its products fit a machine's number.
use Rattle.std.specs.Prelude.{◌≡◌, refl, Bool, true, false, cond, ℕ, ◌^◌, ℤ, pos, neg_ℤ, nat_abs, ◌+ℤ◌, ◌*ℤ◌, ◌≤ℤ◌}
use Rattle.std.proofs.Common.{sym, subst, le_trans, arith}
use Rattle.std.specs.Int.Signed.{lt_z}
use Rattle.whole.specs.Laws.Difference.{all4, difs}
use Rattle.whole.specs.Laws.Order.{lt_z_false}
use Rattle.whole.specs.Within.{Within}
use Rattle.whole.specs.Laws.Within.{widen, lit_in, neg_in, add_in, sub_in, mul_in, between, from_zero, abs_positive}
use Rattle.tree_choice.specs.Area.{horizon, held_to, width_of, growth_of, area_after, area_integral}
use Rattle.tree_choice.specs.declared.area.Extent.{Extent}
use Rattle.tree_choice.specs.declared.area.Cover.{Cover}

own_in : (n : ℕ) → Within n (pos n)
own_in n = record { abs = omega arith }

pub held_to_in : (n : ℕ) (z : ℤ) → Within n (held_to (pos n) z)
unfolding held_to
held_to_in n z = by (lt_z z (neg_ℤ (pos n))) (lt_z (pos n) z) refl refl
  where
    by : (low high : Bool) → lt_z z (neg_ℤ (pos n)) ≡ low → lt_z (pos n) z ≡ high → Within n (cond low (neg_ℤ (pos n)) (cond high (pos n) z))
    by true high e f = neg_in (own_in n)
    by false true e f = own_in n
    by false false e f = between (lt_z_false e) (lt_z_false f)

-- the same for a bound that is a number of the code
pub held_below : {bound : ℤ} → pos 0 ≤ℤ bound → bound ≤ℤ pos (2 ^ 23) → (z : ℤ) → Within (2 ^ 23) (held_to bound z)
held_below {bound} low high z = widen_to (subst (λ (b : ℤ). Within (nat_abs bound) (held_to b z)) (sym (abs_positive bound low)) (held_to_in (nat_abs bound) z))
  where
    widen_to : Within (nat_abs bound) (held_to bound z) → Within (2 ^ 23) (held_to bound z)
    widen_to h = record { abs = le_trans h.abs (from_zero low high).abs }

module _ (e : Extent) where
  pub width_in : Within (2 ^ 23) (width_of e)
  width_in = widen tt (add_in (sub_in (held_to_in 3049120 e.high) (held_to_in 3049120 e.low)) (lit_in 1 {bound = 1} tt))

  pub growth_in : Within (2 ^ 10) (growth_of e)
  growth_in = sub_in (held_to_in 512 e.fastest) (held_to_in 512 e.slowest)

-- Simpson's rule, which is exact for an area that grows so: the horizon times the area at its start, four times that at its middle and that at its end
pub integral_by_simpson : (k : Cover) → area_integral k ≡ horizon *ℤ (area_after k (pos 0) +ℤ pos 4 *ℤ area_after k (pos 15) +ℤ area_after k horizon)
unfolding area_integral
integral_by_simpson k = all (width_of k.x) (growth_of k.x) (width_of k.y) (growth_of k.y)
  where
    all : (a b c d : ℤ) → pos 180 *ℤ (a *ℤ c) +ℤ pos 2700 *ℤ (a *ℤ d +ℤ b *ℤ c) +ℤ pos 54000 *ℤ (b *ℤ d)
        ≡ pos 30 *ℤ ((a +ℤ b *ℤ pos 0) *ℤ (c +ℤ d *ℤ pos 0) +ℤ pos 4 *ℤ ((a +ℤ b *ℤ pos 15) *ℤ (c +ℤ d *ℤ pos 15)) +ℤ (a +ℤ b *ℤ pos 30) *ℤ (c +ℤ d *ℤ pos 30))
    all = all4 _ λ _ _ _ _ _ _ _ _. simp difs (omega arith)

-- the sum that the code makes
pub integral_is : (k : Cover) {a b c d : ℤ} → a ≡ width_of k.x → b ≡ growth_of k.x → c ≡ width_of k.y → d ≡ growth_of k.y
    → pos 180 *ℤ (a *ℤ c) +ℤ pos 2700 *ℤ (a *ℤ d +ℤ b *ℤ c) +ℤ pos 54000 *ℤ (b *ℤ d) ≡ area_integral k
unfolding area_integral
integral_is k e f g h = rw (e, f, g, h)

pub integral_in : (k : Cover) → Within (2 ^ 54) (area_integral k)
unfolding area_integral
integral_in k =
    let a = width_in k.x in
    let b = growth_in k.x in
    let c = width_in k.y in
    let d = growth_in k.y in
    widen tt
    (add_in
    (add_in (mul_in (lit_in 180 {bound = 180} tt) (mul_in a c)) (mul_in (lit_in 2700 {bound = 2700} tt) (add_in (mul_in a d) (mul_in b c))))
    (mul_in (lit_in 54000 {bound = 54000} tt) (mul_in b d)))
