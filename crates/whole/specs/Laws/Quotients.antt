-- Quotients, rounded to 0: one that comes out whole, and how large one can be.
use Rattle.std.specs.Prelude.{◌≡◌, refl, ℕ, zero, suc, ◌*◌, ◌/◌, ◌≤◌, ℤ, pos, negsuc, neg_ℤ, nat_abs, ◌*ℤ◌, ◌≤ℤ◌}
use Rattle.std.proofs.Common.{ap, ◌∙◌, mul-div_cancel, div-le_self, arith, leb→le}
use Rattle.std.proofs.Math.Nat.{zero-div}
use Rattle.std.proofs.Math.IntN.{pos-*ℤ-pos, negsuc-*ℤ-pos}
use Rattle.std.specs.Int.Signed.{quot_z}
use Rattle.whole.specs.Within.{Within}
use Rattle.whole.specs.Laws.Within.{abs_neg}

quot_neg : (m d : ℕ) → quot_z (neg_ℤ (pos m)) (pos d) ≡ neg_ℤ (pos (m / d))
quot_neg zero d = rw (zero-div d)
quot_neg (suc m) d = refl

pub quot_exact : (v n : ℤ) → pos 1 ≤ℤ n → quot_z (v *ℤ n) n ≡ v
quot_exact (pos a) (pos n) h = ap (λ (z : ℤ). quot_z z (pos n)) (pos-*ℤ-pos a n) ∙ ap pos (mul-div_cancel a (leb→le 1 n h.le))
quot_exact (negsuc a) (pos n) h =
    ap (λ (z : ℤ). quot_z z (pos n)) (negsuc-*ℤ-pos a n) ∙ quot_neg (suc a * n) n ∙ ap (λ (k : ℕ). neg_ℤ (pos k)) (mul-div_cancel (suc a) (leb→le 1 n h.le))
quot_exact v (negsuc n) h = absurd h.le

quot_less : (a : ℤ) (n : ℕ) → nat_abs (quot_z a (pos n)) ≤ nat_abs a
quot_less (pos a) n = div-le_self a n
quot_less (negsuc a) n = omega (arith, abs_neg (pos (suc a / n)), div-le_self (suc a) n)

pub quot_in : {a : ℤ} {bound : ℕ} (d : ℤ) → pos 1 ≤ℤ d → Within bound a → Within bound (quot_z a d)
quot_in {a} (pos n) h k = record { abs = omega (arith, quot_less a n, k.abs) }
quot_in (negsuc n) h k = absurd h.le
