-- A two's complement and back without a cast that loses bits: by what -1 less a number is.
use Rattle.std.specs.Prelude.{◌≡◌, refl, ℕ, zero, suc, ◌-◌, ◌≤◌, ◌<◌, ℤ, pos, negsuc, nat_abs, ◌-ℤ◌, ◌≤ℤ◌, ◌<ℤ◌}
use Rattle.std.proofs.Common.{sym, ap, ◌∙◌, arith, ltb→lt, le-ltb, SFits, to_z, of_z}
use Rattle.std.specs.Int.Signed.{mag}
use Rattle.std.specs.Int.{w32}
use mir.ValLaws as ValLaws

pub less_negative : (z : ℤ) → z <ℤ pos 0 → negsuc 0 -ℤ z ≡ pos (mag z)
less_negative (pos n) h = absurd (none (ltb→lt n 0 h.lt))
  where
    none : n < 0 → ⊥
    none l = omega arith
less_negative (negsuc k) h = rw (le-ltb (suc k) 1 (omega arith)) (ap pos (omega arith))

pub complement_negative : (z : ℤ) → z <ℤ pos 0 → 4294967295 - mag z ≡ of_z w32 z
complement_negative (pos n) h = absurd (none (ltb→lt n 0 h.lt))
  where
    none : n < 0 → ⊥
    none l = omega arith
complement_negative (negsuc k) h = omega arith

pub fits_turned : {z : ℤ} → SFits w32 z → SFits w32 (pos (mag z))
fits_turned f = record { sfits = f.sfits }

pub less_count : (m : ℕ) → negsuc 0 -ℤ pos m ≡ negsuc m
less_count zero = refl
less_count (suc m) = ap negsuc (omega arith)

-- the upper half
module _ (n : ℕ) (half : 2147483648 ≤ n) (whole : n < 4294967296) where
  pub upper_count : to_z w32 (4294967295 - n) ≡ pos (4294967295 - n)
  upper_count = ValLaws.to_z_pos w32 (4294967295 - n) (omega arith)

  pub upper_fits : SFits w32 (negsuc (4294967295 - n))
  upper_fits = record { sfits = omega arith }

  pub upper_is : negsuc (4294967295 - n) ≡ to_z w32 n
  upper_is =
      let low : 4294967295 - n < 2147483648 = omega arith in
      let e : 4294967296 - suc (4294967295 - n) ≡ n = omega arith in
      sym (ValLaws.to_z-neg w32 (4294967295 - n) low) ∙ ap (to_z w32) e

-- what is not negative is its own complement
pub complement_count : (z : ℤ) → pos 0 ≤ℤ z → nat_abs z ≡ of_z w32 z
complement_count (pos n) h = refl
complement_count (negsuc k) h = absurd h.le

pub complement_fits : (z : ℤ) → SFits w32 z → of_z w32 z < 4294967296
complement_fits z f = (ValLaws.of_z_fits w32 z f).fits
