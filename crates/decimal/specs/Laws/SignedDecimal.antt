-- A whole number has one spelling as it is written, and every one has it; how long that is at most, and that it is read back as that number.
use Rattle.std.specs.Prelude.{◌≡◌, List, [], ◌∷◌, ◌++◌, ℕ, zero, suc, ◌+◌, ◌/◌, ◌%◌, ◌^◌, ◌≤◌, ◌<◌, ℤ, pos, negsuc, neg_ℤ, nat_abs, length, ◌≤ℤ◌, ◌<ℤ◌}
use Rattle.std.proofs.Common.{sym, ap, ◌∙◌, not-suc-le-zero, arith, ltb→lt}
use Rattle.std.proofs.Math.Decide.{dec_le}
use Rattle.std.proofs.Math.IntN.{pos-ne-negsuc}
use Rattle.whole.specs.Laws.Within.{abs_neg}
use Rattle.words.specs.Words.{nat_of}
use Rattle.decimal.specs.Spells.{Spells, plain, minus}
use Rattle.decimal.specs.Decimal.{Decimal, one_digit, SignedDecimal, without_sign, below_zero}
use Rattle.decimal.specs.Laws.Decimal.{same_decimal, decimal_some, decimal_short, decimal_digits, last_of, tenth_less}
use Rattle.decimal.specs.Laws.Spells.{SignedDigits, plain_digits, minus_digits}

-- ---- as digits with a sign, whose value is one and which end in one place
pub signed_digits : {z : ℤ} {s : List ℕ} → SignedDecimal z s → SignedDigits z s
signed_digits (without_sign g) = plain_digits (decimal_digits g) (decimal_some g)
signed_digits (below_zero g some) = minus_digits (decimal_digits g)

-- ---- one spelling
apart : (n m : ℕ) → 1 ≤ m → pos n ≡ neg_ℤ (pos m) → ⊥
apart n (suc m) some e = pos-ne-negsuc n m e
apart n zero some e = not-suc-le-zero some

pub one_signed : {y z : ℤ} {s t : List ℕ} → SignedDecimal y s → SignedDecimal z t → y ≡ z → s ≡ t
one_signed (without_sign g) (without_sign h) e = same_decimal g h (ap nat_abs e)
one_signed (without_sign {n} g) (below_zero {n = m} h some) e = absurd (apart n m some e)
one_signed (below_zero {n} g some) (without_sign {n = m} h) e = absurd (apart m n some (sym e))
one_signed (below_zero {n} g some) (below_zero {n = m} h some') e =
    ap (λ (l : List ℕ). 45 ∷ l) (same_decimal g h (sym (abs_neg (pos n)) ∙ ap nat_abs e ∙ abs_neg (pos m)))

-- ---- lengths
pub signed_some : {z : ℤ} {s : List ℕ} → SignedDecimal z s → 1 ≤ length s
signed_some (without_sign g) = decimal_some g
signed_some (below_zero g some) = omega arith

pub signed_short : {z : ℤ} {s : List ℕ} (k : ℕ) → SignedDecimal z s → nat_abs z < 10 ^ suc k → length s ≤ suc (suc k)
signed_short k (without_sign g) small = omega (arith, decimal_short k g small)
signed_short k (below_zero {n} g some) small = omega (arith, decimal_short k g (omega (arith, abs_neg (pos n))))

-- ---- read back, where it has no more than nine digits
pub signed_read_back : {z : ℤ} {s : List ℕ} → SignedDecimal z s → nat_abs z < 10 ^ 9 → Spells z s
signed_read_back (without_sign g) small = plain (decimal_digits g) (decimal_some g) (decimal_short 8 g small)
signed_read_back (below_zero {n} g some) small = minus (decimal_digits g) (decimal_some g) (decimal_short 8 g (omega (arith, abs_neg (pos n))))

-- ---- every number has one
decimal_within : (k n : ℕ) → n ≤ k → (s : List ℕ) × Decimal n s
decimal_within zero n le = ((48 + n) ∷ [], one_digit {d = n} (omega arith))
decimal_within (suc k) n le = by (dec_le 10 n) (λ less. decimal_within k (n / 10) less)
  where
    by : Dec (10 ≤ n) → (n / 10 ≤ k → (s : List ℕ) × Decimal (n / 10) s) → (s : List ℕ) × Decimal n s
    by (no small) front = ((48 + n) ∷ [], one_digit {d = n} (omega arith))
    by (yes large) front = let tens = front (omega (arith, tenth_less n large)) in (tens.0 ++ (48 + n % 10) ∷ [], last_of n large tens.1)

pub signed_exists : (z : ℤ) → (s : List ℕ) × SignedDecimal z s
signed_exists (pos n) = let d = decimal_within n n (omega arith) in (d.0, without_sign d.1)
signed_exists (negsuc n) = let d = decimal_within (suc n) (suc n) (omega arith) in (45 ∷ d.0, below_zero {n = suc n} d.1 (omega arith))

-- ---- from the digits of a number's size
pub signed_plain : (z : ℤ) {s : List ℕ} → pos 0 ≤ℤ z → Decimal (nat_of z) s → SignedDecimal z s
unfolding nat_of
signed_plain (pos n) h g = without_sign g
signed_plain (negsuc n) h g = absurd h.le

pub signed_minus : (z : ℤ) {s : List ℕ} → z <ℤ pos 0 → Decimal (nat_of (neg_ℤ z)) s → SignedDecimal z (45 ∷ s)
unfolding nat_of
signed_minus (pos n) h g = absurd (not-suc-le-zero (ltb→lt n 0 h.lt))
signed_minus (negsuc n) h g = below_zero {n = suc n} g (omega arith)
