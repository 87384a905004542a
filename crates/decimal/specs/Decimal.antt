-- The one spelling of a number, as it is written: decimal digits in ASCII, without leading zeros or plus sign.
use Rattle.std.specs.Prelude.{List, [], ◌∷◌, ◌++◌, ℕ, ◌+◌, ◌*◌, ◌≤◌, ℤ, pos, neg_ℤ}

-- the digits of n: one alone, or a digit after those of a number that is not 0
pub data Decimal : ℕ → List ℕ → Type 0 where
  one_digit : {d : ℕ} → d ≤ 9 → Decimal d ((48 + d) ∷ [])
  and_digit : {n d : ℕ} {s : List ℕ} → Decimal n s → 1 ≤ n → d ≤ 9 → Decimal (10 * n + d) (s ++ (48 + d) ∷ [])

-- a whole number: the digits of n, or a minus and the digits of n where n is at least 1. So 0 has no sign
pub data SignedDecimal : ℤ → List ℕ → Type 0 where
  without_sign : {n : ℕ} {s : List ℕ} → Decimal n s → SignedDecimal (pos n) s
  below_zero : {n : ℕ} {s : List ℕ} → Decimal n s → 1 ≤ n → SignedDecimal (neg_ℤ (pos n)) (45 ∷ s)
