-- A number as `read_number` takes it, in bytes of ASCII: an optional minus and one to nine digits.
use Rattle.std.specs.Prelude.{List, [], ◌∷◌, ◌++◌, ℕ, ◌+◌, ◌*◌, ◌≤◌, ℤ, pos, neg_ℤ, length}

-- the digits that spell n, each further one to the right: no digits come to 0, and a digit d after those of n makes them 10 n + d
pub data Digits : ℕ → List ℕ → Type 0 where
  no_digits : Digits 0 []
  and_digit : {n d : ℕ} {s : List ℕ} → Digits n s → d ≤ 9 → Digits (10 * n + d) (s ++ (48 + d) ∷ [])

-- the bytes that spell a whole number; -0 and leading zeros are numbers
pub data Spells : ℤ → List ℕ → Type 0 where
  plain : {n : ℕ} {s : List ℕ} → Digits n s → 1 ≤ length s → length s ≤ 9 → Spells (pos n) s
  minus : {n : ℕ} {s : List ℕ} → Digits n s → 1 ≤ length s → length s ≤ 9 → Spells (neg_ℤ (pos n)) (45 ∷ s)
