-- A number has one spelling as it is written; how long that is at most, and that it is read back as that number.
use Rattle.std.specs.Prelude.{◌≡◌, List, [], ◌∷◌, ◌++◌, ℕ, zero, suc, ◌+◌, ◌*◌, ◌/◌, ◌%◌, ◌^◌, ◌≤◌, ◌<◌, pos, length}
use Rattle.std.proofs.Common.{ap, div-add-mod', mod-lt, arith, length-append}
use Rattle.decimal.specs.Spells.{Digits, no_digits, Spells, plain}
use Rattle.decimal.specs.Spells as spells
use Rattle.decimal.specs.Decimal.{Decimal, one_digit, and_digit}

-- ---- one spelling
pub same_decimal : {n m : ℕ} {s t : List ℕ} → Decimal n s → Decimal m t → n ≡ m → s ≡ t
same_decimal (one_digit h) (one_digit k) e = ap (λ (d : ℕ). (48 + d) ∷ []) e
same_decimal (one_digit h) (and_digit g some few) e = absurd (omega arith)
same_decimal (and_digit g some few) (one_digit h) e = absurd (omega arith)
same_decimal (and_digit {n} {d} g some few) (and_digit {n = m} {d = c} h some' few') e =
    let tens : n ≡ m = omega arith in
    let ones : d ≡ c = omega arith in
    let front = same_decimal g h tens in
    cc

-- ---- lengths
last_long : (s : List ℕ) (b : ℕ) → length (s ++ b ∷ []) ≡ length s + 1
last_long s b = length-append s (b ∷ [])

pub decimal_some : {n : ℕ} {s : List ℕ} → Decimal n s → 1 ≤ length s
decimal_some (one_digit h) = omega arith
decimal_some (and_digit {d} {s} g some few) = omega (arith, last_long s (48 + d))

pub decimal_short : {n : ℕ} {s : List ℕ} (k : ℕ) → Decimal n s → n < 10 ^ suc k → length s ≤ suc k
decimal_short k (one_digit h) small = omega arith
decimal_short zero (and_digit g some few) small = absurd (omega arith)
decimal_short (suc k) (and_digit {d} {s} g some few) small =
    omega (arith, last_long s (48 + d), decimal_short k g (omega arith))

-- ---- read back
pub decimal_digits : {n : ℕ} {s : List ℕ} → Decimal n s → Digits n s
decimal_digits (one_digit {d} h) = let alone : 10 * 0 + d ≡ d = omega arith in rw alone at (spells.and_digit no_digits h)
decimal_digits (and_digit g some few) = spells.and_digit (decimal_digits g) few

-- what is written, up to nine digits, is read as the same number
pub decimal_read_back : {n : ℕ} {s : List ℕ} → Decimal n s → length s ≤ 9 → Spells (pos n) s
decimal_read_back g few = plain (decimal_digits g) (decimal_some g) few

-- ---- a digit more, as it is written
pub ones_small : (n : ℕ) → n % 10 ≤ 9
ones_small n = let less : n % 10 < 10 = mod-lt n (omega arith) in omega arith

pub tenth_less : (n : ℕ) → 10 ≤ n → n / 10 < n
tenth_less n h = omega (arith, div-add-mod' n 10)

pub last_of : (n : ℕ) {s : List ℕ} → 10 ≤ n → Decimal (n / 10) s → Decimal n (s ++ (48 + n % 10) ∷ [])
last_of n {s} h g =
    let same : 10 * (n / 10) + n % 10 ≡ n = omega (arith, div-add-mod' n 10) in
    rw same at (and_digit {d = n % 10} g (omega (arith, ones_small n)) (ones_small n))
