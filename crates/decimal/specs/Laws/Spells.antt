-- Bytes spell at most one number, and nine digits fit a word.
use Rattle.std.specs.Prelude.{◌≡◌, List, ◌∷◌, ◌++◌, ℕ, ◌^◌, ◌≤◌, ℤ, pos, neg_ℤ, length}
use Rattle.std.proofs.Common.{sym, ap, arith}
use Rattle.whole.specs.Within.{Within}
use Rattle.whole.specs.Laws.Within.{neg_in}
use Rattle.decimal.specs.Spells.{Digits, Spells, plain, minus}
use Rattle.decimal.specs.Inner.DigitRuns.{IsDigit, AllDigits, none, and, Stops}
use Rattle.decimal.specs.Laws.DigitRuns.{digits_all, same_value, value_below, digits_cut_once}

-- ---- a number that no further digit follows
pub no_digit : {b : ℕ} → b ≤ 47 → IsDigit b → ⊥
no_digit h d = omega (arith, d.from)

pub minus_first : {s : List ℕ} (p : List ℕ) {q : List ℕ} → AllDigits s → 1 ≤ length s → s ++ p ≡ 45 ∷ q → ⊥
minus_first p none long e = omega arith
minus_first p (and {b} {s} d a) long e = let f : b ≡ 45 = cc in no_digit (omega arith) d

-- a sign or none, and digits, however many: what spellings as they are read and as they are written have in common
pub data SignedDigits : ℤ → List ℕ → Type 0 where
  plain_digits : {n : ℕ} {s : List ℕ} → Digits n s → 1 ≤ length s → SignedDigits (pos n) s
  minus_digits : {n : ℕ} {s : List ℕ} → Digits n s → SignedDigits (neg_ℤ (pos n)) (45 ∷ s)

pub spells_signed : {z : ℤ} {s : List ℕ} → Spells z s → SignedDigits z s
spells_signed (plain g long few) = plain_digits g long
spells_signed (minus g long few) = minus_digits g

pub same_signed : {y z : ℤ} {s t p q : List ℕ} → SignedDigits y s → SignedDigits z t → Stops p → Stops q → s ++ p ≡ t ++ q → (y ≡ z) × (p ≡ q)
same_signed (plain_digits g long) (plain_digits h long') hp hq e =
    let r = digits_cut_once (digits_all g) (digits_all h) hp hq e in
    (ap pos (same_value g h r.0), r.1)
same_signed {p} (plain_digits g long) (minus_digits h) hp hq e = absurd (minus_first p (digits_all g) long e)
same_signed {q} (minus_digits g) (plain_digits h long') hp hq e = absurd (minus_first q (digits_all h) long' (sym e))
same_signed {p} {q} (minus_digits {s} g) (minus_digits {s = t} h) hp hq e =
    let tails : s ++ p ≡ t ++ q = cc in
    let r = digits_cut_once (digits_all g) (digits_all h) hp hq tails in
    (ap (λ (n : ℕ). neg_ℤ (pos n)) (same_value g h r.0), r.1)

pub same_spelling : {y z : ℤ} {s t p q : List ℕ} → Spells y s → Spells z t → Stops p → Stops q → s ++ p ≡ t ++ q → (y ≡ z) × (p ≡ q)
same_spelling g h = same_signed (spells_signed g) (spells_signed h)

-- nine digits fit a word
pub spells_in : {z : ℤ} {s : List ℕ} → Spells z s → Within (10 ^ 9) z
spells_in (plain g long few) = record { abs = omega (arith, value_below 9 g few) }
spells_in (minus {n} g long few) = neg_in {a = pos n} (record { abs = omega (arith, value_below 9 g few) })
