-- Where a run of digits ends, and what it stands for.
use Rattle.std.specs.Prelude.{◌≡◌, refl, ◌&&◌, List, [], ◌∷◌, ◌++◌, ℕ, zero, suc, ◌+◌, ◌*◌, ◌-◌, ◌^◌, ◌≤◌, ◌<◌, leb, length, get_or}
use Rattle.std.proofs.Common.{sym, ap, subst, ◌∙◌, not-suc-le-zero, le_of_suc-le-suc, length-append, drop_of_length-le, drop-cons}
use Rattle.std.proofs.Math.Nat.{pow-le-pow_right}
use native.Mathlib.Omega.{arith}
use Rattle.whole.specs.Tells.{Tells}
use Rattle.whole.specs.Laws.Tells.{tells_both, tells_as, leb_tells}
use Rattle.words.specs.Parts.{part}
use Rattle.words.specs.Laws.Parts.{length_part, get_or_part, part_next}
use Rattle.decimal.specs.Spells.{Digits, no_digits, and_digit}
use Rattle.decimal.specs.Inner.DigitRuns.{IsDigit, AllDigits, none, and, Stops, DigitsEnd}

-- ---- a digit, and how many there are, told by two tests
pub between_tells : {a b c : ℕ} → Tells (leb a b && leb b c) ((a ≤ b) × (b ≤ c))
between_tells = tells_both leb_tells leb_tells

pub digit_tells : {b : ℕ} → Tells (leb 48 b && leb b 57) (IsDigit b)
digit_tells = tells_as between_tells (λ h. record { from = h.0; to = h.1 }) (λ d. (d.from, d.to))

-- ---- one digit more
pub one_digit_more : {s : List ℕ} {b : ℕ} → AllDigits s → IsDigit b → AllDigits (s ++ (b ∷ []))
one_digit_more none h = and h none
one_digit_more (and g a) h = and g (one_digit_more a h)

pub digit_at : {s : List ℕ} → AllDigits s → (i : ℕ) → i < length s → IsDigit (get_or s i 0)
digit_at none i h = absurd (not-suc-le-zero h)
digit_at (and d a) zero h = d
digit_at (and d a) (suc i) h = digit_at a i (le_of_suc-le-suc h)

-- ---- what digits stand for
value_from : ℕ → List ℕ → ℕ
value_from v [] = v
value_from v (b ∷ s) = value_from (10 * v + (b - 48)) s

value_last : (v : ℕ) (s : List ℕ) (b : ℕ) → value_from v (s ++ (b ∷ [])) ≡ 10 * value_from v s + (b - 48)
unfolding value_from
value_last v [] b = refl
value_last v (c ∷ s) b = value_last (10 * v + (c - 48)) s b

value_is : {n : ℕ} {s : List ℕ} → Digits n s → value_from 0 s ≡ n
unfolding value_from
value_is no_digits = refl
value_is (and_digit {n} {d} {s} g h) = value_last 0 s (48 + d) ∙ omega (arith, value_is g)

-- digits stand for one number
pub same_value : {n m : ℕ} {s t : List ℕ} → Digits n s → Digits m t → s ≡ t → n ≡ m
same_value g h e = sym (value_is g) ∙ ap (value_from 0) e ∙ value_is h

pub digits_all : {n : ℕ} {s : List ℕ} → Digits n s → AllDigits s
digits_all no_digits = none
digits_all (and_digit g h) = one_digit_more (digits_all g) (record { from = omega arith; to = omega arith })

pub digits_below : {n : ℕ} {s : List ℕ} → Digits n s → n < 10 ^ length s
digits_below no_digits = omega arith
digits_below (and_digit {n} {d} {s} g h) =
    let long : length (s ++ (48 + d) ∷ []) ≡ suc (length s) = length-append s ((48 + d) ∷ []) ∙ omega arith in
    rw long (omega (arith, digits_below g))

pub value_below : {n : ℕ} {s : List ℕ} (k : ℕ) → Digits n s → length s ≤ k → n < 10 ^ k
value_below {n} {s} k g h = omega (arith, digits_below g, pow-le-pow_right {n = 10} (omega arith) h)

-- ---- two ways to cut a list after its digits are one
pub digits_cut_once : {s t p q : List ℕ} → AllDigits s → AllDigits t → Stops p → Stops q → s ++ p ≡ t ++ q → (s ≡ t) × (p ≡ q)
digits_cut_once none none hp hq e = (refl, e)
digits_cut_once none (and d a) hp hq e = absurd (subst Stops e hp d)
digits_cut_once (and d a) none hp hq e = absurd (subst Stops (sym e) hq d)
digits_cut_once {p} {q} (and {b} {s} d a) (and {b = c} {s = t} d' a') hp hq e =
    let tails : s ++ p ≡ t ++ q = cc in
    let r = digits_cut_once a a' hp hq tails in
    let front = r.0 in
    (cc, r.1)

-- ---- the digits of a line, counted one by one
module _ (line : List ℕ) (at : ℕ) where
  pub run_none : at ≤ length line → (at + 0 ≤ length line) × AllDigits (part line at 0)
  unfolding part
  run_none h = (omega arith, none)

  pub run_next : (n : ℕ) → at + n < length line → AllDigits (part line at n) → IsDigit (get_or line (at + n) 0) → AllDigits (part line at (n + 1))
  run_next n h a d = rw (part_next line at n 0 h) (one_digit_more a d)

  pub run_stops : (n : ℕ) → at + n < length line → AllDigits (part line at n) → (IsDigit (get_or line (at + n) 0) → ⊥) → DigitsEnd line at n
  run_stops n h a other = record { inside = omega arith; digits = a; stops = rw (drop-cons line (at + n) 0 h) other }

  pub run_ends : (n : ℕ) → at + n ≤ length line → length line ≤ at + n → AllDigits (part line at n) → DigitsEnd line at n
  run_ends n h end a = record { inside = h; digits = a; stops = rw (drop_of_length-le line end) tt }

  -- ---- and read one by one
  pub value_none : Digits 0 (part line at 0)
  unfolding part
  value_none = no_digits

  pub value_next : {n : ℕ} (k d : ℕ) → at + k < length line → Digits n (part line at k) → 48 + d ≡ get_or line (at + k) 0 → d ≤ 9 → Digits (10 * n + d) (part line at (k + 1))
  value_next k d h g e few = rw (part_next line at k 0 h, ← e) (and_digit g few)

  pub value_small : {n : ℕ} (k : ℕ) → at + k ≤ length line → k ≤ 9 → Digits n (part line at k) → n < 10 ^ 9
  value_small k h few g = value_below 9 g (omega (arith, length_part line at k h))

  pub digit_of : (n k : ℕ) → at + n ≤ length line → AllDigits (part line at n) → k < n → IsDigit (get_or line (at + k) 0)
  digit_of n k h a below = rw get_or_part at (digit_at a k (omega (arith, length_part line at n h)))
