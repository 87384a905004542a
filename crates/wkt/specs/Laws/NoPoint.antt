-- No POINT line stands anywhere in LINESTRING lines: the letter with which `POINT` begins is in none of them.
use Rattle.std.specs.Prelude.{◌≡◌, Bool, true, false, cond, List, [], ◌∷◌, ◌++◌, ℕ, T, eqb, ℤ}
use Rattle.std.proofs.Common.{ap, ◌∙◌, subst, arith, eqb→eq}
use Rattle.decimal.specs.Inner.DigitRuns.{AllDigits, none, and}
use Rattle.decimal.specs.Laws.DigitRuns.{digits_all}
use Rattle.decimal.specs.Laws.Spells.{SignedDigits, plain_digits, minus_digits}
use Rattle.decimal.specs.Laws.SignedDecimal.{signed_digits}
use Rattle.decimal.specs.Decimal.{SignedDecimal}
use Rattle.wkt.specs.TrackLine.{closing, PointText, PointForm, TrackForm}
use Rattle.wkt.specs.declared.point.Point.{Point}

-- ---- bytes without a P, which is 80
abbrev pub without_p : List ℕ → Bool
without_p [] = true
without_p (b ∷ l) = cond (eqb b 80) false (without_p l)

pub without-append : (s t : List ℕ) → T (without_p s) → T (without_p t) → T (without_p (s ++ t))
without-append [] t h k = k
without-append (b ∷ s) t h k = by (eqb b 80) h (λ g. without-append s t g k)
  where
    by : (f : Bool) → T (cond f false (without_p s)) → (T (without_p s) → T (without_p (s ++ t))) → T (cond f false (without_p (s ++ t)))
    by true g rest = g
    by false g rest = rest g

has_P : (s t : List ℕ) → T (without_p (s ++ (80 ∷ t))) → ⊥
has_P [] t h = h
has_P (b ∷ s) t h = by (eqb b 80) h (has_P s t)
  where
    by : (f : Bool) → T (cond f false (without_p (s ++ (80 ∷ t)))) → (T (without_p (s ++ (80 ∷ t))) → ⊥) → ⊥
    by true g rest = g
    by false g rest = rest g

-- ---- numbers, points and lines
without_digits : {s : List ℕ} → AllDigits s → T (without_p s)
without_digits none = tt
without_digits (and {b} {s} d a) = by (eqb b 80) (λ is. no_P (eqb→eq b 80 is)) (without_digits a)
  where
    no_P : b ≡ 80 → ⊥
    no_P e = omega (arith, d.to)

    by : (f : Bool) → (T f → ⊥) → T (without_p s) → T (cond f false (without_p s))
    by true other rest = absurd (other tt)
    by false other rest = rest

without-number : {z : ℤ} {s : List ℕ} → SignedDecimal z s → T (without_p s)
without-number g = by (signed_digits g)
  where
    by : {z : ℤ} {s : List ℕ} → SignedDigits z s → T (without_p s)
    by (plain_digits d some) = without_digits (digits_all d)
    by (minus_digits d) = without_digits (digits_all d)

without-point : {p : Point} {s : List ℕ} → PointText p s → T (without_p s)
without-point g =
    rw g.is (without-append g.x_text _ (without-number g.x_spelt) (without-append g.y_text _ (without-number g.y_spelt) (without-number g.m_spelt)))

pub without_line : {p q : Point} {line : List ℕ} → TrackForm p q line → T (without_p line)
without_line g = rw g.is (without-append g.from _ (without-point g.from_spelt) (without-append g.to closing (without-point g.to_spelt) tt))

-- ---- a POINT line has a P
pub no_point : (before after : List ℕ) {text line : List ℕ} {p : Point} → T (without_p text) → text ≡ before ++ (line ++ after) → PointForm p line → ⊥
no_point before after h e form = has_P before _ (subst (λ (l : List ℕ). T (without_p l)) (e ∙ ap (λ (l : List ℕ). before ++ (l ++ after)) form.is) h)
