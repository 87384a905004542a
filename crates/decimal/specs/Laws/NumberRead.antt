-- A law for each way through the code that reads digits and a number.
use Rattle.std.specs.Prelude.{◌≡◌, List, [], ◌∷◌, ◌++◌, ℕ, ◌+◌, ◌^◌, ◌≤◌, ◌<◌, ℤ, pos, neg_ℤ, Option, Some, None, length, get_or, drop}
use Rattle.std.proofs.Common.{sym, ap, ◌∙◌, add-one, arith, length-append, take-append-drop, drop_of_length-le, drop-cons, drop-drop}
use Rattle.whole.specs.Within.{Within}
use Rattle.words.specs.Parts.{part}
use Rattle.words.specs.Laws.Parts.{length_part}
use Rattle.decimal.specs.Spells.{Digits, Spells, plain, minus}
use Rattle.decimal.specs.Inner.DigitRuns.{Stops, DigitsEnd}
use Rattle.decimal.specs.Inner.NumberRead.{Plain, DigitsRead, NumberRead}
use Rattle.decimal.specs.Laws.DigitRuns.{digits_all, digits_cut_once}
use Rattle.decimal.specs.Laws.Spells.{spells_in, minus_first}

-- ---- what stands at a cursor
rest_of : (line : List ℕ) (at n : ℕ) → part line at n ++ drop (at + n) line ≡ drop at line
unfolding part
rest_of line at n = ap (λ (l : List ℕ). part line at n ++ l) (sym (drop-drop n at line)) ∙ take-append-drop n (drop at line)

none_begins : {z : ℤ} {s : List ℕ} (rest : List ℕ) → Spells z s → [] ≡ s ++ rest → ⊥
none_begins {s} rest (plain g some few) e = omega (arith, ap length e, length-append s rest)
none_begins rest (minus g some few) e = let z : ◌≡◌ {A = ℕ} 0 1 = cc in omega arith

without_minus : {l : List ℕ} {z : ℤ} {s rest : List ℕ} → Spells z s → Stops rest → l ≡ s ++ rest → ((q : List ℕ) → l ≡ 45 ∷ q → ⊥) → (n : ℕ) × Plain l n rest
without_minus {s} (plain {n} g some few) stops e other = (n, record { spelling = s; digits = g; some = some; few = few; stops = stops; is = e })
without_minus {rest} (minus {s} g some few) stops e other = absurd (other (s ++ rest) e)

with_minus : {l m : List ℕ} {z : ℤ} {s rest : List ℕ} → Spells z s → Stops rest → l ≡ s ++ rest → l ≡ 45 ∷ m → (n : ℕ) × Plain m n rest
with_minus {rest} (plain g some few) stops e first = absurd (minus_first rest (digits_all g) some (sym e ∙ first))
with_minus (minus {n} {s} g some few) stops e first = (n, record { spelling = s; digits = g; some = some; few = few; stops = stops; is = cc })

module _ (line : List ℕ) (at : ℕ) where
  pub first_is : at < length line → (b : ℕ) → get_or line at 0 ≡ b → drop at line ≡ b ∷ drop (at + 1) line
  first_is h b e = rw (drop-cons line at 0 h, add-one, e)

  pub first_of : {b : ℕ} {l : List ℕ} → at < length line → drop at line ≡ b ∷ l → get_or line at 0 ≡ b
  first_of h e = ap (λ (l : List ℕ). get_or l 0 0) (sym (drop-cons line at 0 h) ∙ e)

  -- ---- digits
  -- a number has as many digits as stand there
  as_many : {k n : ℕ} {rest : List ℕ} → DigitsEnd line at k → Plain (drop at line) n rest → (1 ≤ k) × (k ≤ 9)
  as_many {k} run p =
      let same = digits_cut_once (digits_all p.digits) run.digits p.stops run.stops (sym p.is ∙ sym (rest_of line at k)) in
      let many : length p.spelling ≡ k = ap length same.0 ∙ length_part line at k run.inside in
      (omega (arith, many, p.some), omega (arith, many, p.few))

  pub wrong_count : {k : ℕ} → DigitsEnd line at k → ((1 ≤ k) × (k ≤ 9) → ⊥) → DigitsRead line at None
  wrong_count run h = λ n rest p. h (as_many run p)

  pub enough : {k n : ℕ} {z : ℤ} → DigitsEnd line at k → (1 ≤ k) × (k ≤ 9) → Digits n (part line at k) → z ≡ pos n → DigitsRead line at (Some (z, at + k))
  enough {k} {n} run right g e =
      let many = length_part line at k run.inside in (
        n,
        e,
        run.inside,
        record {
          spelling = part line at k;
          digits = g;
          some = omega (arith, many, right.0);
          few = omega (arith, many, right.1);
          stops = run.stops;
          is = sym (rest_of line at k);
        },
      )

  pub digits_in : {z : ℤ} (next : ℕ) → DigitsRead line at (Some (z, next)) → Within (10 ^ 9) z
  digits_in next (n, e, inside, p) = rw e (spells_in (plain p.digits p.some p.few))

  -- ---- a number
  pub no_number_left : length line ≤ at → NumberRead line at None
  no_number_left h = λ z rest b. none_begins rest b.spells (sym (drop_of_length-le line h) ∙ b.is)

  pub unsigned : (r : Option (ℤ × ℕ)) → at < length line → (get_or line at 0 ≡ 45 → ⊥) → DigitsRead line at r → NumberRead line at r
  unsigned (Some (z, next)) h other (n, e, inside, p) =
      (inside, record { spelling = p.spelling; spells = rw e (plain p.digits p.some p.few); stops = p.stops; is = p.is })
  unsigned None h other none = λ z rest b.
      let r = without_minus b.spells b.stops b.is (λ q e. other (first_of h e)) in
      none r.0 rest r.1

  pub negative : {y z : ℤ} (next : ℕ) → at < length line → get_or line at 0 ≡ 45 → DigitsRead line (at + 1) (Some (y, next)) → z ≡ neg_ℤ y → NumberRead line at (Some (z, next))
  negative next h first (n, e, inside, p) f = (
    inside,
    record {
      spelling = 45 ∷ p.spelling;
      spells = rw (f, e) (minus p.digits p.some p.few);
      stops = p.stops;
      is = first_is h 45 first ∙ ap (λ (l : List ℕ). 45 ∷ l) p.is;
    },
  )

  pub not_negative : at < length line → get_or line at 0 ≡ 45 → DigitsRead line (at + 1) None → NumberRead line at None
  not_negative h first none = λ z rest b.
      let r = with_minus b.spells b.stops b.is (first_is h 45 first) in
      none r.0 rest r.1
