-- The reasons fix the number that is given; lists of reasons put together, and said in another way.
use Rattle.std.specs.Prelude.{◌≡◌, refl, ◌↔◌, Bool, true, false, cond, List, [], ◌∷◌, ◌++◌, ℕ, zero, suc, ltb, ℤ, pos, get_or, Result, Ok, Err, IsOk}
use Rattle.std.proofs.Common.{sym, ap, ◌∙◌, inl, inr, arith}
use Rattle.std.specs.Int.{int_min}
use Rattle.track.specs.declared.refusal.Refusal.{Refusal}
use Rattle.track.specs.declared.refusal.Refusal.TheVariants.{NotSound, BadCapacity, ShortTable, OutOfRange, BeforeClock, ExpiresFirst, Backward, NotLive, Full, ShortList, BadHeader, BadRecord, ShortBytes, NoTrack}
use Rattle.track.specs.Refusals.{number, number_of, Reason, ◌when◌, First, Gives, first_given}

-- a refusal's number is not 0
pub not_zero : {A : Type 0} (n : ℕ) → suc n ≡ 0 → A
not_zero n e = absurd (zero_not e)
  where
    zero_not : suc n ≡ 0 → ⊥
    zero_not e = omega arith

pub refused_not_zero : (r : Refusal) → number r ≡ 0 → ⊥
refused_not_zero NotSound = not_zero 0
refused_not_zero BadCapacity = not_zero 1
refused_not_zero ShortTable = not_zero 2
refused_not_zero OutOfRange = not_zero 3
refused_not_zero BeforeClock = not_zero 4
refused_not_zero ExpiresFirst = not_zero 5
refused_not_zero Backward = not_zero 6
refused_not_zero NotLive = not_zero 7
refused_not_zero Full = not_zero 8
refused_not_zero ShortList = not_zero 9
refused_not_zero BadHeader = not_zero 10
refused_not_zero BadRecord = not_zero 11
refused_not_zero ShortBytes = not_zero 12
refused_not_zero NoTrack = not_zero 13

-- a number has one refusal: place n of this list has that of number n
abbrev listed : List Refusal
listed =
    NotSound ∷ NotSound ∷ BadCapacity ∷ ShortTable ∷ OutOfRange ∷ BeforeClock ∷ ExpiresFirst ∷
    Backward ∷ NotLive ∷ Full ∷ ShortList ∷ BadHeader ∷ BadRecord ∷ ShortBytes ∷ NoTrack ∷ []

at_number : (r : Refusal) → get_or listed (number r) NotSound ≡ r
at_number NotSound = refl
at_number BadCapacity = refl
at_number ShortTable = refl
at_number OutOfRange = refl
at_number BeforeClock = refl
at_number ExpiresFirst = refl
at_number Backward = refl
at_number NotLive = refl
at_number Full = refl
at_number ShortList = refl
at_number BadHeader = refl
at_number BadRecord = refl
at_number ShortBytes = refl
at_number NoTrack = refl

pub number_fixes : (r s : Refusal) → number r ≡ number s → r ≡ s
number_fixes r s e = sym (at_number r) ∙ ap (λ (n : ℕ). get_or listed n NotSound) e ∙ at_number s

pub ok_at_zero : {A : Type 0} (r : Result A Refusal) → number_of r ≡ 0 → IsOk r
ok_at_zero (Ok x) e = refl
ok_at_zero (Err why) e = absurd (refused_not_zero why e)

-- two answers with one number are one, where what comes with them is
pub same_answer : {A : Type 0} (r s : Result A Refusal) → number_of r ≡ number_of s → ((x y : A) → r ≡ Ok x → s ≡ Ok y → x ≡ y) → r ≡ s
same_answer (Ok x) (Ok y) e same = ap Ok (same x y refl refl)
same_answer (Ok x) (Err why) e same = absurd (refused_not_zero why (sym e))
same_answer (Err why) (Ok y) e same = absurd (refused_not_zero why e)
same_answer (Err why) (Err other) e same = ap Err (number_fixes why other e)

-- so the number is fixed by the reasons
pub first_fixed : (rs : List Reason) (m n : ℕ) → First rs m → First rs n → m ≡ n
first_fixed [] m n h k = h ∙ sym k
first_fixed (i when P ∷ rs) m n (inl h) (inl k) = h.1 ∙ sym k.1
first_fixed (i when P ∷ rs) m n (inl h) (inr k) = absurd (k.0 h.0)
first_fixed (i when P ∷ rs) m n (inr h) (inl k) = absurd (h.0 k.0)
first_fixed (i when P ∷ rs) m n (inr h) (inr k) = first_fixed rs m n h.1 k.1

-- reasons said in another way give the same number
abbrev pub Same : List Reason → List Reason → Type 0
Same [] [] = Unit {0}
Same [] (l when Q ∷ ss) = ⊥
Same (k when P ∷ rs) [] = ⊥
Same (k when P ∷ rs) (l when Q ∷ ss) = (k ≡ l) × (P ↔ Q) × Same rs ss

pub first_as : (rs ss : List Reason) (n : ℕ) → Same rs ss → First rs n → First ss n
first_as [] [] n s h = h
first_as [] (l when Q ∷ ss) n s h = absurd s
first_as (k when P ∷ rs) [] n s h = absurd s
first_as (k when P ∷ rs) (l when Q ∷ ss) n s (inl h) = inl (s.1.0 h.0, h.1 ∙ s.0)
first_as (k when P ∷ rs) (l when Q ∷ ss) n s (inr h) = inr (λ q. h.0 (s.1.1 q), first_as rs ss n s.2 h.1)

-- ---- reasons one after the other
-- no reason has the number 0, which says that nothing is refused
abbrev pub NoneZero : List Reason → Type 0
NoneZero [] = Unit {0}
NoneZero (k when P ∷ rs) = (k ≡ 0 → ⊥) × NoneZero rs

-- where the number is 0 none of them holds
abbrev pub NoneHolds : List Reason → Type 0
NoneHolds [] = Unit {0}
NoneHolds (k when P ∷ rs) = (P → ⊥) × NoneHolds rs

pub none_holds : (rs : List Reason) (n : ℕ) → NoneZero rs → First rs n → n ≡ 0 → NoneHolds rs
none_holds [] n z h e = tt
none_holds (k when P ∷ rs) n z (inl h) e = absurd (z.0 (sym h.1 ∙ e))
none_holds (k when P ∷ rs) n z (inr h) e = (h.0, none_holds rs n z.1 h.1 e)

-- where the reasons are known to give f, f stands for all of them
pub first_then : (rs ss : List Reason) (f n : ℕ) → NoneZero rs → First rs f → First (f when (f ≡ 0 → ⊥) ∷ ss) n → First (rs ++ ss) n
first_then [] ss f n z h (inl g) = absurd (g.0 h)
first_then [] ss f n z h (inr g) = g.1
first_then (k when P ∷ rs) ss f n z (inl h) (inl g) = inl (h.0, g.1 ∙ h.1)
first_then (k when P ∷ rs) ss f n z (inl h) (inr g) = absurd (g.0 (λ e. z.0 (sym h.1 ∙ e)))
first_then (k when P ∷ rs) ss f n z (inr h) g = inr (h.0, first_then rs ss f n z.1 h.1 g)

pub first_is_second : (m n : ℕ) → (m ≡ 0 → ⊥) → (n ≡ 0 → ⊥) → ltb n m ≡ true → first_given m n ≡ n
first_is_second zero n y z e = absurd (y refl)
first_is_second (suc m) zero y z e = absurd (z refl)
first_is_second (suc m) (suc n) y z e = rw e

pub first_is_first : (m n : ℕ) → (m ≡ 0 → ⊥) → ltb n m ≡ false → first_given m n ≡ m
first_is_first zero n y e = absurd (y refl)
first_is_first (suc m) zero y e = refl
first_is_first (suc m) (suc n) y e = rw e

pub first_is_least : (r s : Refusal) → int_min (pos (number r)) (pos (number s)) ≡ pos (first_given (number r) (number s))
first_is_least r s = by (ltb (number s) (number r)) refl
  where
    by : (b : Bool) → ltb (number s) (number r) ≡ b → cond b (pos (number s)) (pos (number r)) ≡ pos (first_given (number r) (number s))
    by true e = ap pos (sym (first_is_second (number r) (number s) (refused_not_zero r) (refused_not_zero s) e))
    by false e = ap pos (sym (first_is_first (number r) (number s) (refused_not_zero r) e))

pub none_given : (m n : ℕ) → first_given m n ≡ 0 → (m ≡ 0) × (n ≡ 0)
none_given zero n e = (refl, e)
none_given (suc m) zero e = not_zero m e
none_given (suc m) (suc n) e = by (ltb (suc n) (suc m)) e
  where
    by : (b : Bool) → cond b (suc n) (suc m) ≡ 0 → (suc m ≡ 0) × (suc n ≡ 0)
    by true e = not_zero n e
    by false e = not_zero m e

pub gives_fixed : (rs : List Reason) (r s : ℤ) → Gives rs r → Gives rs s → r ≡ s
gives_fixed rs r s g h = g.is ∙ ap pos (first_fixed rs g.number h.number g.first h.first) ∙ sym h.is
