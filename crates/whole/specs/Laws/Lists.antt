-- Laws of membership: in a list by place, in what a test keeps and in lists gathered one after the other; and how long a list without repeats is.
use Rattle.std.specs.Prelude.{◌≡◌, refl, ◌⊎◌, Bool, true, false, length, get_or, take, drop}
use Rattle.std.proofs.Common.{sym, ◌∙◌, inl, inr, not-suc-le-zero, le_of_suc-le-suc, take-append-drop, length-append}
use Rattle.std.proofs.Math.Path.{ap}
use Rattle.std.proofs.Math.Logic.{⊎_elim}
use mathlib.Core.List.Memᴰ
use mathlib.Core.List.{List, [], ◌∷◌, ◌++◌}
use Prim.Native.Nat.{ℕ, zero, suc, ◌≤◌, ◌<◌}
use Rattle.std.proofs.Math.Decide.{dec_lt}
use native.Mathlib.Omega.{arith}
use Rattle.whole.specs.Lists.{◌∈◌, ◌⊆◌, put_if, keep, NoRepeat, no_repeat_none, no_repeat_cons}

-- what stands at a place stands in the list
pub at_in : {A : Type 0} (l : List A) (i : ℕ) (d : A) → i < length l → get_or l i d ∈ l
at_in [] i d lt = absurd (not-suc-le-zero lt)
at_in (x ∷ l) zero d lt = Memᴰ.head refl
at_in (x ∷ l) (suc i) d lt = Memᴰ.tail (at_in l i d (le_of_suc-le-suc lt))

-- what stands in the list stands at some place
pub in_at : {A : Type 0} {x : A} {l : List A} (d : A) → x ∈ l → (i : ℕ) × (i < length l) × (get_or l i d ≡ x)
in_at d (Memᴰ.head e) = (0, omega arith, sym e)
in_at d (Memᴰ.tail m) = let r = in_at d m in (suc r.0, omega arith, r.2)

pub take_in : {A : Type 0} (n : ℕ) (l : List A) → take n l ⊆ l
take_in n l x m = rw take-append-drop at (Memᴰ.append_left (drop n l) m)

-- a member cuts its list in two
pub cut_at : {A : Type 0} {x : A} {l : List A} → x ∈ l → (before : List A) × (after : List A) × (l ≡ before ++ x ∷ after)
cut_at {A} (Memᴰ.head {xs} e) = ([], xs, ap {B = List A} (λ y. y ∷ xs) (sym e))
cut_at {A} (Memᴰ.tail {x = y} m) = let r = cut_at m in (y ∷ r.0, r.1, ap {B = List A} (λ l. y ∷ l) r.2)

put_if_cases : {A : Type 0} (t : Bool) {x y : A} {l : List A} → x ∈ put_if t y l → ((x ≡ y) × (t ≡ true)) ⊎ x ∈ l
put_if_cases true m = ⊎_elim (λ e. inl (e, refl)) inr (Memᴰ.cases_cons m)
put_if_cases false m = inr m

put_if_head : {A : Type 0} {t : Bool} {x y : A} (l : List A) → x ≡ y → t ≡ true → x ∈ put_if t y l
put_if_head l e p = rw p (Memᴰ.head e)

put_if_tail : {A : Type 0} (t : Bool) (y : A) {x : A} {l : List A} → x ∈ l → x ∈ put_if t y l
put_if_tail true y m = Memᴰ.tail m
put_if_tail false y m = m

module _ {A : Type 0} (test : A → Bool) where
  pub keep_in : (l : List A) {x : A} → x ∈ keep test l → (x ∈ l) × (test x ≡ true)
  unfolding keep
  keep_in [] m = absurd (Memᴰ.not-nil m)
  keep_in (y ∷ l) {x} m =
      ⊎_elim (λ h. (Memᴰ.head h.0, ap test h.0 ∙ h.1)) (λ n. let r = keep_in l n in (Memᴰ.tail r.0, r.1)) (put_if_cases (test y) m)

  pub in_keep : {x : A} {l : List A} → x ∈ l → test x ≡ true → x ∈ keep test l
  unfolding keep
  in_keep (Memᴰ.head {xs} e) p = put_if_head (keep test xs) e (ap test (sym e) ∙ p)
  in_keep (Memᴰ.tail {x = y} m) p = put_if_tail (test y) y (in_keep m p)

-- ---- the lists f 0, f 1, .. one after the other, as many as n
unfoldable pub gather : {A : Type 0} → (ℕ → List A) → ℕ → List A
gather f zero = []
gather f (suc n) = gather f n ++ f n

module _ {A : Type 0} (f : ℕ → List A) where
  pub gather_in : (n : ℕ) {x : A} → x ∈ gather f n → (k : ℕ) × (k < n) × (x ∈ f k)
  unfolding gather
  gather_in zero m = absurd (Memᴰ.not-nil m)
  gather_in (suc n) m =
      ⊎_elim (λ h. let r = gather_in n h in (r.0, omega arith, r.2)) (λ h. (n, omega arith, h)) (Memᴰ.append_cases (gather f n) m)

  pub in_gather : (n k : ℕ) {x : A} → k < n → x ∈ f k → x ∈ gather f n
  unfolding gather
  in_gather zero k lt m = absurd (not-suc-le-zero lt)
  in_gather (suc n) k {x} lt m = by (λ h. in_gather n k h m) (dec_lt k n)
    where
      by : (k < n → x ∈ gather f n) → Dec (k < n) → x ∈ gather f n ++ f n
      by below (yes h) = Memᴰ.append_left (f n) (below h)
      by below (no h) = let e : k ≡ n = omega arith in Memᴰ.append_right (gather f n) (rw e at m)

-- no element stands in both
abbrev pub Apart : {A : Type 0} → List A → List A → Type 0
Apart {A} l m = (x : A) → x ∈ l → x ∈ m → ⊥

module _ {A : Type 0} where
  pub no_repeat_head : {x : A} {l : List A} → NoRepeat (x ∷ l) → x ∈ l → ⊥
  no_repeat_head (no_repeat_cons new once) = new

  pub no_repeat_tail : {x : A} {l : List A} → NoRepeat (x ∷ l) → NoRepeat l
  no_repeat_tail (no_repeat_cons new once) = once

  pub no_repeat_append : {l m : List A} → NoRepeat l → NoRepeat m → Apart l m → NoRepeat (l ++ m)
  no_repeat_append no_repeat_none once-m apart = once-m
  no_repeat_append (no_repeat_cons {x} {l} new once) once-m apart =
      no_repeat_cons
      (λ h. ⊎_elim new (apart x (Memᴰ.head refl)) (Memᴰ.append_cases l h))
      (no_repeat_append once once-m (λ y h. apart y (Memᴰ.tail h)))

  pub no_repeat_left : (l m : List A) → NoRepeat (l ++ m) → NoRepeat l
  no_repeat_left [] m once = no_repeat_none
  no_repeat_left (x ∷ l) m (no_repeat_cons new once) = no_repeat_cons (λ h. new (Memᴰ.append_left m h)) (no_repeat_left l m once)

  pub no_repeat_right : (l m : List A) → NoRepeat (l ++ m) → NoRepeat m
  no_repeat_right [] m once = once
  no_repeat_right (x ∷ l) m (no_repeat_cons new once) = no_repeat_right l m once

  pub no_repeat_apart : (l m : List A) → NoRepeat (l ++ m) → Apart l m
  no_repeat_apart [] m once x h k = Memᴰ.not-nil h
  no_repeat_apart (y ∷ l) m (no_repeat_cons new once) x h k =
      ⊎_elim (λ e. new (Memᴰ.append_right l (Memᴰ.cast (sym e) k))) (λ n. no_repeat_apart l m once x n k) (Memᴰ.cases_cons h)

  -- ---- how long a list without repeats is
  -- what stands in a list with x, and is not x, stands beside it
  beside : {x y : A} (before after : List A) → (x ≡ y → ⊥) → y ∈ before ++ x ∷ after → y ∈ before ++ after
  beside {x} {y} before after other m = ⊎_elim (Memᴰ.append_left after) (λ h. Memᴰ.append_right before (behind (Memᴰ.cases_cons h))) (Memᴰ.append_cases before m)
    where
      behind : (y ≡ x) ⊎ y ∈ after → y ∈ after
      behind (inl e) = absurd (other (sym e))
      behind (inr h) = h

  -- its elements find room in any list that has them all
  pub no_repeat_fits : {l m : List A} → NoRepeat l → l ⊆ m → length l ≤ length m
  no_repeat_fits no_repeat_none has = omega arith
  no_repeat_fits {m} (no_repeat_cons {x} {l} new once) has = fit (cut_at (has x (Memᴰ.head refl))) (λ rest. no_repeat_fits {m = rest} once)
    where
      fit : (before : List A) × (after : List A) × (m ≡ before ++ x ∷ after) → ((rest : List A) → l ⊆ rest → length l ≤ length rest)
          → suc (length l) ≤ length m
      fit c fits =
          let before = c.0 in
          let after = c.1 in
          let room = fits (before ++ after) (λ y h. beside before after (λ e. new (Memᴰ.cast e h)) (rw c.2 at (has y (Memᴰ.tail h)))) in
          omega (arith, ap length c.2, length-append before (x ∷ after), length-append before after)
