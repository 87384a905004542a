-- Arrays that are made by a call for each place (`from_fn`) or for each element (`map`).
use Rattle.std.proofs.Common.{◌≡◌, refl, sym, ◌∙◌, subst, List, [], ◌∷◌, map, Some, ℕ, zero, suc, ◌+◌, ◌<◌, get_or, add-zero, length, ext_get_or, arith}
use Rattle.std.specs.Array.{IsFromFnResult, IsFromFnResultFrom, IsMapOf, list_steps}
use Rattle.std.specs.Fn.{Called}
use Rattle.std.specs.Iterator.{Yields}
use Rattle.std.specs.List.{range_with_len}
use Rattle.std.proofs.lemmas.List.FromFn.{fill_by_all}
use denote.Param.Members.{Mut}

-- by a closure that answers by the place alone
module _ {F B : Type 0} (g : Mut F (ℕ × Unit {0}) B) (f : F) (value : ℕ → B)
    (by : (i : ℕ) (y : B) (q : F) → Called g f (i, tt) y q → (y ≡ value i) × (q ≡ f)) where
  at_place : (ys : List B) (i n : ℕ) → IsFromFnResultFrom g f ys i n → (k : ℕ) (d : B) → k < n → get_or ys (i + k) d ≡ value (i + k)
  at_place ys i zero made k d lt = elim lt [ ]
  at_place ys i (suc n) (q, y, here, called, rest) zero d lt = rw add-zero (here.1 d ∙ (by i y q called).0)
  at_place ys i (suc n) (q, y, here, called, rest) (suc k) d lt =
      let next : i + suc k ≡ i + 1 + k = omega arith in
      rw next (at_place ys (i + 1) n (subst (λ s. IsFromFnResultFrom g s ys (i + 1) n) (by i y q called).1 rest) k d (omega arith))

  pub made_by : (ys : List B) (n : ℕ) (d : B) → IsFromFnResult g f ys n → ys ≡ map value (range_with_len 0 n)
  made_by ys n d made = fill_by_all value ys n d made.long (λ k lt. let at : 0 + k ≡ k = omega arith in rw at at (at_place ys 0 n made.each k d lt))

-- by a function that changes no number's value, as from a type to a wider one
pub kept_by : {F A : Type 0} (g : Mut F (A × Unit {0}) A) (f : F) → ((p : F) (x y : A) (q : F) → Called g p (x, tt) y q → y ≡ x)
    → (xs ys : List A) (n : ℕ) (d : A) → length xs ≡ n → IsMapOf g f xs ys n → ys ≡ xs
kept_by g f by xs ys n d long made =
    ext_get_or d ys xs (made.long ∙ sym long) (λ i lt. let (p, q, called) = made.at i d d (omega (arith, made.long)) in by p _ _ q called)

-- an element that is handed to a call of `map` stands at some place
pub handed : {A : Type 0} (d : A) (xs all : List A) {t u : List A} {x : A} → Yields list_steps all xs t → list_steps t (Some x) u
    → (length xs < length all) × (get_or all (length xs) d ≡ x)
handed d [] all same first = rw (same, first) (omega arith, refl)
handed d (y ∷ xs) all (j, first, yields) next = let (low, is) = handed d xs j yields next in rw first (omega arith, is)
