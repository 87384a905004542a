-- A loop that writes a run of elements in ascending order: what holds after each turn. `run j` is the first j elements of the run.
use mathlib.Core.Path.{◌≡◌, refl, sym, ap, ◌∙◌, subst}
use mathlib.Core.List.{List, [], ◌∷◌, ◌++◌}
use Prim.Native.Nat.{ℕ, ◌+◌, ◌<◌, ◌≤◌}
use native.Mathlib.Decide.{dec_lt}
use native.Mathlib.Omega.{arith}
use lib.ListN.{length, get_or, set, length-set}
use Rattle.words.specs.Parts.{part, put}
use Rattle.words.specs.Inner.Parts.{CanCopy}
use Rattle.words.specs.Laws.Parts.{length_part, part_next, get_or_put_below, get_or_put_above, put_none, put_next}

-- of the n elements of a run, the first j are written to the list w from `to` on, which made it t
pub record RunWritten {A : Type 0} (run : ℕ → List A) (w t : List A) (to n j : ℕ) : Type 0 where
  pub upto : j ≤ n
  pub is : t ≡ put w to j (run j)
  pub long : length t ≡ length w

pub written_none : {A : Type 0} {run : ℕ → List A} {w : List A} {to n : ℕ} → run 0 ≡ [] → RunWritten run w w to n 0
written_none {w} {to} e = record { upto = omega arith; is = rw e (sym (put_none w to)); long = refl }

pub written_next : {A : Type 0} {run : ℕ → List A} {w t : List A} {to n j : ℕ} → RunWritten run w t to n j → (v : A) → to + n ≤ length w → j < n
    → length (run j) ≡ j → run (j + 1) ≡ run j ++ (v ∷ []) → RunWritten run w (set t (to + j) v) to n (j + 1)
written_next {run} {w} {t} {to} {n} {j} so_far v fits h many more = record {
  upto = omega arith;
  is = rw (so_far.is, more) (put_next w to j (run j) v (omega arith) many);
  long = length-set t (to + j) v ∙ so_far.long;
}

-- the same in a list that is written from its start on
pub filled_next : {A : Type 0} {run : ℕ → List A} {w t : List A} {n j : ℕ} → RunWritten run w t 0 n j → (v : A) → n ≤ length w → j < n
    → length (run j) ≡ j → run (j + 1) ≡ run j ++ (v ∷ []) → RunWritten run w (set t j v) 0 n (j + 1)
filled_next {run} {w} {t} {n} {j} so_far v fits h many more =
    let at : 0 + j ≡ j = omega arith in
    subst (λ (i : ℕ). RunWritten run w (set t i v) 0 n (j + 1)) at (written_next so_far v (omega arith) h many more)

pub written_all : {A : Type 0} {run : ℕ → List A} {w t : List A} {to n j : ℕ} → RunWritten run w t to n j → n ≤ j → t ≡ put w to n (run n)
written_all {n} {j} so_far h = let e : j ≡ n = omega (arith, so_far.upto) in rw e at so_far.is

-- what is still to be copied is as it was
not_yet_written : {A : Type 0} {w t : List A} {from to n j : ℕ} → CanCopy w from to n → RunWritten (part w from) w t to n j → (d : A) → j < n
    → get_or t (from + j) d ≡ get_or w (from + j) d
not_yet_written {w} {from} {to} {n} {j} can so_far d h = rw so_far.is (by (dec_lt from to))
  where
    fits : to + j ≤ length w
    fits = omega (arith, can.to_inside)

    by : Dec (from < to) → get_or (put w to j (part w from j)) (from + j) d ≡ get_or w (from + j) d
    by (yes up) = get_or_put_below w to j (part w from j) (from + j) d fits (omega (arith, can.apart_upward up))
    by (no not-up) =
        get_or_put_above w to j (part w from j) (from + j) d fits (length_part w from j (omega (arith, can.from_inside))) (omega arith)

pub copied_next : {A : Type 0} {w t : List A} {from to n j : ℕ} → CanCopy w from to n → RunWritten (part w from) w t to n j → (d v : A) → v ≡ get_or t (from + j) d → j < n
    → RunWritten (part w from) w (set t (to + j) v) to n (j + 1)
copied_next {w} {from} {j} can so_far d v read h =
    let inside : from + j < length w = omega (arith, can.from_inside) in
    written_next so_far v can.to_inside h (length_part w from j (omega arith))
    (part_next w from j d inside ∙ ap (λ x. part w from j ++ (x ∷ [])) (sym (read ∙ not_yet_written can so_far d h)))
