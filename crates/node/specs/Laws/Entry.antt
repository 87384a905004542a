-- Laws of a node's entries, one by one and from one on.
use Rattle.std.specs.Prelude.{◌≡◌, ◌&&◌, leb, ℤ, pos, negsuc, length, drop}
use Rattle.std.proofs.Math.Path.{refl}
use Rattle.std.proofs.Common.{ap, ◌∙◌, not-suc-le-zero, add-one, leb→le, drop_of_length-le, drop-cons, take_all}
use mathlib.Core.List.{List, [], ◌∷◌, ◌++◌}
use Prim.Native.Nat.{ℕ, zero, suc, min, ◌+◌, ◌<◌, ◌≤◌}
use Rattle.std.proofs.Math.Decide.{dec_lt}
use native.Mathlib.Omega.{arith}
use Rattle.std.specs.Int.Signed.{le_z}
use Rattle.std.proofs.Math.ListN.{get_or, take, length-append, get_or-append}
use Rattle.std.proofs.lemmas.List.{get_or_at}
use Rattle.std.proofs.Math.Seq.{take-append-le}
use Rattle.whole.specs.Lists.{◌∈◌}
use Rattle.whole.specs.Laws.Lists.{at_in}
use Rattle.whole.specs.Tells.{Tells}
use Rattle.whole.specs.Laws.Tells.{tells_as, tells_both}
use Rattle.whole.specs.Laws.Order.{le_z_tells}
use Rattle.words.specs.Layout.{entry_at, entry_offset, entry_words, full_node}
use Rattle.words.specs.Words.{nat_of, rows_at}
use Rattle.words.specs.Laws.Words.{nat_of_tells, rows_at_in_part}
use Rattle.node.specs.Entry.{values_to, entry_count_word, IsCount, entry_count, entries_of}

-- ---- f 0, f 1, .. as many as n
module _ {A : Type 0} (f : ℕ → A) where
  pub length_first_of : (n : ℕ) → length (values_to f n) ≡ n
  unfolding values_to
  length_first_of zero = refl
  length_first_of (suc n) = simp length-append (omega (arith, length_first_of n))

  pub get_or_first_of : (n k : ℕ) (d : A) → k < n → get_or (values_to f n) k d ≡ f k
  unfolding values_to
  get_or_first_of zero k d h = absurd (not-suc-le-zero h)
  get_or_first_of (suc n) k d h = by (λ l. get_or_first_of n k d l) (dec_lt k n)
    where
      by : (k < n → get_or (values_to f n) k d ≡ f k) → Dec (k < n) → get_or (values_to f n ++ f n ∷ []) k d ≡ f k
      by below (yes l) = get_or-append (values_to f n) (f n ∷ []) d k (omega (arith, length_first_of n)) ∙ below l
      by below (no l) = let e : k ≡ n = omega arith in rw e (get_or_at (values_to f n) (f n) [] d n (length_first_of n))

  -- the first m of them
  pub take_first_of : (m n : ℕ) → m ≤ n → take m (values_to f n) ≡ values_to f m
  unfolding values_to
  take_first_of m zero h = let e : m ≡ 0 = omega arith in rw e
  take_first_of m (suc n) h = by (λ l. take_first_of m n l) (dec_lt n m)
    where
      by : (m ≤ n → take m (values_to f n) ≡ values_to f m) → Dec (n < m) → take m (values_to f n ++ f n ∷ []) ≡ values_to f m
      by below (yes l) =
          let e : m ≡ suc n = omega arith in
          rw e (take_all (suc n) (values_to f (suc n)) (omega (arith, length_first_of (suc n))))
      by below (no l) = take-append-le m (values_to f n) (f n ∷ []) (omega (arith, length_first_of n)) ∙ below (omega arith)

pub first_of_same : {A : Type 0} (f g : ℕ → A) (n : ℕ) → ((k : ℕ) → k < n → f k ≡ g k) → values_to f n ≡ values_to g n
unfolding values_to
first_of_same f g zero same = refl
first_of_same f g (suc n) same = rw (first_of_same f g n (λ k l. same k (omega arith)), same n (omega arith))

-- ---- the count
pub count_fits : (node : List ℤ) → entry_count node ≤ full_node
unfolding entry_count
count_fits node = omega arith

-- a count that is in range is the word itself
pub count_is : (node : List ℤ) → IsCount (entry_count_word node) → entry_count_word node ≡ pos (entry_count node)
unfolding entry_count nat_of
count_is node h = same (entry_count_word node) h
  where
    same : (z : ℤ) → IsCount z → z ≡ pos (min (nat_of z) full_node)
    same (pos n) h = ap pos (omega (arith, leb→le n full_node h.to.le))
    same (negsuc n) h = absurd h.from.le

-- the test whether a word is a count
pub count_tells : (z : ℤ) → Tells (le_z (pos 0) z && leb (nat_of z) full_node) (IsCount z)
count_tells z = tells_as (tells_both le_z_tells (nat_of_tells z full_node)) (λ p. record { from = p.0; to = p.1 }) (λ c. (c.from, c.to))

-- ---- the entries
module _ (node : List ℤ) where
  pub length-entries_of : length (entries_of node) ≡ entry_count node
  unfolding entries_of
  length-entries_of = length_first_of (entry_at node) (entry_count node)

  -- none is left from the count on
  pub entries_end : drop (entry_count node) (entries_of node) ≡ []
  entries_end = drop_of_length-le (entries_of node) {i = entry_count node} (omega (arith, length-entries_of))

  module _ (k : ℕ) (low : k < entry_count node) where
    pub entry_is : get_or (entries_of node) k [] ≡ entry_at node k
    unfolding entries_of
    entry_is = get_or_first_of (entry_at node) (entry_count node) k [] low

    pub entry_in : entry_at node k ∈ entries_of node
    entry_in = rw entry_is at (at_in (entries_of node) k [] (omega (arith, length-entries_of)))

    pub entries_from : drop k (entries_of node) ≡ entry_at node k ∷ drop (suc k) (entries_of node)
    entries_from = drop-cons (entries_of node) k [] (omega (arith, length-entries_of)) ∙ rw entry_is

    pub entries_next : drop k (entries_of node) ≡ entry_at node k ∷ drop (k + 1) (entries_of node)
    entries_next = rw add-one entries_from

-- ---- an entry's words, by their place in the node
pub entry_rows : (node : List ℤ) (k : ℕ) → rows_at (entry_at node k) 1 ≡ rows_at node (entry_offset k + 1)
unfolding entry_at
entry_rows node k = rows_at_in_part node (entry_offset k) entry_words 1 (omega arith)
