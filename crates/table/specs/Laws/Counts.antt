-- The nodes of a sound tree against its leaf entries: there are so few nodes that a table with room for the cells has room for more nodes.
use Rattle.std.specs.Prelude.{◌≡◌, refl, ◌⊎◌, ℤ, length}
use Rattle.std.proofs.Common.{ap, inl, inr, ⊎_elim, length-append}
use mathlib.Core.List.Memᴰ
use mathlib.Core.List.{List, [], ◌∷◌, flat_map}
use Prim.Native.Nat.{ℕ, zero, suc, ◌+◌, ◌*◌, ◌≤◌, ◌<◌}
use Rattle.std.proofs.Math.Decide.{dec_lt}
use native.Mathlib.Omega.{arith}
use Rattle.whole.specs.Lists.{◌∈◌, NoRepeat, no_repeat_none, no_repeat_cons}
use Rattle.whole.specs.Laws.Lists.{no_repeat_fits}
use Rattle.whole.specs.Inner.Times.{times}
use Rattle.whole.specs.Laws.Times.{times_in, in_times}
use Rattle.node.specs.Entry.{Entry, child_of}
use Rattle.table.specs.Header.{nodes_for}
use Rattle.table.specs.SoundTree.{Nodes, leaves_of, nodes_of, EntrySound, TreeSound}

-- ---- nodes and leaf entries
-- where each x has twice as many in f x as in g x and one more, there are over a list as many more as it is long
pub flat_counts : {A B C : Type 0} (f : A → List B) (g : A → List C) (l : List A) → ((x : A) → x ∈ l → 2 * length (g x) + 1 ≤ length (f x))
    → 2 * length (flat_map g l) + length l ≤ length (flat_map f l)
unfolding flat_map
flat_counts f g [] each = omega arith
flat_counts f g (x ∷ l) each =
    let here = each x (Memᴰ.head refl) in
    let rest = flat_counts f g l (λ y m. each y (Memᴰ.tail m)) in
    omega (arith, length-append (f x) (flat_map f l), length-append (g x) (flat_map g l))

module _ (N : Nodes) (cells : ℕ) (clock : ℤ) where
  -- twice the nodes and the node's own entries are at most two more than the leaf entries
  pub few_nodes : (h i : ℕ) → TreeSound N cells clock h i → 2 * length (nodes_of N h i) + length (N i) ≤ length (leaves_of N h i) + 2
  unfolding leaves_of nodes_of TreeSound
  few_nodes zero i tree = omega arith
  few_nodes (suc h) i tree =
      omega (
        arith,
        flat_counts (λ e. leaves_of N h (child_of e)) (λ e. nodes_of N h (child_of e)) (N i)
            (λ e m. let u = tree e m in omega (arith, u.0.filled, few_nodes h (child_of e) u.1)),
      )

  -- below an entry there are more than twice as many leaf entries as nodes
  pub few_below : (h : ℕ) (e : Entry) → EntrySound N cells clock h e → TreeSound N cells clock h (child_of e)
      → 2 * length (nodes_of N h (child_of e)) + 1 ≤ length (leaves_of N h (child_of e))
  few_below h e s tree = omega (arith, s.filled, few_nodes h (child_of e) tree)

-- ---- a number that does not stand in a list, below any number above its length
-- the numbers below n
below : ℕ → List ℕ
below zero = []
below (suc n) = n ∷ below n

below_less : (n : ℕ) {j : ℕ} → j ∈ below n → j < n
unfolding below
below_less zero m = absurd (Memᴰ.not-nil m)
below_less (suc n) {j} m = ⊎_elim (λ (e : j ≡ n). omega arith) (λ k. let lt = below_less n k in omega arith) (Memᴰ.cases_cons m)

below_once : (n : ℕ) → NoRepeat (below n)
unfolding below
below_once zero = no_repeat_none
below_once (suc n) = no_repeat_cons (λ m. absurd (not_self (below_less n m))) (below_once n)
  where
    not_self : n < n → ⊥
    not_self lt = omega arith

below_length : (n : ℕ) → length (below n) ≡ n
unfolding below
below_length zero = refl
below_length (suc n) = ap suc (below_length n)

-- among the numbers below n there is one that does not stand in l, or all do
missing : (n : ℕ) (l : List ℕ) → ((j : ℕ) × (j < n) × (j ∈ l → ⊥)) ⊎ ((j : ℕ) → j ∈ below n → j ∈ l)
unfolding below
missing zero l = inr (λ j m. absurd (Memᴰ.not-nil m))
missing (suc n) l = by (dec_lt 0 (times n l)) (missing n l)
  where
    by : Dec (0 < times n l) → ((j : ℕ) × (j < n) × (j ∈ l → ⊥)) ⊎ ((j : ℕ) → j ∈ below n → j ∈ l)
        → ((j : ℕ) × (j < suc n) × (j ∈ l → ⊥)) ⊎ ((j : ℕ) → j ∈ n ∷ below n → j ∈ l)
    by (no none) rest = inl (n, omega arith, λ m. none (in_times m))
    by (yes some) (inl (j, lt, out)) = inl (j, omega arith, out)
    by (yes some) (inr all) = inr (λ j m. ⊎_elim (λ (e : j ≡ n). rw e (times_in l some)) (all j) (Memᴰ.cases_cons m))

pub free_below : (n : ℕ) (l : List ℕ) → length l < n → (j : ℕ) × (j < n) × (j ∈ l → ⊥)
free_below n l lt = ⊎_elim (λ found. found) (λ all. absurd (full all)) (missing n l)
  where
    full : ((j : ℕ) → j ∈ below n → j ∈ l) → ⊥
    full all = omega (arith, below_length n, no_repeat_fits (below_once n) all)

-- ---- room for more nodes in a table for c cells that holds no more
module _ (N : Nodes) (cells : ℕ) (clock : ℤ) (h i c : ℕ) (tree : TreeSound N cells clock h i) (few : length (leaves_of N h i) ≤ c) where
  -- for one more for each two of the root's entries
  pub room : (more : ℕ) → 2 * more ≤ length (N i) → length (nodes_of N h i) + more ≤ nodes_for c
  room more entries = omega (arith, few_nodes N cells clock h i tree)

  -- so with two entries in the root there is a node that is not reached
  pub free_node : 2 ≤ length (N i) → (j : ℕ) × (j < nodes_for c) × (j ∈ nodes_of N h i → ⊥)
  free_node two = free_below (nodes_for c) (nodes_of N h i) (omega (arith, room 1 two))
