-- How many nodes are in use and free, how a change moves that, and that a free one is left while a cell is put in.
use Rattle.std.specs.Prelude.{◌≡◌, refl, List, [], ◌∷◌, ◌++◌, ℤ, length}
use Rattle.std.proofs.Common.{sym, ap, ◌∙◌, ⊎_elim, not-suc-le-zero}
use mathlib.Core.List.Memᴰ
use Prim.Native.Nat.{ℕ, zero, suc, ◌+◌, ◌≤◌, ◌<◌}
use Rattle.std.proofs.Math.Decide.{ℕ_discrete, dec_lt}
use native.Mathlib.Omega.{arith}
use Rattle.std.proofs.Math.ListN.{length-append}
use Rattle.whole.specs.Lists.{◌∈◌}
use Rattle.whole.specs.Laws.Lists.{cut_at}
use Rattle.whole.specs.Inner.Times.{times}
use Rattle.whole.specs.Laws.Times.{times_in, in_times, times-append, same_times_length}
use Rattle.node.specs.Entry.{Entry, child_of}
use Rattle.table.specs.Header.{nodes_for}
use Rattle.table.specs.SoundTree.{Nodes, leaves_of, nodes_of, TreeSound}
use Rattle.table.specs.Laws.Reach.{node_down}
use Rattle.table.specs.Laws.Counts.{few_nodes, few_below, flat_counts}
use Rattle.table.specs.Inner.Scan.{leaves_in, nodes_in}
use Rattle.table.specs.Laws.Scan.{nodes_in_lem, sound_in}
use Rattle.table.specs.Laws.SoundBy.{nodes_below}
use Rattle.tree_laws.specs.Inner.Weights.{SameWeights, visits, Once}
use Rattle.tree_laws.specs.Laws.Weights.{sum-length, same_as, same_sym, same_length, same_entries, same_trans, same_first, is_node, is_self, not_other, times_cons, times_none, visits_has, visits_child, weight_has, weight_child}
use Rattle.tree_laws.specs.Inner.Moved.{MovedTo, Moved, no_weight, no_node}
use Rattle.tree_laws.specs.Laws.Moved.{moved-leaves, moved_nodes}
use Rattle.tree_laws.specs.Inner.Used.{sum_below, Free, in_use, used, Room}

below_none : (n : ℕ) → sum_below (λ j. 0) n ≡ 0
unfolding sum_below
below_none zero = refl
below_none (suc n) = omega (arith, below_none n)

-- where f and g together are f' and g' at each, their sums are
below_plus : (f g f' g' : ℕ → ℕ) (n : ℕ) → ((j : ℕ) → j < n → f j + g j ≡ f' j + g' j) → sum_below f n + sum_below g n ≡ sum_below f' n + sum_below g' n
unfolding sum_below
below_plus f g f' g' zero each = refl
below_plus f g f' g' (suc n) each = omega (arith, each n (omega arith), below_plus f g f' g' n (λ j lt. each j (omega arith)))

below_same : (f g : ℕ → ℕ) (n : ℕ) → ((j : ℕ) → j < n → f j ≡ g j) → sum_below f n ≡ sum_below g n
below_same f g n each =
    omega (arith, below_plus f (λ j. 0) g (λ j. 0) n (λ j lt. omega (arith, each j lt)))

pub below_one : (k n : ℕ) → k < n → sum_below (λ j. is_node j k) n ≡ 1
unfolding sum_below
below_one k zero lt = absurd (not-suc-le-zero lt)
below_one k (suc n) lt = by (λ h. below_one k n h) (ℕ_discrete n k)
  where
    by : (k < n → sum_below (λ j. is_node j k) n ≡ 1) → Dec (n ≡ k) → sum_below (λ j. is_node j k) n + is_node n k ≡ 1
    by again (yes e) =
        let before : sum_below (λ j. is_node j k) n ≡ 0 = below_same (λ j. is_node j k) (λ j. 0) n (λ j h. not_other (apart j h)) ∙ below_none n in
        rw e (omega (arith, is_self k, rw e at before))
      where
        apart : (j : ℕ) → j < n → j ≡ k → ⊥
        apart j h f = omega arith
    by again (no ne) = omega (arith, again (omega arith), not_other ne)

-- the numbers of a list, counted below a number that all of them are below
below_times : (l : List ℕ) (n : ℕ) → ((j : ℕ) → j ∈ l → j < n) → sum_below (λ j. times j l) n ≡ length l
below_times [] n low = below_same (λ j. times j []) (λ j. 0) n (λ j lt. times_none j) ∙ below_none n
below_times (k ∷ l) n low =
    let rest = below_times l n (λ j m. low j (Memᴰ.tail m)) in
    let sum = below_plus (λ j. times j (k ∷ l)) (λ j. 0) (λ j. is_node j k) (λ j. times j l) n (λ j lt. omega (arith, times_cons j k l)) in
    omega (arith, below_none n, below_one k n (low k (Memᴰ.head refl)))

pub use_free : {es : List Entry} → in_use es ≡ 0 → es ≡ []
unfolding in_use
use_free {es = []} z = refl
use_free {es = e ∷ es} z = absurd (omega arith)

pub free_use : {es : List Entry} → es ≡ [] → in_use es ≡ 0
unfolding in_use
free_use e = rw e

pub use_some : (es : List Entry) → 0 < length es → in_use es ≡ 1
unfolding in_use
use_some [] some = absurd (not-suc-le-zero some)
use_some (e ∷ es) some = refl

pub no_entries : (es : List Entry) → length es ≡ 0 → es ≡ []
no_entries [] none = refl
no_entries (e ∷ es) none = absurd (omega arith)

-- where not all nodes below n are in use, one of them is free
pub free_one : (N : Nodes) (n : ℕ) → used N n < n → (j : ℕ) × (j < n) × Free N j
unfolding sum_below
free_one N zero lt = absurd (not-suc-le-zero lt)
free_one N (suc n) lt = by (λ h. free_one N n h) (ℕ_discrete (in_use (N n)) 0)
  where
    by : (used N n < n → (j : ℕ) × (j < n) × Free N j) → Dec (in_use (N n) ≡ 0) → (j : ℕ) × (j < suc n) × Free N j
    by again (yes z) = (n, omega arith, use_free z)
    by again (no ne) = let r = again (omega arith) in (r.0, omega (arith, r.1), r.2)

-- ---- every node that is met is in use
abbrev pub AllUsed : Nodes → ℕ → ℕ → Type 0
AllUsed N h i = (j : ℕ) → 0 < visits j N h i → in_use (N j) ≡ 1

-- so it is below a sound node that has an entry
pub sound_used : (N : Nodes) (cells : ℕ) (clock : ℤ) (h i : ℕ) → TreeSound N cells clock h i → 0 < length (N i) → AllUsed N h i
unfolding TreeSound nodes_of
sound_used N cells clock h i sound some = λ j met. use_some (N j) (filled h i sound some (times_in (nodes_of N h i) met))
  where
    filled : (h i : ℕ) → TreeSound N cells clock h i → 0 < length (N i) → {j : ℕ} → j ∈ nodes_of N h i → 0 < length (N j)
    filled zero i s some {j} m = rw (Memᴰ.eq_of_singleton m) some
    filled (suc h) i s some {j} m =
        ⊎_elim (λ (q : j ≡ i). rw q some) (λ r. let t = s r.0 r.1 in filled h (child_of r.0) t.1 (omega (arith, t.0.filled)) r.2) (node_down N h i m)

-- a free node is not met
pub free_unmet : (N : Nodes) (h i j : ℕ) → AllUsed N h i → Free N j → visits j N h i ≡ 0
free_unmet N h i j all free = by (dec_lt 0 (visits j N h i))
  where
    by : Dec (0 < visits j N h i) → visits j N h i ≡ 0
    by (yes met) = absurd (both (all j met) (free_use free))
      where
        both : in_use (N j) ≡ 1 → in_use (N j) ≡ 0 → ⊥
        both p q = omega arith
    by (no unmet) = omega arith

-- below a sound node of the table all nodes met are nodes of the table
pub met_below : (N : Nodes) (cells : ℕ) (clock : ℤ) (h i : ℕ) → TreeSound N cells clock h i → i < nodes_for cells → (j : ℕ) → 0 < visits j N h i → j < nodes_for cells
met_below N cells clock h i sound lt j met =
    ⊎_elim (λ (q : j ≡ i). rw q lt) (nodes_below N cells clock h (N i) (sound_in N cells clock h i sound) j)
    (Memᴰ.cases_cons (rw (nodes_in_lem N h i) at (times_in (nodes_of N h i) met)))

-- each node below n is met or free: as many are in use as are met
pub used_all : (N : Nodes) (n h i : ℕ) → Once N h i → AllUsed N h i → ((j : ℕ) → 0 < visits j N h i → j < n) → ((j : ℕ) → j < n → visits j N h i ≡ 0 → Free N j)
    → used N n ≡ length (nodes_of N h i)
used_all N n h i once all low rest =
    below_same (λ j. in_use (N j)) (λ j. visits j N h i) n (λ j lt. by j lt (dec_lt 0 (visits j N h i))) ∙
    below_times (nodes_of N h i) n (λ j m. low j (in_times m))
  where
    by : (j : ℕ) → j < n → Dec (0 < visits j N h i) → in_use (N j) ≡ visits j N h i
    by j lt (yes met) = omega (arith, all j met, once j)
    by j lt (no unmet) = omega (arith, free_use (rest j lt (omega arith)))

-- ---- a change
module _ {N N' : Nodes} {h i h' i' : ℕ} {put out : (Entry → ℕ) → ℕ} {got gone : ℕ → ℕ} (m : MovedTo N N' h i h' i' put out got gone) where
  -- the nodes that come in, free before, are in use afterwards, and those that go out are free afterwards
  pub used-moved : Once N h i → Once N' h' i' → AllUsed N h i → AllUsed N' h' i' → ((j : ℕ) → 0 < got j → Free N j) → ((j : ℕ) → 0 < gone j → Free N' j)
      → (n : ℕ) → used N' n + sum_below gone n ≡ used N n + sum_below got n
  used-moved once once' all all' free free' n = below_plus (λ j. in_use (N' j)) gone (λ j. in_use (N j)) got n (λ j lt. by j (dec_lt 0 (visits j N h i)) (dec_lt 0 (visits j N' h' i')) (dec_lt 0 (got j)))
    where
      by : (j : ℕ) → Dec (0 < visits j N h i) → Dec (0 < visits j N' h' i') → Dec (0 < got j) → in_use (N' j) + gone j ≡ in_use (N j) + got j
      by j (yes a) (yes b) c = omega (arith, m.met j, all j a, all' j b, once j, once' j)
      by j (yes a) (no b) c = omega (arith, m.met j, all j a, once j, free_use (free' j (omega (arith, m.met j))))
      by j (no a) (yes b) c = omega (arith, m.met j, all' j b, once' j, free_use (free j (omega (arith, m.met j))))
      by j (no a) (no b) (yes c) = omega (arith, m.met j, free_use (free j c), free_use (free' j (omega (arith, m.met j))))
      by j (no a) (no b) (no c) = omega (arith, m.met j, ap in_use (m.other j (omega arith) (omega arith)))

  -- a node that is not met is free afterwards, where it was so before and the nodes that go out are free
  pub moved-rest : (n : ℕ) → ((j : ℕ) → j < n → visits j N h i ≡ 0 → Free N j) → ((j : ℕ) → 0 < gone j → Free N' j) → (j : ℕ) → j < n → visits j N' h' i' ≡ 0 → Free N' j
  moved-rest n rest freed j lt unmet = by (dec_lt 0 (gone j))
    where
      by : Dec (0 < gone j) → Free N' j
      by (yes some) = freed j some
      by (no none) = m.other j (omega (arith, m.met j)) (omega (arith, m.met j)) ∙ rest j lt (omega (arith, m.met j))

-- a node that is free after a change in which none goes out was free before it
pub free_back : {N N' : Nodes} {h i h' i' : ℕ} {put out : (Entry → ℕ) → ℕ} {got : ℕ → ℕ} (j : ℕ) → MovedTo N N' h i h' i' put out got no_node → AllUsed N' h' i' → Free N' j → Free N j
free_back {N'} {h'} {i'} j m all free =
    let unmet = free_unmet N' h' i' j all free in
    sym (m.other j (omega (arith, m.met j)) (omega (arith, m.met j))) ∙ free

-- what is said of node f, counted
pub free_node : (N : Nodes) (f : ℕ) → Free N f → (j : ℕ) → 0 < is_node j f → Free N j
free_node N f free j some = by (ℕ_discrete j f)
  where
    by : Dec (j ≡ f) → Free N j
    by (yes e) = rw e free
    by (no ne) = absurd (none (not_other ne))
      where
        none : is_node j f ≡ 0 → ⊥
        none z = omega arith

-- one node comes in
pub used_got : {N N' : Nodes} {h i h' i' : ℕ} {put out : (Entry → ℕ) → ℕ} (f n : ℕ) → MovedTo N N' h i h' i' put out (λ j. is_node j f) no_node
    → Once N h i → Once N' h' i' → AllUsed N h i → AllUsed N' h' i' → Free N f → f < n → used N' n ≡ used N n + 1
used_got {N} f n m once once' all all' free lt =
    let change = used-moved m once once' all all' (free_node N f free) (λ j some. absurd (not-suc-le-zero some)) n in
    omega (arith, below_none n, below_one f n lt)

-- two changes in which no node comes in: the nodes that go out in either are free in the end
pub freed_trans : {N N' N'' : Nodes} {h i h' i' h'' i'' : ℕ} {put out put' out' : (Entry → ℕ) → ℕ} {gone gone' : ℕ → ℕ}
    → MovedTo N N' h i h' i' put out no_node gone → MovedTo N' N'' h' i' h'' i'' put' out' no_node gone' → Once N h i
    → ((j : ℕ) → 0 < gone j → Free N' j) → ((j : ℕ) → 0 < gone' j → Free N'' j) → (j : ℕ) → 0 < gone j + gone' j → Free N'' j
freed_trans {N''} {gone} a b once freed freed' j some = by (dec_lt 0 (gone j))
  where
    by : Dec (0 < gone j) → Free N'' j
    by (yes here) = b.other j (omega (arith, a.met j, once j)) refl ∙ freed j here
    by (no later) = freed' j (omega arith)

-- it holds at an inner root, where fewer cells are held than there may be and no other nodes are in use
pub room_root : (cells : ℕ) (N : Nodes) (h i : ℕ) → length (leaves_of N h i) < cells → 2 ≤ length (N i) → Room cells (length (nodes_of N h i)) N h i
room_root cells N h i few two = record { room = omega arith }

-- a root with four entries, a leaf or not, leaves two nodes for a new root and a split of the old one
pub two_left : (cells : ℕ) (clock : ℤ) (N : Nodes) (h i : ℕ) → TreeSound N cells clock h i → length (leaves_of N h i) < cells → 4 ≤ length (N i)
    → length (nodes_of N h i) + 2 ≤ nodes_for cells
two_left cells clock N h i sound few four = omega (arith, few_nodes N cells clock h i sound)

module _ (cells : ℕ) (clock : ℤ) (N : Nodes) where
  -- with it a node is left
  pub room_left : (h i : ℕ) {u : ℕ} → TreeSound N cells clock h i → Room cells u N h i → u < nodes_for cells
  room_left h i sound r = omega (arith, r.room, few_nodes N cells clock h i sound)

  -- so there is a free one
  pub room_free : (h i : ℕ) → TreeSound N cells clock h i → Room cells (used N (nodes_for cells)) N h i → (j : ℕ) × (j < nodes_for cells) × Free N j
  room_free h i sound r = free_one N (nodes_for cells) (room_left h i sound r)

  -- it passes to each child
  pub room_down : (h i : ℕ) {e : Entry} {u : ℕ} → TreeSound N cells clock (suc h) i → e ∈ N i → Room cells u N (suc h) i → Room cells u N h (child_of e)
  unfolding TreeSound leaves_in nodes_in
  room_down h i {e} sound m r =
      let c = cut_at m in
      let rest = c.0 ++ c.1 in
      let has : SameWeights (N i) (e ∷ rest) = same_trans (same_as c.2) (same_first c.0 e c.1) in
      let few = flat_counts (λ d. leaves_of N h (child_of d)) (λ d. nodes_of N h (child_of d)) rest
      (λ d n. let s = sound d (same_entries (same_sym has) d (Memᴰ.tail n)) in few_below N cells clock h d s.0 s.1) in
      let one : Entry → ℕ = λ d. 1 in
      let nodes = same_times_length (nodes_of N (suc h) i) (i ∷ (nodes_of N h (child_of e) ++ nodes_in N (suc h) rest))
      (λ j. omega (arith, visits_has N j (suc h) i has, visits_child N j h e rest, times_cons j i (nodes_of N h (child_of e) ++ nodes_in N (suc h) rest), times-append j (nodes_of N h (child_of e)) (nodes_in N (suc h) rest))) in
      record {
        room = omega (
          arith,
          r.room,
          (sound e m).0.filled,
          weight_has N one (suc h) i has,
          weight_child N one h e rest,
          sum-length (leaves_of N (suc h) i),
          sum-length (leaves_of N h (child_of e)),
          sum-length (leaves_in N (suc h) rest),
          length-append (nodes_of N h (child_of e)) (nodes_in N (suc h) rest),
          same_length has,
        );
      }

-- it is kept by a split, which puts a node in use and an entry into i
pub room_split : (cells : ℕ) {N N' : Nodes} {h i u : ℕ} (f : ℕ) → Moved N N' h i no_weight no_weight (λ j. is_node j f) no_node → length (N' i) ≡ length (N i) + 1
    → Room cells u N h i → Room cells (u + 1) N' h i
room_split cells f m more r = record {
  room = omega (arith, r.room, moved-leaves m, moved_nodes (f ∷ []) [] (λ j. omega (arith, times_cons j f [], times_none j)) (λ j. omega (arith, times_none j)) m);
}
