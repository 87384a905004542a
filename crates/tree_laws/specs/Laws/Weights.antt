-- Laws of weights: of sums over a list, of lists with the same members, and of what is reached in a tree, by node, by entry and by child.
use Rattle.std.specs.Prelude.{◌≡◌, eqb, ℤ, length}
use Rattle.std.proofs.Math.Path.{refl, sym, ap}
use Rattle.std.proofs.Common.{◌∙◌, not-suc-le-zero, eq-eqb, ne_eqb}
use mathlib.Core.HLevel.{Discrete}
use mathlib.Core.List.Memᴰ
use mathlib.Core.List.{List, [], ◌∷◌, ◌++◌, map, flat_map, List-discrete}
use Prim.Native.Nat.{ℕ, zero, suc, ◌+◌, ◌≤◌, ◌<◌}
use Rattle.std.proofs.Math.Decide.{ℕ_discrete, dec_lt}
use native.Mathlib.Omega.{arith}
use Rattle.std.proofs.Math.IntN.{ℤ_discrete}
use Rattle.whole.specs.Lists.{◌∈◌, ◌⊆◌, NoRepeat, no_repeat_none, no_repeat_cons}
use Rattle.whole.specs.Inner.Times.{times, once_if}
use Rattle.whole.specs.Laws.Times.{in_times, no_repeat_times, times_no_repeat}
use Rattle.node.specs.Entry.{Entry, child_of}
use Rattle.table.specs.SoundTree.{Nodes, leaves_of, nodes_of, EntrySound, TreeSound}
use Rattle.table.specs.Laws.Reach.{node_self}
use Rattle.table.specs.Inner.Frame.{Agree}
use Rattle.table.specs.Laws.Frame.{flat_same, leaves_frame, nodes_frame, entry_frame, tree_frame}
use Rattle.table.specs.Inner.Scan.{leaves_in, nodes_in, SoundIn}
use Rattle.table.specs.Laws.Scan.{leaves_in_lem, nodes_in_lem, sound_in}
use Rattle.tree_laws.specs.Inner.Weights.{sum_over, SameWeights, weight, visits, weight_in, Once}

module _ {A : Type 0} (φ : A → ℕ) where
  -- of no member, of one more, of one, and of two lists
  pub sum_none : sum_over φ [] ≡ 0
  unfolding sum_over
  sum_none = refl

  pub sum_cons : (x : A) (l : List A) → sum_over φ (x ∷ l) ≡ φ x + sum_over φ l
  unfolding sum_over
  sum_cons x l = refl

  pub sum_one : (x : A) → sum_over φ (x ∷ []) ≡ φ x
  unfolding sum_over
  sum_one x = omega arith

  pub sum-append : (l m : List A) → sum_over φ (l ++ m) ≡ sum_over φ l + sum_over φ m
  unfolding sum_over
  sum-append [] m = omega arith
  sum-append (x ∷ l) m = omega (arith, sum-append l m)

  -- a member weighs no more than the list
  pub sum_at_least : {x : A} {l : List A} → x ∈ l → φ x ≤ sum_over φ l
  unfolding sum_over
  sum_at_least (Memᴰ.head e) = omega (arith, ap φ e)
  sum_at_least (Memᴰ.tail m) = omega (arith, sum_at_least m)

  -- a list that weighs something has a member that does
  pub sum_some : (l : List A) → 0 < sum_over φ l → (x : A) × x ∈ l × (0 < φ x)
  unfolding sum_over
  sum_some [] some = absurd (not-suc-le-zero some)
  sum_some (x ∷ l) some = by (λ s. sum_some l s) (dec_lt 0 (φ x))
    where
      by : (0 < sum_over φ l → (y : A) × y ∈ l × (0 < φ y)) → Dec (0 < φ x) → (y : A) × y ∈ x ∷ l × (0 < φ y)
      by rest (yes here) = (x, Memᴰ.head refl, here)
      by rest (no not-here) = let r = rest (omega arith) in (r.0, Memᴰ.tail r.1, r.2)

-- the same where φ and ψ agree on the members
pub sum_same : {A : Type 0} (φ ψ : A → ℕ) (l : List A) → ((x : A) → x ∈ l → φ x ≡ ψ x) → sum_over φ l ≡ sum_over ψ l
unfolding sum_over
sum_same φ ψ [] each = refl
sum_same φ ψ (x ∷ l) each = omega (arith, each x (Memᴰ.head refl), sum_same φ ψ l (λ y m. each y (Memᴰ.tail m)))

-- over images, and over the lists f x for each x
pub sum-map : {A B : Type 0} (φ : B → ℕ) (f : A → B) (l : List A) → sum_over φ (map f l) ≡ sum_over (λ x. φ (f x)) l
unfolding sum_over
sum-map φ f [] = refl
sum-map φ f (x ∷ l) = omega (arith, sum-map φ f l)

pub sum_flat : {A B : Type 0} (φ : B → ℕ) (f : A → List B) (l : List A) → sum_over φ (flat_map f l) ≡ sum_over (λ x. sum_over φ (f x)) l
unfolding sum_over flat_map
sum_flat φ f [] = refl
sum_flat φ f (x ∷ l) = omega (arith, sum-append φ (f x) (flat_map f l), sum_flat φ f l)

-- weighed by 1 it is the length, and by whether a member is k how often k stands in it
pub sum-length : {A : Type 0} (l : List A) → sum_over (λ x. 1) l ≡ length l
unfolding sum_over
sum-length [] = refl
sum-length (x ∷ l) = omega (arith, sum-length l)

pub sum-times : (k : ℕ) (l : List ℕ) → sum_over (λ x. once_if (eqb k x)) l ≡ times k l
unfolding sum_over times
sum-times k [] = refl
sum-times k (x ∷ l) = omega (arith, sum-times k l)

module _ {A : Type 0} where
  -- this is so of a list and itself, either way round, through a third, and of lists put together in any order
  pub same_refl : {l : List A} → SameWeights l l
  same_refl = record { same = λ φ. refl }

  pub same_as : {l m : List A} → l ≡ m → SameWeights l m
  same_as e = record { same = λ φ. ap (sum_over φ) e }

  pub same_sym : {l m : List A} → SameWeights l m → SameWeights m l
  same_sym s = record { same = λ φ. sym (s.same φ) }

  pub same_trans : {l m n : List A} → SameWeights l m → SameWeights m n → SameWeights l n
  same_trans s t = record { same = λ φ. s.same φ ∙ t.same φ }

  pub same_append : {l m l' m' : List A} → SameWeights l l' → SameWeights m m' → SameWeights (l ++ m) (l' ++ m')
  same_append {l} {m} {l'} {m'} s t = record { same = λ φ. omega (arith, s.same φ, t.same φ, sum-append φ l m, sum-append φ l' m') }

  pub same_swap : (l m : List A) → SameWeights (l ++ m) (m ++ l)
  same_swap l m = record { same = λ φ. omega (arith, sum-append φ l m, sum-append φ m l) }

  -- the member between two parts, put first or last
  pub same_first : (before : List A) (x : A) (after : List A) → SameWeights (before ++ x ∷ after) (x ∷ (before ++ after))
  same_first before x after = record {
    same = λ φ. omega (arith, sum-append φ before (x ∷ after), sum_cons φ x after, sum_cons φ x (before ++ after), sum-append φ before after);
  }

  -- l has one more than m, which has one less: l has the weights of x ∷ m
  pub same_cons : (x : A) {l m : List A} → ((φ : A → ℕ) → sum_over φ l ≡ sum_over φ m + φ x) → SameWeights l (x ∷ m)
  same_cons x {l} {m} more = record { same = λ φ. omega (arith, more φ, sum_cons φ x m) }

  -- they are equally long
  pub same_length : {l m : List A} → SameWeights l m → length l ≡ length m
  same_length {l} {m} s = omega (arith, s.same (λ x. 1), sum-length l, sum-length m)

-- so are their images, and of numbers each stands equally often in both
pub same_map : {A B : Type 0} (f : A → B) {l m : List A} → SameWeights l m → SameWeights (map f l) (map f m)
same_map f {l} {m} s = record { same = λ φ. sum-map φ f l ∙ s.same (λ x. φ (f x)) ∙ sym (sum-map φ f m) }

pub same_times : {l m : List ℕ} → SameWeights l m → (k : ℕ) → times k l ≡ times k m
same_times {l} {m} s k = sym (sum-times k l) ∙ s.same (λ x. once_if (eqb k x)) ∙ sum-times k m

-- ---- members, counted: how often x stands in l, for elements of which it is decided whether they are equal
abbrev one_if : {P : Type 0} → Dec P → ℕ
one_if (yes p) = 1
one_if (no n) = 0

module _ {A : Type 0} (d : Discrete A) where
  one_if_same : {x y : A} → x ≡ y → one_if (d x y) ≡ 1
  one_if_same {x} {y} e = by (d x y)
    where
      by : (c : Dec (x ≡ y)) → one_if c ≡ 1
      by (yes p) = refl
      by (no n) = absurd (n e)

  one_if_eq : {x y : A} → 0 < one_if (d x y) → x ≡ y
  one_if_eq {x} {y} = by (d x y)
    where
      by : (c : Dec (x ≡ y)) → 0 < one_if c → x ≡ y
      by (yes p) some = p
      by (no n) some = absurd (not-suc-le-zero some)

  how_often : A → List A → ℕ
  how_often x l = sum_over (λ y. one_if (d x y)) l

  in_count : {x : A} {l : List A} → x ∈ l → 0 < how_often x l
  unfolding how_often
  in_count {x} m = omega (arith, sum_at_least (λ y. one_if (d x y)) m, one_if_same {x = x} refl)

  count_in : {x : A} (l : List A) → 0 < how_often x l → x ∈ l
  unfolding how_often
  count_in {x} l some = let r = sum_some (λ y. one_if (d x y)) l some in rw (one_if_eq r.2) r.1

  no_count : {x : A} (l : List A) → (x ∈ l → ⊥) → how_often x l ≡ 0
  no_count {x} l none = by (ℕ_discrete (how_often x l) 0)
    where
      by : Dec (how_often x l ≡ 0) → how_often x l ≡ 0
      by (yes e) = e
      by (no ne) = absurd (none (count_in l (omega arith)))

  count_cons : (x y : A) (l : List A) → how_often x (y ∷ l) ≡ one_if (d x y) + how_often x l
  unfolding how_often
  count_cons x y l = sum_cons (λ z. one_if (d x z)) y l

  no_repeat_count : {l : List A} → NoRepeat l → (x : A) → how_often x l ≤ 1
  unfolding how_often sum_over
  no_repeat_count no_repeat_none x = omega arith
  no_repeat_count (no_repeat_cons {x = y} {l} new once) x = by (no_repeat_count once x) (d x y)
    where
      by : how_often x l ≤ 1 → (c : Dec (x ≡ y)) → one_if c + how_often x l ≤ 1
      by le (yes e) = omega (arith, no_count {x = x} l (rw (← e) at new))
      by le (no ne) = omega arith

  count_no_repeat : (l : List A) → ((x : A) → how_often x l ≤ 1) → NoRepeat l
  count_no_repeat [] le = no_repeat_none
  count_no_repeat (x ∷ l) le =
      no_repeat_cons
      (λ (m : x ∈ l). omega (arith, le x, in_count m, one_if_same {x = x} refl, count_cons x x l))
      (count_no_repeat l (λ y. omega (arith, le y, count_cons y x l)))

  same_count : {l m : List A} → SameWeights l m → (x : A) → how_often x l ≡ how_often x m
  unfolding how_often
  same_count s x = s.same (λ y. one_if (d x y))

  -- lists with the same weights have the same members, and the one has no repeats where the other has none
  pub same_in : {l m : List A} → SameWeights l m → l ⊆ m
  same_in {l} {m} s x i = count_in m (omega (arith, in_count i, same_count s x))

  pub same_no_repeat : {l m : List A} → SameWeights l m → NoRepeat l → NoRepeat m
  same_no_repeat {l} {m} s once = count_no_repeat m (λ x. omega (arith, same_count s x, no_repeat_count once x))

-- entries can be told apart
pub entry_discrete : Discrete Entry
entry_discrete = List-discrete ℤ_discrete

pub same_entries : {l m : List Entry} → SameWeights l m → l ⊆ m
same_entries = same_in entry_discrete

abbrev pub visits_in : ℕ → Nodes → ℕ → List Entry → ℕ
visits_in j N h es = times j (nodes_in N h es)

-- that is, none stands twice among the nodes reached
pub once_no_repeat : (N : Nodes) (h i : ℕ) → Once N h i → NoRepeat (nodes_of N h i)
once_no_repeat N h i once = times_no_repeat (nodes_of N h i) once

pub no_repeat_once : (N : Nodes) (h i : ℕ) → NoRepeat (nodes_of N h i) → Once N h i
no_repeat_once N h i once = no_repeat_times once

-- 1 where j is k
abbrev pub is_node : ℕ → ℕ → ℕ
is_node j k = once_if (eqb j k)

-- j is j; where it is 0 they differ, and the other way round; and it is at most 1
pub is_self : (j : ℕ) → is_node j j ≡ 1
is_self j = rw (eq-eqb j j refl)

pub is_other : {j k : ℕ} → is_node j k ≡ 0 → j ≡ k → ⊥
is_other {j} {k} z e = omega (arith, is_self k, rw e at z)

pub not_other : {j k : ℕ} → (j ≡ k → ⊥) → is_node j k ≡ 0
not_other {j} {k} ne = rw (ne_eqb j k ne)

pub is_most : (j k : ℕ) → is_node j k ≤ 1
is_most j k = by (ℕ_discrete j k)
  where
    by : Dec (j ≡ k) → is_node j k ≤ 1
    by (yes e) = rw e (omega (arith, is_self k))
    by (no ne) = omega (arith, not_other ne)

-- how often a node stands in a list, one more and none
pub times_cons : (j k : ℕ) (l : List ℕ) → times j (k ∷ l) ≡ is_node j k + times j l
unfolding times
times_cons j k l = refl

pub times_none : (j : ℕ) → times j [] ≡ 0
unfolding times
times_none j = refl

-- the entries of the children of some entries
abbrev pub under : Nodes → List Entry → List Entry
under N es = flat_map (λ e. N (child_of e)) es

-- the weight and the visits of one entry
unfoldable entry_weight : (Entry → ℕ) → Nodes → ℕ → Entry → ℕ
entry_weight φ N zero e = φ e
entry_weight φ N (suc h) e = weight φ N h (child_of e)

unfoldable entry_visits : ℕ → Nodes → ℕ → Entry → ℕ
entry_visits j N zero e = 0
entry_visits j N (suc h) e = visits j N h (child_of e)

sum_zero : {A : Type 0} (l : List A) → sum_over (λ x. 0) l ≡ 0
unfolding sum_over
sum_zero [] = refl
sum_zero (x ∷ l) = omega (arith, sum_zero l)

times_flat : {A : Type 0} (j : ℕ) (f : A → List ℕ) (l : List A) → times j (flat_map f l) ≡ sum_over (λ x. times j (f x)) l
times_flat j f l = sym (sum-times j (flat_map f l)) ∙ sum_flat (is_node j) f l ∙ sum_same (λ x. sum_over (is_node j) (f x)) (λ x. times j (f x)) l (λ x m. sum-times j (f x))

module _ (N : Nodes) where
  weight-sum : (φ : Entry → ℕ) (h : ℕ) (es : List Entry) → weight_in φ N h es ≡ sum_over (entry_weight φ N h) es
  unfolding leaves_in entry_weight
  weight-sum φ zero es = refl
  weight-sum φ (suc h) es = sum_flat φ (λ e. leaves_of N h (child_of e)) es

  visits-sum : (j h : ℕ) (es : List Entry) → visits_in j N h es ≡ sum_over (entry_visits j N h) es
  unfolding nodes_in entry_visits
  visits-sum j zero es = times_none j ∙ sym (sum_zero es)
  visits-sum j (suc h) es = times_flat j (λ e. nodes_of N h (child_of e)) es

  -- no entries
  pub weight_none : (φ : Entry → ℕ) (h : ℕ) → weight_in φ N h [] ≡ 0
  weight_none φ h = omega (arith, weight-sum φ h [], sum_none (entry_weight φ N h))

  pub visits_none : (j h : ℕ) → visits_in j N h [] ≡ 0
  visits_none j h = omega (arith, visits-sum j h [], sum_none (entry_visits j N h))

  -- a node by its entries
  pub weight_node : (φ : Entry → ℕ) (h i : ℕ) → weight φ N h i ≡ weight_in φ N h (N i)
  weight_node φ h i = ap (sum_over φ) (leaves_in_lem N h i)

  pub visits_node : (j h i : ℕ) → visits j N h i ≡ is_node j i + visits_in j N h (N i)
  visits_node j h i = ap (times j) (nodes_in_lem N h i) ∙ times_cons j i (nodes_in N h (N i))

  -- entries of the same weights, and entries put together
  pub weight_same : (φ : Entry → ℕ) (h : ℕ) {es fs : List Entry} → SameWeights es fs → weight_in φ N h es ≡ weight_in φ N h fs
  weight_same φ h {es} {fs} s = weight-sum φ h es ∙ s.same (entry_weight φ N h) ∙ sym (weight-sum φ h fs)

  pub visits_same : (j h : ℕ) {es fs : List Entry} → SameWeights es fs → visits_in j N h es ≡ visits_in j N h fs
  visits_same j h {es} {fs} s = visits-sum j h es ∙ s.same (entry_visits j N h) ∙ sym (visits-sum j h fs)

  pub weight-append : (φ : Entry → ℕ) (h : ℕ) (es fs : List Entry) → weight_in φ N h (es ++ fs) ≡ weight_in φ N h es + weight_in φ N h fs
  weight-append φ h es fs =
      omega (arith, weight-sum φ h es, weight-sum φ h fs, weight-sum φ h (es ++ fs), sum-append (entry_weight φ N h) es fs)

  pub visits-append : (j h : ℕ) (es fs : List Entry) → visits_in j N h (es ++ fs) ≡ visits_in j N h es + visits_in j N h fs
  visits-append j h es fs =
      omega (arith, visits-sum j h es, visits-sum j h fs, visits-sum j h (es ++ fs), sum-append (entry_visits j N h) es fs)

  -- a node that has the entries es, in any order
  pub weight_has : (φ : Entry → ℕ) (h i : ℕ) {es : List Entry} → SameWeights (N i) es → weight φ N h i ≡ weight_in φ N h es
  weight_has φ h i has = weight_node φ h i ∙ weight_same φ h has

  pub visits_has : (j h i : ℕ) {es : List Entry} → SameWeights (N i) es → visits j N h i ≡ is_node j i + visits_in j N h es
  visits_has j h i has = omega (arith, visits_node j h i, visits_same j h has)

  -- inner entries by their children, one and one after the other
  pub weight_child : (φ : Entry → ℕ) (h : ℕ) (e : Entry) (es : List Entry) → weight_in φ N (suc h) (e ∷ es) ≡ weight φ N h (child_of e) + weight_in φ N (suc h) es
  unfolding entry_weight
  weight_child φ h e es = omega (arith, weight-sum φ (suc h) (e ∷ es), weight-sum φ (suc h) es, sum_cons (entry_weight φ N (suc h)) e es)

  pub visits_child : (j h : ℕ) (e : Entry) (es : List Entry) → visits_in j N (suc h) (e ∷ es) ≡ visits j N h (child_of e) + visits_in j N (suc h) es
  unfolding entry_visits
  visits_child j h e es = omega (arith, visits-sum j (suc h) (e ∷ es), visits-sum j (suc h) es, sum_cons (entry_visits j N (suc h)) e es)

  -- inner entries by the entries of all their children
  pub weight-under : (φ : Entry → ℕ) (h : ℕ) (es : List Entry) → weight_in φ N (suc h) es ≡ weight_in φ N h (under N es)
  unfolding flat_map
  weight-under φ h [] = omega (arith, weight_none φ h, weight_none φ (suc h))
  weight-under φ h (e ∷ es) =
      omega (arith, weight_child φ h e es, weight_node φ h (child_of e), weight-append φ h (N (child_of e)) (under N es), weight-under φ h es)

  pub visits-under : (j h : ℕ) (es : List Entry) → visits_in j N (suc h) es ≡ times j (map child_of es) + visits_in j N h (under N es)
  unfolding flat_map times
  visits-under j h [] = omega (arith, visits_none j h, visits_none j (suc h))
  visits-under j h (e ∷ es) =
      omega (arith, visits_child j h e es, visits_node j h (child_of e), visits-append j h (N (child_of e)) (under N es), visits-under j h es)

  -- a leaf's entries lead nowhere
  pub visits_leaf : (j : ℕ) (es : List Entry) → visits_in j N zero es ≡ 0
  unfolding nodes_in
  visits_leaf j es = times_none j

  -- a node is met from itself
  pub visits_self : (h i : ℕ) → 0 < visits i N h i
  visits_self h i = omega (arith, visits_node i h i, is_self i)

  -- none is met twice below a child, where none is below its parent
  pub once_child : (h i : ℕ) {e : Entry} {rest : List Entry} → SameWeights (N i) (e ∷ rest) → Once N (suc h) i → Once N h (child_of e)
  once_child h i {e} {rest} has once j = omega (arith, once j, visits_has j (suc h) i has, visits_child j h e rest)

-- ---- two tables that agree on every node met through some entries
abbrev pub AgreeIn : Nodes → Nodes → ℕ → List Entry → Type 0
AgreeIn N N' h es = (j : ℕ) → 0 < visits_in j N h es → N' j ≡ N j

module _ (N N' : Nodes) where
  pub agree_child : (h : ℕ) {e : Entry} {es : List Entry} → AgreeIn N N' (suc h) es → e ∈ es → Agree N N' h (child_of e)
  unfolding entry_visits
  agree_child h {e} {es} same m j n =
      same j (omega (arith, sum_at_least (entry_visits j N (suc h)) m, visits-sum N j (suc h) es, in_times n))

  -- the entries reached are the same lists, and sound where they were
  pub leaves_in_frame : (h : ℕ) (es : List Entry) → AgreeIn N N' h es → leaves_in N' h es ≡ leaves_in N h es
  unfolding leaves_in
  leaves_in_frame zero es same = refl
  leaves_in_frame (suc h) es same =
      flat_same (λ e. leaves_of N' h (child_of e)) (λ e. leaves_of N h (child_of e)) es (λ e m. leaves_frame N N' h (child_of e) (agree_child h same m))

  pub nodes_in_frame : (h : ℕ) (es : List Entry) → AgreeIn N N' h es → nodes_in N' h es ≡ nodes_in N h es
  unfolding nodes_in
  nodes_in_frame zero es same = refl
  nodes_in_frame (suc h) es same =
      flat_same (λ e. nodes_of N' h (child_of e)) (λ e. nodes_of N h (child_of e)) es (λ e m. nodes_frame N N' h (child_of e) (agree_child h same m))

  pub sound_in_frame : (cells : ℕ) (clock : ℤ) (h : ℕ) (es : List Entry) → AgreeIn N N' h es → SoundIn N cells clock h es → SoundIn N' cells clock h es
  unfolding SoundIn
  sound_in_frame cells clock zero es same sound = sound
  sound_in_frame cells clock (suc h) es same sound = λ e m.
      let agree = agree_child h same m in
      let s = sound e m in
      (entry_frame N N' h (agree (child_of e) (node_self N h (child_of e))) s.0, tree_frame N N' cells clock h (child_of e) agree s.1)

-- ---- soundness looks at members only
pub sound_part : (N : Nodes) (cells : ℕ) (clock : ℤ) (h : ℕ) {es fs : List Entry} → es ⊆ fs → SoundIn N cells clock h fs → SoundIn N cells clock h es
unfolding SoundIn
sound_part N cells clock zero part sound = λ e m. sound e (part e m)
sound_part N cells clock (suc h) part sound = λ e m. sound e (part e m)

-- a sound node that has the entries es, in any order
pub sound_has : (N : Nodes) (cells : ℕ) (clock : ℤ) (h i : ℕ) {es : List Entry} → SameWeights (N i) es → TreeSound N cells clock h i → SoundIn N cells clock h es
sound_has N cells clock h i has sound = sound_part N cells clock h (same_entries (same_sym has)) (sound_in N cells clock h i sound)

-- of the first of some entries, and of the others
pub sound_tail : (N : Nodes) (cells : ℕ) (clock : ℤ) (h : ℕ) (e : Entry) (es : List Entry) → SoundIn N cells clock h (e ∷ es) → SoundIn N cells clock h es
sound_tail N cells clock h e es sound = sound_part N cells clock h (λ d m. Memᴰ.tail m) sound

pub sound_head : (N : Nodes) (cells : ℕ) (clock : ℤ) (h : ℕ) (e : Entry) (es : List Entry) → SoundIn N cells clock (suc h) (e ∷ es) → EntrySound N cells clock h e × TreeSound N cells clock h (child_of e)
unfolding SoundIn
sound_head N cells clock h e es sound = sound e (Memᴰ.head refl)
