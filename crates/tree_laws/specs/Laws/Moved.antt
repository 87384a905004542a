-- Changes of a tree put together, and a change below a child seen from the node.
use Rattle.std.specs.Prelude.{◌≡◌, List, ◌∷◌, ◌++◌, ℕ, suc, ◌+◌, ◌≤◌, ◌<◌, length}
use Rattle.std.proofs.Common.{ap, ◌∙◌, arith, length-append}
use Rattle.std.proofs.Math.Decide.{dec_lt}
use Rattle.whole.specs.Inner.Times.{times}
use Rattle.whole.specs.Laws.Times.{times-append, same_times_length}
use Rattle.node.specs.Entry.{Entry, child_of}
use Rattle.table.specs.SoundTree.{Nodes, leaves_of, nodes_of}
use Rattle.tree_laws.specs.Inner.Weights.{sum_over, SameWeights, visits, Once}
use Rattle.tree_laws.specs.Laws.Weights.{sum-length, same_cons, visits_in, is_node, is_self, AgreeIn, weight_has, visits_has, weight_child, visits_child, leaves_in_frame, nodes_in_frame}
use Rattle.tree_laws.specs.Inner.Moved.{MovedTo, Moved, no_weight, no_node}

-- no node that comes in is met already
abbrev pub Fresh : Nodes → ℕ → ℕ → (ℕ → ℕ) → Type 0
Fresh N h i got = (j : ℕ) → 0 < got j → visits j N h i ≡ 0

pub fresh_none : (N : Nodes) (h i : ℕ) → Fresh N h i no_node
fresh_none N h i j some = omega arith

module _ {N N' : Nodes} {h i h' i' : ℕ} {put out : (Entry → ℕ) → ℕ} {got gone : ℕ → ℕ} where
  -- the same change, written otherwise: what comes in and what goes out may both be lessened
  pub moved_as : {put' out' : (Entry → ℕ) → ℕ} {got' gone' : ℕ → ℕ} → MovedTo N N' h i h' i' put out got gone
      → ((φ : Entry → ℕ) → put φ + out' φ ≡ put' φ + out φ) → ((j : ℕ) → got j + gone' j ≡ got' j + gone j)
      → ((j : ℕ) → visits j N h i ≡ 0 → got' j ≡ 0 → got j ≡ 0) → MovedTo N N' h i h' i' put' out' got' gone'
  moved_as m weights nodes in-got = record {
    other = λ j z g. m.other j z (in-got j z g);
    weight = λ φ. omega (arith, m.weight φ, weights φ);
    met = λ j. omega (arith, m.met j, nodes j);
  }

  -- one change after another
  pub moved_trans : {N'' : Nodes} {h'' i'' : ℕ} {put' out' : (Entry → ℕ) → ℕ} {got' gone' : ℕ → ℕ} → MovedTo N N' h i h' i' put out got gone → MovedTo N' N'' h' i' h'' i'' put' out' got' gone'
      → MovedTo N N'' h i h'' i'' (λ φ. put φ + put' φ) (λ φ. out φ + out' φ) (λ j. got j + got' j) (λ j. gone j + gone' j)
  moved_trans a b = record {
    other = λ j z g. b.other j (omega (arith, a.met j)) (omega arith) ∙ a.other j z (omega arith);
    weight = λ φ. omega (arith, a.weight φ, b.weight φ);
    met = λ j. omega (arith, a.met j, b.met j);
  }

  -- no node is met twice afterwards, where none was and the nodes that come in are fresh
  pub moved_once : MovedTo N N' h i h' i' put out got gone → Once N h i → Fresh N h i got → ((j : ℕ) → got j ≤ 1) → Once N' h' i'
  moved_once m once fresh single j = by (dec_lt 0 (got j))
    where
      by : Dec (0 < got j) → visits j N' h' i' ≤ 1
      by (yes some) = omega (arith, m.met j, fresh j some, single j)
      by (no none) = omega (arith, m.met j, once j)

  -- how many leaf entries there are afterwards, and how many nodes
  pub moved-leaves : MovedTo N N' h i h' i' put out got gone → length (leaves_of N' h' i') + out (λ e. 1) ≡ length (leaves_of N h i) + put (λ e. 1)
  moved-leaves m = omega (arith, m.weight (λ e. 1), sum-length (leaves_of N h i), sum-length (leaves_of N' h' i'))

  pub moved_nodes : (gots gones : List ℕ) → ((j : ℕ) → got j ≡ times j gots) → ((j : ℕ) → gone j ≡ times j gones) → MovedTo N N' h i h' i' put out got gone
      → length (nodes_of N' h' i') + length gones ≡ length (nodes_of N h i) + length gots
  moved_nodes gots gones is-got is-gone m =
      let same = same_times_length (nodes_of N' h' i' ++ gones) (nodes_of N h i ++ gots)
      (λ j. omega (arith, m.met j, is-got j, is-gone j, times-append j (nodes_of N' h' i') gones, times-append j (nodes_of N h i) gots)) in
      omega (arith, length-append (nodes_of N' h' i') gones, length-append (nodes_of N h i) gots)

-- ---- the leaf entries afterwards, where one is put in, one is taken out, or neither
module _ {N N' : Nodes} {h i h' i' : ℕ} {got gone : ℕ → ℕ} where
  pub moved-put : {e : Entry} → MovedTo N N' h i h' i' (λ φ. φ e) no_weight got gone → SameWeights (leaves_of N' h' i') (e ∷ leaves_of N h i)
  moved-put {e} m = same_cons e (λ φ. omega (arith, m.weight φ))

  pub moved_out : {e : Entry} → MovedTo N N' h i h' i' no_weight (λ φ. φ e) got gone → SameWeights (leaves_of N h i) (e ∷ leaves_of N' h' i')
  moved_out {e} m = same_cons e (λ φ. omega (arith, m.weight φ))

  pub moved_same : MovedTo N N' h i h' i' no_weight no_weight got gone → SameWeights (leaves_of N' h' i') (leaves_of N h i)
  moved_same m = record { same = λ φ. omega (arith, m.weight φ) }

-- ---- from a child to its parent: node i has the entry e and the entries rest, and something changed below e's child
module _ (i : ℕ) {N N' : Nodes} {h : ℕ} {e : Entry} {rest : List Entry} {put out : (Entry → ℕ) → ℕ} {got gone : ℕ → ℕ}
    (has : SameWeights (N i) (e ∷ rest)) (once : Once N (suc h) i) (fresh : Fresh N (suc h) i got) (m : Moved N N' h (child_of e) put out got gone) where
  parent : (j : ℕ) → visits j N (suc h) i ≡ is_node j i + (visits j N h (child_of e) + visits_in j N (suc h) rest)
  parent j = omega (arith, visits_has N j (suc h) i has, visits_child N j h e rest)

  beyond : (j : ℕ) → 0 < visits j N (suc h) i → visits j N h (child_of e) ≡ 0 → N' j ≡ N j
  beyond j here z = m.other j z (by (dec_lt 0 (got j)))
    where
      by : Dec (0 < got j) → got j ≡ 0
      by (yes some) = omega (arith, fresh j some)
      by (no none) = omega arith

  -- the parent has its entries still
  pub down_node : N' i ≡ N i
  down_node = beyond i (omega (arith, parent i, is_self i)) (omega (arith, parent i, once i, is_self i))

  -- the subtrees of its other entries are as before
  pub down_agree : AgreeIn N N' (suc h) rest
  down_agree j here = beyond j (omega (arith, parent j)) (omega (arith, parent j, once j))

  pub down_has : SameWeights (N' i) (e ∷ rest)
  down_has = rw down_node has

  pub moved_down : Moved N N' (suc h) i put out got gone
  moved_down = record {
    other = λ j z g. m.other j (omega (arith, parent j)) g;
    weight = λ φ.
        omega (
          arith,
          m.weight φ,
          ap (sum_over φ) (leaves_in_frame N N' (suc h) rest down_agree),
          weight_has N φ (suc h) i has,
          weight_child N φ h e rest,
          weight_has N' φ (suc h) i down_has,
          weight_child N' φ h e rest,
        );
    met = λ j.
        omega (
          arith,
          m.met j,
          ap (times j) (nodes_in_frame N N' (suc h) rest down_agree),
          parent j,
          visits_has N' j (suc h) i down_has,
          visits_child N' j h e rest,
        );
  }

  -- no node is met twice below the parent, where none is below the child
  pub down_once : Once N' h (child_of e) → Once N' (suc h) i
  down_once child-once j = by (dec_lt 0 (got j))
    where
      by : Dec (0 < got j) → visits j N' (suc h) i ≤ 1
      by (yes some) = omega (arith, moved_down.met j, m.met j, fresh j some, parent j, child-once j)
      by (no none) = omega (arith, moved_down.met j, once j)
