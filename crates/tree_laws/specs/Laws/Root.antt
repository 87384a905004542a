-- The root changed: a new one above it, and one that gives way to its only child.
use Rattle.std.specs.Prelude.{◌≡◌, refl, [], ◌∷◌, ℕ, suc, ◌+◌, ℤ}
use Rattle.std.proofs.Math.Path.{sym}
use Rattle.std.proofs.Common.{ap, ◌∙◌, inl, arith}
use mathlib.Core.List.Memᴰ
use Rattle.whole.specs.Inner.Times.{times}
use Rattle.whole.specs.Laws.Times.{in_times}
use Rattle.node.specs.Entry.{Entry, child_of, stamp_of}
use Rattle.table.specs.SoundTree.{Nodes, TreeSound}
use Rattle.table.specs.Inner.Frame.{Agree}
use Rattle.table.specs.Laws.Frame.{leaves_frame, nodes_frame, tree_frame}
use Rattle.table.specs.Laws.Scan.{sound_in}
use Rattle.tree_laws.specs.Inner.Weights.{sum_over, weight, visits, Once}
use Rattle.tree_laws.specs.Laws.Weights.{is_node, is_self, is_other, same_as, weight_has, visits_has, weight_child, visits_child, weight_none, visits_none}
use Rattle.tree_laws.specs.Inner.InnerEntries.{AllInner, Renews}
use Rattle.tree_laws.specs.Laws.InnerEntries.{inner_frame}
use Rattle.tree_laws.specs.Inner.Moved.{MovedTo, no_weight, no_node}
use Rattle.tree_laws.specs.Laws.Regroup.{Afresh, afresh_sound}

-- a node with the only entry e has the leaf entries of e's child, and itself is met besides that child's nodes
module _ (N : Nodes) (h r : ℕ) {e : Entry} (only : N r ≡ e ∷ []) where
  only_leaves : (φ : Entry → ℕ) → weight φ N (suc h) r ≡ weight φ N h (child_of e)
  only_leaves φ = omega (arith, weight_has N φ (suc h) r (same_as only), weight_child N φ h e [], weight_none N φ (suc h))

  only_nodes : (j : ℕ) → visits j N (suc h) r ≡ is_node j r + visits j N h (child_of e)
  only_nodes j = omega (arith, visits_has N j (suc h) r (same_as only), visits_child N j h e [], visits_none N j (suc h))

-- growth: node r, which was not met, becomes the root, and its only entry e is for the old root
module _ (N N' : Nodes) (h r : ℕ) {e : Entry} (only : N' r ≡ e ∷ []) (fresh : visits r N h (child_of e) ≡ 0) (other : (j : ℕ) → (j ≡ r → ⊥) → N' j ≡ N j) where
  grow_agree : Agree N N' h (child_of e)
  grow_agree j m = other j (λ (q : j ≡ r). omega (arith, rw q at (in_times m)))

  pub grow_moved : MovedTo N N' h (child_of e) (suc h) r no_weight no_weight (λ j. is_node j r) no_node
  grow_moved = record {
    other = λ j z g. other j (is_other g);
    weight = λ φ. omega (arith, only_leaves N' h r only φ, ap (sum_over φ) (leaves_frame N N' h (child_of e) grow_agree));
    met = λ j. omega (arith, only_nodes N' h r only j, ap (times j) (nodes_frame N N' h (child_of e) grow_agree));
  }

  pub grow_sound : (cells : ℕ) (clock : ℤ) → TreeSound N cells clock h (child_of e) → Afresh N' cells clock h e → TreeSound N' cells clock (suc h) r
  unfolding TreeSound
  grow_sound cells clock sound afresh = λ d m.
      let below = tree_frame N N' cells clock h (child_of e) grow_agree sound in
      rw (Memᴰ.eq_of_singleton (rw only at m)) (afresh_sound afresh (sound_in N' cells clock h (child_of e) below), below)

  pub grow_renews : (clock : ℤ) → stamp_of e ≡ clock → Renews clock N h (child_of e) N' (suc h) r
  unfolding AllInner
  grow_renews clock stamped S new all = λ d m.
      rw (Memᴰ.eq_of_singleton (rw only at m)) (inl (stamped ∙ sym new), inner_frame S N N' h (child_of e) grow_agree all)

-- giving way: the root r with the only entry e is left out, and e's child is the root
module _ (N N' : Nodes) (h r : ℕ) {e : Entry} (only : N r ≡ e ∷ []) (once : Once N (suc h) r) (other : (j : ℕ) → (j ≡ r → ⊥) → N' j ≡ N j) where
  way_agree : Agree N N' h (child_of e)
  way_agree j m = other j (λ (q : j ≡ r). omega (arith, once r, only_nodes N h r only r, is_self r, rw q at (in_times m)))

  pub way_moved : MovedTo N N' (suc h) r h (child_of e) no_weight no_weight no_node (λ j. is_node j r)
  way_moved = record {
    other = λ j z g. other j (is_other (omega (arith, only_nodes N h r only j)));
    weight = λ φ. omega (arith, only_leaves N h r only φ, ap (sum_over φ) (leaves_frame N N' h (child_of e) way_agree));
    met = λ j. omega (arith, only_nodes N h r only j, ap (times j) (nodes_frame N N' h (child_of e) way_agree));
  }

  pub way_renews : (clock : ℤ) → Renews clock N (suc h) r N' h (child_of e)
  unfolding AllInner
  way_renews clock S new all = inner_frame S N N' h (child_of e) way_agree (all e (rw only (Memᴰ.head refl))).1

  pub way_sound : (cells : ℕ) (clock : ℤ) → TreeSound N cells clock h (child_of e) → TreeSound N' cells clock h (child_of e)
  way_sound cells clock sound = tree_frame N N' cells clock h (child_of e) way_agree sound
