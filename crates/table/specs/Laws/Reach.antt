-- What is reached from a node, one level at a time.
use Rattle.std.specs.Prelude.{◌≡◌, ◌⊎◌}
use Rattle.std.proofs.Math.Path.{refl}
use Rattle.std.proofs.Math.Logic.{inl, inr, ⊎_elim}
use mathlib.Core.List.Memᴰ
use mathlib.Core.List.{List, [], ◌∷◌, flat_map}
use Prim.Native.Nat.{ℕ, zero, suc}
use Rattle.whole.specs.Lists.{◌∈◌}
use Rattle.node.specs.Entry.{Entry, child_of}
use Rattle.table.specs.SoundTree.{Nodes, leaves_of, nodes_of}

-- ---- the lists f x for each x of a list, one after the other
pub flat_in : {A B : Type 0} (f : A → List B) (l : List A) {y : B} → y ∈ flat_map f l → (x : A) × x ∈ l × y ∈ f x
unfolding flat_map
flat_in f [] m = absurd (Memᴰ.not-nil m)
flat_in f (x ∷ l) m =
    ⊎_elim (λ h. (x, Memᴰ.head refl, h)) (λ h. let r = flat_in f l h in (r.0, Memᴰ.tail r.1, r.2)) (Memᴰ.append_cases (f x) m)

pub in_flat : {A B : Type 0} (f : A → List B) {x : A} {l : List A} {y : B} → x ∈ l → y ∈ f x → y ∈ flat_map f l
unfolding flat_map
in_flat f (Memᴰ.head {xs} e) h = Memᴰ.append_left (flat_map f xs) (rw e at h)
in_flat f (Memᴰ.tail {x} m) h = Memᴰ.append_right (f x) (in_flat f m h)

module _ (N : Nodes) where
  -- ---- a leaf entry beneath an inner node is beneath one of its entries, and the other way round
  pub leaf_down : (h i : ℕ) {f : Entry} → f ∈ leaves_of N (suc h) i → (e : Entry) × e ∈ N i × f ∈ leaves_of N h (child_of e)
  unfolding leaves_of
  leaf_down h i m = flat_in (λ e. leaves_of N h (child_of e)) (N i) m

  pub leaf_up : (h i : ℕ) {e f : Entry} → e ∈ N i → f ∈ leaves_of N h (child_of e) → f ∈ leaves_of N (suc h) i
  unfolding leaves_of
  leaf_up h i m n = in_flat (λ e. leaves_of N h (child_of e)) m n

  -- ---- a node is reached from itself; the nodes reached from a child are reached from its parent, and no others are but the parent itself
  pub node_self : (h i : ℕ) → i ∈ nodes_of N h i
  unfolding nodes_of
  node_self zero i = Memᴰ.head refl
  node_self (suc h) i = Memᴰ.head refl

  pub node_up : (h i : ℕ) {e : Entry} {j : ℕ} → e ∈ N i → j ∈ nodes_of N h (child_of e) → j ∈ nodes_of N (suc h) i
  unfolding nodes_of
  node_up h i m n = Memᴰ.tail (in_flat (λ e. nodes_of N h (child_of e)) m n)

  pub node_down : (h i : ℕ) {j : ℕ} → j ∈ nodes_of N (suc h) i → (j ≡ i) ⊎ ((e : Entry) × e ∈ N i × j ∈ nodes_of N h (child_of e))
  unfolding nodes_of
  node_down h i m = ⊎_elim inl (λ n. inr (flat_in (λ e. nodes_of N h (child_of e)) (N i) n)) (Memᴰ.cases_cons m)
