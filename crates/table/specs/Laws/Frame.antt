-- The frame law: nodes with the same entries have the same beneath them and are sound alike; and a sound tree stays sound as the clock goes on.
use Rattle.std.specs.Prelude.{◌≡◌, ℤ, ◌≤ℤ◌}
use Rattle.std.proofs.Math.Path.{refl}
use Rattle.std.proofs.Common.{ap, ap₂}
use mathlib.Core.List.Memᴰ
use mathlib.Core.List.{List, [], ◌∷◌, ◌++◌, flat_map}
use Prim.Native.Nat.{ℕ, zero, suc}
use Rattle.whole.specs.Lists.{◌∈◌}
use Rattle.whole.specs.Laws.Order.{≤ℤ_trans}
use Rattle.node.specs.Entry.{Entry, child_of}
use Rattle.table.specs.SoundTree.{Nodes, leaves_of, nodes_of, NotBefore, EntrySound, TreeSound}
use Rattle.table.specs.Laws.Reach.{node_self, node_up}
use Rattle.table.specs.Inner.Frame.{Agree}

pub flat_same : {A B : Type 0} (f g : A → List B) (l : List A) → ((x : A) → x ∈ l → f x ≡ g x) → flat_map f l ≡ flat_map g l
unfolding flat_map
flat_same f g [] each = refl
flat_same {A} {B} f g (x ∷ l) each =
    ap₂ {C = List B} (λ m n. m ++ n) (each x (Memᴰ.head refl)) (flat_same f g l (λ y m. each y (Memᴰ.tail m)))

module _ (N N' : Nodes) where
  agree_down : (h i : ℕ) {e : Entry} → Agree N N' (suc h) i → e ∈ N i → Agree N N' h (child_of e)
  agree_down h i same m j n = same j (node_up N h i m n)

  agree_child : (h i : ℕ) {e : Entry} → Agree N N' (suc h) i → e ∈ N i → N' (child_of e) ≡ N (child_of e)
  agree_child h i {e} same m = same (child_of e) (node_up N h i m (node_self N h (child_of e)))

  -- the same leaf entries, the same nodes, and sound where the other is
  pub leaves_frame : (h i : ℕ) → Agree N N' h i → leaves_of N' h i ≡ leaves_of N h i
  unfolding leaves_of
  leaves_frame zero i same = same i (node_self N zero i)
  leaves_frame (suc h) i same =
      rw (same i (node_self N (suc h) i))
      (flat_same (λ e. leaves_of N' h (child_of e)) (λ e. leaves_of N h (child_of e)) (N i) (λ e m. leaves_frame h (child_of e) (agree_down h i same m)))

  pub nodes_frame : (h i : ℕ) → Agree N N' h i → nodes_of N' h i ≡ nodes_of N h i
  unfolding nodes_of
  nodes_frame zero i same = refl
  nodes_frame (suc h) i same =
      rw (same i (node_self N (suc h) i))
      (ap (λ (js : List ℕ). i ∷ js)
      (flat_same (λ e. nodes_of N' h (child_of e)) (λ e. nodes_of N h (child_of e)) (N i) (λ e m. nodes_frame h (child_of e) (agree_down h i same m))))

  not_before_frame : (h : ℕ) (e : Entry) → N' (child_of e) ≡ N (child_of e) → NotBefore N h e → NotBefore N' h e
  not_before_frame zero e same early = tt
  not_before_frame (suc h) e same early = λ f m. early f (rw same at m)

  -- an entry's soundness looks at its child's entries only
  pub entry_frame : {cells : ℕ} {clock : ℤ} (h : ℕ) {e : Entry} → N' (child_of e) ≡ N (child_of e) → EntrySound N cells clock h e → EntrySound N' cells clock h e
  entry_frame h {e} same s = record {
    child_in = s.child_in;
    filled = rw same s.filled;
    worked_out = rw same s.worked_out;
    stamp_in = s.stamp_in;
    stamped = s.stamped;
    not_before = not_before_frame h e same s.not_before;
  }

  pub tree_frame : (cells : ℕ) (clock : ℤ) (h i : ℕ) → Agree N N' h i → TreeSound N cells clock h i → TreeSound N' cells clock h i
  unfolding TreeSound
  tree_frame cells clock zero i same tree = λ e m. tree e (rw (same i (node_self N zero i)) at m)
  tree_frame cells clock (suc h) i same tree = λ e m.
      let n = rw (same i (node_self N (suc h) i)) at m in
      let u = tree e n in
      (entry_frame h (agree_child h i same n) u.0, tree_frame cells clock h (child_of e) (agree_down h i same n) u.1)

-- ---- a later clock
module _ (N : Nodes) (cells : ℕ) {clock clock' : ℤ} (later : clock ≤ℤ clock') where
  pub entry_later : (h : ℕ) {e : Entry} → EntrySound N cells clock h e → EntrySound N cells clock' h e
  entry_later h s = record {
    child_in = s.child_in;
    filled = s.filled;
    worked_out = s.worked_out;
    stamp_in = s.stamp_in;
    stamped = ≤ℤ_trans s.stamped later;
    not_before = s.not_before;
  }

  pub tree_later : (h i : ℕ) → TreeSound N cells clock h i → TreeSound N cells clock' h i
  unfolding TreeSound
  tree_later zero i tree = tree
  tree_later (suc h) i tree = λ e m. let u = tree e m in (entry_later h u.0, tree_later h (child_of e) u.1)
